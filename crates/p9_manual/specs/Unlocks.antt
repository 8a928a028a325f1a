-- Unlocks: who is granted a lock that its holder gives up. lock(2).
use Rattle.std.specs.Prelude.{ℕ, ◌==◌, List, [], ◌∷◌, ◌++◌, Option, Some, None}
use Rattle.std.specs.List.{find}
use Rattle.std.specs.Option.{option_map, option_to_list}
use Rattle.p9_manual.specs.declared.locks.Sort.{Sort}
use Rattle.p9_manual.specs.declared.locks.Sort.TheVariants as sort
use Rattle.p9_manual.specs.declared.locks.LockWait.{LockWait}
use Rattle.p9_manual.specs.declared.locks.LockWait.TheVariants as wait
use Rattle.p9_manual.specs.declared.locks.LockWaiter.{LockWaiter}
use Rattle.p9_manual.specs.Holds.{Holds}
use Rattle.p9_manual.specs.Queues.{waits_for, without_first, writer_first, readers_in, readers_left}
use Rattle.p9_manual.specs.Claims.{rw_at, with_lock, with_qlock, with_rwlock}

-- what an unlock comes to: who holds and who waits then, and who was granted the lock, in the order of its queue
pub record Grant : Type 0 where
  pub holds : Holds
  pub waits : List LockWaiter
  pub granted : List ℕ

-- the thread that waits longest for this
abbrev pub first_for : LockWait → List LockWaiter → Option ℕ
first_for what waits = option_map (λ w. w.tid) (find (waits_for what) waits)

-- a Lock or a QLock is given up: the head of its queue is granted it
abbrev pub lock_released : ℕ → Holds → List LockWaiter → Grant
lock_released k h waits =
    let next = first_for (wait.Lock sort.Lock k) waits
    in record { holds = with_lock k next h; waits = without_first (waits_for (wait.Lock sort.Lock k)) waits; granted = option_to_list next }

abbrev pub qlock_released : ℕ → Holds → List LockWaiter → Grant
qlock_released k h waits =
    let next = first_for (wait.Lock sort.QLock k) waits
    in record { holds = with_qlock k next h; waits = without_first (waits_for (wait.Lock sort.QLock k)) waits; granted = option_to_list next }

-- RWLock k is given up by the last that held it, and these are left of its readers: the writer at the head of its queue is
-- granted it
abbrev pub rw_passed : ℕ → List ℕ → Option ℕ → Holds → List LockWaiter → Grant
rw_passed k readers (Some t) h waits =
    record {
      holds = with_rwlock k (record { writer = Some t; readers = readers }) h;
      waits = without_first (waits_for (wait.Lock sort.Write k)) waits;
      granted = t ∷ [];
    }
-- where no writer is there, all readers up to the first writer are
rw_passed k readers None h waits =
    record {
      holds = with_rwlock k (record { writer = None; readers = readers ++ readers_in k waits }) h;
      waits = readers_left k waits;
      granted = readers_in k waits;
    }

-- a reader gives one of its holds up, and these are left: where there are none, it was the last
abbrev pub read_released : ℕ → List ℕ → Holds → List LockWaiter → Grant
read_released k [] h waits = rw_passed k [] (writer_first k waits) h waits
read_released k (r ∷ rs) h waits =
    record { holds = with_rwlock k (record (rw_at k h) { readers = r ∷ rs }) h; waits = waits; granted = [] }

-- unlock, qunlock, runlock, wunlock of lock k by thread t
abbrev pub release : Sort → ℕ → ℕ → Holds → List LockWaiter → Grant
release sort.Lock t k h waits = lock_released k h waits
release sort.QLock t k h waits = qlock_released k h waits
release sort.Read t k h waits = read_released k (without_first (λ r. r == t) (rw_at k h).readers) h waits
release sort.Write t k h waits = rw_passed k (rw_at k h).readers (writer_first k waits) h waits
