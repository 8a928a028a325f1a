-- Locks, worked out: a thread that sleeps and is woken, and readers and writers in one queue. lock(2).
use Rattle.std.specs.Prelude.{ℕ, ◌≡◌, true, false, List, [], ◌∷◌, Option, Some, None}
use Rattle.p9_manual.specs.declared.locks.Sort.TheVariants as sort
use Rattle.p9_manual.specs.declared.locks.LockWait.{LockWait}
use Rattle.p9_manual.specs.declared.locks.LockWait.TheVariants as wait
use Rattle.p9_manual.specs.declared.locks.LockWaiter.{LockWaiter}
use Rattle.p9_manual.specs.Claims.{claim, attempt, has_lock}
use Rattle.p9_manual.specs.Holds.{Holds}
use Rattle.p9_manual.specs.Rendez.{count_woken, sleep, wakeup}
use Rattle.p9_manual.specs.Unlocks.{release}

-- one QLock, with this holder
abbrev pub qlock : Option ℕ → Holds
qlock holder = record { locks = []; qlocks = holder ∷ []; rwlocks = []; refs = [] }

-- one RWLock, with this writer and these readers
abbrev pub rwlock : Option ℕ → List ℕ → Holds
rwlock writer readers = record { locks = []; qlocks = []; rwlocks = record { writer = writer; readers = readers } ∷ []; refs = [] }

-- thread t waits for this
abbrev pub waits : ℕ → LockWait → LockWaiter
waits t what = record { tid = t; what = what; value = 0 }

-- a thread that waits for the QLock, for the RWLock to read or to write, or sleeps at the Rendez
abbrev pub for_qlock : ℕ → LockWaiter
for_qlock t = waits t (wait.Lock sort.QLock 1)

abbrev pub to_read : ℕ → LockWaiter
to_read t = waits t (wait.Lock sort.Read 1)

abbrev pub to_write : ℕ → LockWaiter
to_write t = waits t (wait.Lock sort.Write 1)

abbrev pub asleep : ℕ → LockWaiter
asleep t = waits t (wait.Sleep 1)

-- thread 1 gets the QLock, thread 2 waits for it; thread 1 sleeps at the Rendez, so thread 2 gets the QLock. It wakes thread 1,
-- which waits for the QLock then: it is woken once, and can't be passed. As thread 2 gives the QLock up, thread 1 has it
pub record SleepsAndIsWoken : Type 0 where
  pub gets : claim sort.QLock 1 1 (qlock None) [] ≡ record { got = true; holds = qlock (Some 1); waits = [] }
  pub waits : claim sort.QLock 2 1 (qlock (Some 1)) [] ≡ record { got = false; holds = qlock (Some 1); waits = for_qlock 2 ∷ [] }
  pub sleeps : sleep 1 1 1 (qlock (Some 1)) (for_qlock 2 ∷ []) ≡ record { holds = qlock (Some 2); waits = asleep 1 ∷ []; granted = 2 ∷ [] }
  pub moved : count_woken 1 (asleep 1 ∷ []) ≡ 1
  pub woken : wakeup 1 1 (asleep 1 ∷ []) ≡ for_qlock 1 ∷ []
  pub once : count_woken 1 (for_qlock 1 ∷ []) ≡ 0
  pub held : attempt sort.QLock 2 1 (qlock (Some 2)) (for_qlock 1 ∷ []) ≡ record { got = false; holds = qlock (Some 2); waits = for_qlock 1 ∷ [] }
  pub given_up : release sort.QLock 2 1 (qlock (Some 2)) (for_qlock 1 ∷ []) ≡ record { holds = qlock (Some 1); waits = []; granted = 1 ∷ [] }
  pub not_twice : has_lock sort.QLock 2 1 (qlock (Some 1)) ≡ false

-- a reader doesn't pass a writer that waits, even where other readers hold the lock
pub record ReadersWaitBehindAWriter : Type 0 where
  pub rlock : claim sort.Read 3 1 (rwlock None (1 ∷ [])) (to_write 2 ∷ []) ≡ record { got = false; holds = rwlock None (1 ∷ []); waits = to_write 2 ∷ to_read 3 ∷ [] }
  pub canrlock : attempt sort.Read 3 1 (rwlock None (1 ∷ [])) (to_write 2 ∷ []) ≡ record { got = false; holds = rwlock None (1 ∷ []); waits = to_write 2 ∷ [] }
  pub alone : claim sort.Read 3 1 (rwlock None (1 ∷ [])) [] ≡ record { got = true; holds = rwlock None (1 ∷ 3 ∷ []); waits = [] }

-- a writer gives the lock up: the readers up to the first writer get it together, and the one behind that waits. The writer gets
-- it once the last of them gives it up; one who reads twice gives it up twice
pub record ReadersGoTogether : Type 0 where
  pub together : release sort.Write 1 1 (rwlock (Some 1) []) (to_read 2 ∷ to_read 3 ∷ to_write 4 ∷ to_read 5 ∷ []) ≡ record { holds = rwlock None (2 ∷ 3 ∷ []); waits = to_write 4 ∷ to_read 5 ∷ []; granted = 2 ∷ 3 ∷ [] }
  pub not_last : release sort.Read 3 1 (rwlock None (2 ∷ 3 ∷ [])) (to_write 4 ∷ to_read 5 ∷ []) ≡ record { holds = rwlock None (2 ∷ []); waits = to_write 4 ∷ to_read 5 ∷ []; granted = [] }
  pub last : release sort.Read 2 1 (rwlock None (2 ∷ [])) (to_write 4 ∷ to_read 5 ∷ []) ≡ record { holds = rwlock (Some 4) []; waits = to_read 5 ∷ []; granted = 4 ∷ [] }
  pub twice : release sort.Read 2 1 (rwlock None (2 ∷ 2 ∷ [])) (to_write 4 ∷ []) ≡ record { holds = rwlock None (2 ∷ []); waits = to_write 4 ∷ []; granted = [] }
