-- Locks of each sort: who gets one, and who is granted it at an unlock. lock(2).
use Rattle.std.specs.Prelude.{ℕ, ◌-◌, ◌==◌, Bool, true, false, not, ◌&&◌, List, [], ◌∷◌, ◌++◌, Option, Some, None, is_none, if◌then◌else◌}
use Rattle.std.specs.List.{list_any}
use Rattle.p9_manual.specs.declared.locks.Sort.{Sort}
use Rattle.p9_manual.specs.declared.locks.Sort.TheVariants as sort
use Rattle.p9_manual.specs.declared.locks.LockWait.TheVariants as wait
use Rattle.p9_manual.specs.declared.locks.LockWaiter.{LockWaiter}
use Rattle.p9_manual.specs.Holds.{Holds, RwHold}
use Rattle.p9_manual.specs.Queues.{waits_at_rw, joined}
use Rattle.p9_manual.specs.State.{by_id, changed}

-- what a request for a lock comes to: whether its caller got it, and who holds and who waits then
pub record Claim : Type 0 where
  pub got : Bool
  pub holds : Holds
  pub waits : List LockWaiter

-- a Lock or a QLock that is there, and that nobody holds
abbrev pub is_free : Option (Option ℕ) → Bool
is_free (Some None) = true
is_free (Some (Some t)) = false
is_free None = false

-- who holds a Lock or a QLock
abbrev pub holder_in : Option (Option ℕ) → Option ℕ
holder_in (Some h) = h
holder_in None = None

-- this is thread t
abbrev pub is_thread : ℕ → Option ℕ → Bool
is_thread t (Some u) = u == t
is_thread t None = false

-- who holds an RWLock; nobody holds one that isn't there
abbrev pub rw_hold : Option RwHold → RwHold
rw_hold (Some hold) = hold
rw_hold None = record { writer = None; readers = [] }

abbrev pub rw_at : ℕ → Holds → RwHold
rw_at k h = rw_hold (by_id h.rwlocks k)

-- the list is empty
abbrev pub is_empty : {A : Type 0} → List A → Bool
is_empty [] = true
is_empty (x ∷ xs) = false

-- who gets a lock at once: where nobody holds it; a reader where no writer holds it and nobody waits at it
abbrev pub can_get : Sort → ℕ → Holds → List LockWaiter → Bool
can_get sort.Lock k h waits = is_free (by_id h.locks k)
can_get sort.QLock k h waits = is_free (by_id h.qlocks k)
can_get sort.Read k h waits = is_none (rw_at k h).writer && not (list_any (waits_at_rw k) waits)
can_get sort.Write k h waits = is_none (rw_at k h).writer && is_empty (rw_at k h).readers

-- thread t holds lock k so
abbrev pub has_lock : Sort → ℕ → ℕ → Holds → Bool
has_lock sort.Lock t k h = is_thread t (holder_in (by_id h.locks k))
has_lock sort.QLock t k h = is_thread t (holder_in (by_id h.qlocks k))
has_lock sort.Read t k h = list_any (λ r. r == t) (rw_at k h).readers
has_lock sort.Write t k h = is_thread t (rw_at k h).writer

-- the one thread that holds lock k; none where nobody does or readers do
abbrev pub holder_of : Sort → ℕ → Holds → Option ℕ
holder_of sort.Lock k h = holder_in (by_id h.locks k)
holder_of sort.QLock k h = holder_in (by_id h.qlocks k)
holder_of sort.Read k h = (rw_at k h).writer
holder_of sort.Write k h = (rw_at k h).writer

-- the holds with this for Lock, QLock or RWLock k
abbrev pub with_lock : ℕ → Option ℕ → Holds → Holds
with_lock k holder h = record h { locks = changed (λ _. holder) h.locks (k - 1) }

abbrev pub with_qlock : ℕ → Option ℕ → Holds → Holds
with_qlock k holder h = record h { qlocks = changed (λ _. holder) h.qlocks (k - 1) }

abbrev pub with_rwlock : ℕ → RwHold → Holds → Holds
with_rwlock k hold h = record h { rwlocks = changed (λ _. hold) h.rwlocks (k - 1) }

-- thread t gets lock k; a reader beside the readers that hold it
abbrev pub with_hold : Sort → ℕ → ℕ → Holds → Holds
with_hold sort.Lock t k h = with_lock k (Some t) h
with_hold sort.QLock t k h = with_qlock k (Some t) h
with_hold sort.Read t k h = with_rwlock k (record (rw_at k h) { readers = (rw_at k h).readers ++ t ∷ [] }) h
with_hold sort.Write t k h = with_rwlock k (record (rw_at k h) { writer = Some t }) h

-- lock, qlock, rlock, wlock: the caller gets the lock, or waits for it behind all others
abbrev pub claim : Sort → ℕ → ℕ → Holds → List LockWaiter → Claim
claim s t k h waits =
    if can_get s k h waits
    then record { got = true; holds = with_hold s t k h; waits = waits }
    else record { got = false; holds = h; waits = joined t (wait.Lock s k) 0 waits }

-- canlock, canqlock, canrlock, canwlock: the caller gets the lock, or nothing happens
abbrev pub attempt : Sort → ℕ → ℕ → Holds → List LockWaiter → Claim
attempt s t k h waits =
    if can_get s k h waits
    then record { got = true; holds = with_hold s t k h; waits = waits }
    else record { got = false; holds = h; waits = waits }
