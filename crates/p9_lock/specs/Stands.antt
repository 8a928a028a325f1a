-- What the locks stand for of a manual's state, and when a call does to them what the manual does to the state. lock(2),
-- rendezvous(2).
use Rattle.std.specs.Prelude.{ℕ, ◌≡◌, List}
use Rattle.p9_manual.specs.LockWaits.{lock_waiters}
use Rattle.p9_manual.specs.State.{State}
use Rattle.p9_lock.specs.Locking.{Locking}

-- the locks, with Rendezes on these QLocks, stand for who holds the locks of a state and who waits there
pub record LocksFor (rendezes : List ℕ) (locks : Locking) (s : State) : Type 0 where
  pub holds : s.holds ≡ locks.holds
  pub waits : lock_waiters s.waits ≡ locks.waits
  pub on : locks.rendezes ≡ rendezes

-- whatever state the old locks stand for, the new ones stand for what f makes of it
abbrev pub Tracks : (State → State) → Locking → Locking → Type 0
Tracks f old new = (rendezes : List ℕ) (s : State) → LocksFor rendezes old s → LocksFor rendezes new (f s)
