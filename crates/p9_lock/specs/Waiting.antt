-- What is seen of the threads that wait, and of the readers.
use Rattle.std.specs.Prelude.{ℕ, ◌-◌, ◌==◌, Bool, not, List, Option}
use Rattle.std.specs.List.{filter, find}
use Rattle.std.specs.Option.{option_map}
use Rattle.p9_manual.specs.declared.locks.LockWait.{LockWait}
use Rattle.p9_manual.specs.declared.locks.LockWaiter.{LockWaiter}
use Rattle.p9_manual.specs.Holds.{RwHold}
use Rattle.p9_manual.specs.State.{changed}

-- the threads that wait, and whether there is memory for one more
pub record Waiting : Type 0 where
  pub waits : List LockWaiter
  pub room : Bool

-- who holds the RWLocks, and for how many more readers there is memory
pub record Reading : Type 0 where
  pub rwlocks : List RwHold
  pub spare : ℕ

-- RWLock k is held so
abbrev pub held_so : ℕ → RwHold → List RwHold → List RwHold
held_so k hold rwlocks = changed (λ _. hold) rwlocks (k - 1)

-- where thread t waits
abbrev pub wait_of : ℕ → List LockWaiter → Option LockWait
wait_of t waits = option_map (λ w. w.what) (find (λ w. w.tid == t) waits)

-- the threads that wait, but for thread t
abbrev pub others : ℕ → List LockWaiter → List LockWaiter
others t waits = filter (λ w. not (w.tid == t)) waits
