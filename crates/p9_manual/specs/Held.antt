-- When a proc is held: while one of its threads waits in a rendezvous or for a Lock. rendezvous(2), lock(2).
use Rattle.std.specs.Prelude.{ℕ, ◌&&◌, Bool, List}
use Rattle.std.specs.List.{list_any}
use Rattle.p9_manual.specs.declared.locks.LockWaiter.{LockWaiter}
use Rattle.p9_manual.specs.declared.state.Thread.{Thread}
use Rattle.p9_manual.specs.LockWaits.{holds_proc, lock_waiters}
use Rattle.p9_manual.specs.Places.{is_of}
use Rattle.p9_manual.specs.State.{State, by_id}

-- the thread that waits is one of proc p, and holds it
abbrev pub holds_in : List Thread → ℕ → LockWaiter → Bool
holds_in threads p w = holds_proc w.what && is_of p (by_id threads w.tid)

-- proc p is held
abbrev pub is_held : ℕ → State → Bool
is_held p s = list_any (holds_in s.threads p) (lock_waiters s.waits)
