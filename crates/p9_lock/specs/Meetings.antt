-- Threads that wait in a rendezvous. rendezvous(2).
use Rattle.std.specs.Prelude.{ℕ, ◌&&◌, Bool, true, false, List, Option}
use Rattle.std.specs.List.{find}
use Rattle.std.specs.Option.{option_map}
use Rattle.p9_manual.specs.declared.locks.LockWait.{LockWait}
use Rattle.p9_manual.specs.declared.locks.LockWait.TheVariants as wait
use Rattle.p9_manual.specs.declared.locks.LockWaiter.{LockWaiter}

-- it is a wait for another thread with the same tag
abbrev pub is_tag : LockWait → Bool
is_tag (wait.Tag tag) = true
is_tag (wait.Lock s k) = false
is_tag (wait.Sleep r) = false

-- the thread waits so, and is one of these
abbrev pub meets_among : (ℕ → Bool) → LockWaiter → Bool
meets_among among w = is_tag w.what && among w.tid

-- the first of these threads that waits so
abbrev pub meeting_of : (ℕ → Bool) → List LockWaiter → Option ℕ
meeting_of among waits = option_map (λ w. w.tid) (find (meets_among among) waits)
