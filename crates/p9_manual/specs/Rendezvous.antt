-- Two threads that come with one tag meet, and each is told the other's value. rendezvous(2).
use Rattle.std.specs.Prelude.{ℕ, List, Option, Some, None}
use Rattle.std.specs.List.{find}
use Rattle.p9_manual.specs.declared.locks.LockWait.TheVariants as wait
use Rattle.p9_manual.specs.declared.locks.LockWaiter.{LockWaiter}
use Rattle.p9_manual.specs.Queues.{waits_for, without_first, joined}

-- the thread that waits longest with this tag
abbrev pub partner : ℕ → List LockWaiter → Option LockWaiter
partner tag waits = find (waits_for (wait.Tag tag)) waits

-- the waits after thread t came with a tag and a value: its partner waits no more, and where there is none the thread waits
abbrev pub after_meeting : ℕ → ℕ → ℕ → Option LockWaiter → List LockWaiter → List LockWaiter
after_meeting t tag value (Some w) waits = without_first (waits_for (wait.Tag tag)) waits
after_meeting t tag value None waits = joined t (wait.Tag tag) value waits

abbrev pub rendezvous : ℕ → ℕ → ℕ → List LockWaiter → List LockWaiter
rendezvous t tag value waits = after_meeting t tag value (partner tag waits) waits
