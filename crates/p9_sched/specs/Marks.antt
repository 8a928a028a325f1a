-- Threads that are marked to die. thread(2).
use Rattle.std.specs.Prelude.{ℕ, ◌-◌}
use Rattle.p9_manual.specs.Interrupt.{with_mark}
use Rattle.p9_manual.specs.State.{changed}
use Rattle.p9_sched.specs.Schedule.{Schedule}

-- thread t is marked to die
abbrev pub with_mark_of : ℕ → Schedule → Schedule
with_mark_of t s = record s { threads = changed with_mark s.threads (t - 1) }
