-- When no thread can ever run again. This project's own.
use Rattle.std.specs.Prelude.{Bool, not, ◌&&◌}
use Rattle.std.specs.List.{list_any}
use Rattle.p9_manual.specs.declared.state.Thread.{Thread}
use Rattle.p9_manual.specs.Held.{is_held}
use Rattle.p9_manual.specs.NoteCalls.{has_note}
use Rattle.p9_manual.specs.Places.{lives, runs, stands_ready, has_call}
use Rattle.p9_manual.specs.State.{State}

-- the thread is ready, in a proc that isn't held
abbrev pub can_run : State → Thread → Bool
can_run s thread = stands_ready thread && not (is_held thread.proc_no s)

-- some thread lives, none runs, none is ready in a proc that isn't held, no ioproc has a call, and no note is pending
abbrev pub is_stuck : State → Bool
is_stuck s =
    list_any lives s.threads && not (list_any runs s.threads) && not (list_any (can_run s) s.threads)
    && not (list_any has_call s.ioprocs) && not (list_any has_note s.procs)
