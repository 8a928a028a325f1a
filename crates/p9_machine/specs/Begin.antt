-- How the threads at the start come to stand.
use Rattle.std.specs.Prelude.{◌+◌, [], ◌∷◌, ◌++◌, length}
use Rattle.p9_word.specs.declared.setup.ThreadSetup.{ThreadSetup}
use Rattle.p9_manual.specs.History.{new_thread}
use Rattle.p9_manual.specs.State.{State}
use Rattle.p9_sched.specs.Schedule.{Schedule}
use Rattle.p9_sched.specs.Stands.{TracksStanding}

-- the state with one more thread of the setup, last in the line
abbrev pub with_first : ThreadSetup → State → State
with_first t s = record s { threads = s.threads ++ new_thread t ∷ []; line = s.line ++ (length s.threads + 1) ∷ [] }

-- one more thread of the setup stands last
abbrev pub StandsFirst : ThreadSetup → Schedule → Schedule → Type 0
StandsFirst t old new = TracksStanding (with_first t) old new
