-- What a proc is replied when a thread is to run.
use Rattle.std.specs.Prelude.{ℕ}
use Rattle.p9_word.specs.declared.trail.Reply.{Reply}
use Rattle.p9_word.specs.declared.trail.Reply.TheVariants.{Begin, Turn}
use Rattle.p9_manual.specs.Next.{first_ready, next_of}
use Rattle.p9_manual.specs.State.{State, Outcome}
use Rattle.p9_sched.specs.declared.turns.Ready.{Ready}
use Rattle.p9_sched.specs.declared.turns.Ready.TheVariants.{New, Old}

-- as what a turn is told
abbrev pub turn_told : Ready → Reply
turn_told (New t program arg) = Begin t program arg
turn_told (Old t answer) = Turn t answer

-- the turn of the first ready thread of proc p, if there is one
abbrev pub turn_in : ℕ → State → Outcome
turn_in p s = next_of s (first_ready p s)
