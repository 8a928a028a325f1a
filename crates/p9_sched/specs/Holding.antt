-- Procs that are held, and threads that go on before the others of their proc. lock(2), rendezvous(2).
use Rattle.std.specs.Prelude.{ℕ, ◌-◌, Bool, false, List, ◌∷◌, Option, Some, None}
use Rattle.p9_word.specs.declared.answer.Answer.{Answer}
use Rattle.p9_manual.specs.declared.state.Place.TheVariants.{Ready}
use Rattle.p9_manual.specs.State.{by_id, changed, placed}
use Rattle.p9_sched.specs.Schedule.{Schedule, proc_of}

-- thread t is ready with an answer, first in the line of its proc
abbrev pub with_front : ℕ → List ℕ → List ℕ
with_front t line = t ∷ line

abbrev pub readied_first : ℕ → Answer → Schedule → Schedule
readied_first t a s =
    record s {
      threads = placed t (Ready a) s.threads;
      lines = changed (with_front t) s.lines (proc_of (by_id s.threads t) - 1);
    }

-- whether proc p is held: while it is, no thread of it has a turn
abbrev pub held_in : Option Bool → Bool
held_in None = false
held_in (Some held) = held

abbrev pub is_held : ℕ → Schedule → Bool
is_held p s = held_in (by_id s.holds p)

-- proc p, held or not from now on
abbrev pub with_held : ℕ → Bool → Schedule → Schedule
with_held p held s = record s { holds = changed (λ _. held) s.holds (p - 1) }
