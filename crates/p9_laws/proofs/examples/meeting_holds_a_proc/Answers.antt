use Rattle.std.proofs.Common.{[], ◌∷◌, refl, arith}
use Rattle.std.proofs.lemmas.List.Elements.{All-nil}
use Rattle.p9_word.specs.Setup.{IsValid, IsBetween}
use Rattle.p9_laws.specs.LockExamples.{meeting_setup}
use Rattle.p9_laws.specs.ThreadExamples.{first_thread}
use Rattle.p9_manual.specs.History.{state_after}
use Rattle.p9_manual.specs.Step.{step, outcome, called, served}
use Rattle.p9_manual.specs.Locks.{lock_call}
use Rattle.p9_manual.specs.Next.{next_event}
use Rattle.p9_laws.proofs.LockSetups.{two_valid, with_locks_valid}
use Rattle.p9_laws.proofs.examples.meeting_holds_a_proc.Goals as goal

valid : IsValid meeting_setup
valid =
    with_locks_valid 2 (first_thread ∷ record first_thread { proc_no = 2 } ∷ []) 0 [] (omega arith) (omega arith) (omega arith) (omega arith) (omega arith)
    (two_valid 2 1 2 (omega arith) (omega arith) (omega arith) (omega arith))
    (All-nil (IsBetween 1 0))

pub returns : goal.returns
unfolding state_after step outcome called served lock_call next_event
returns c = record { valid = valid; held = refl; idle = refl; free = refl }
