use Rattle.std.proofs.Common.{[], ◌∷◌, refl, arith}
use Rattle.std.proofs.lemmas.List.Elements.{All-nil}
use Rattle.p9_word.specs.Setup.{IsValid, IsBetween}
use Rattle.p9_laws.specs.LockExamples.{alone_setup}
use Rattle.p9_laws.specs.ThreadExamples.{first_thread}
use Rattle.p9_manual.specs.History.{state_after}
use Rattle.p9_manual.specs.Step.{step, outcome, called, served}
use Rattle.p9_manual.specs.Locks.{lock_call}
use Rattle.p9_manual.specs.Next.{next_event}
use Rattle.p9_laws.proofs.LockSetups.{two_valid, with_locks_valid}
use Rattle.p9_laws.proofs.examples.meeting_in_one_proc_leaves_a_thread_ready.Goals as goal

valid : IsValid alone_setup
valid =
    with_locks_valid 1 (first_thread ∷ first_thread ∷ []) 0 [] (omega arith) (omega arith) (omega arith) (omega arith) (omega arith)
    (two_valid 1 1 1 (omega arith) (omega arith) (omega arith) (omega arith))
    (All-nil (IsBetween 1 0))

pub returns : goal.returns
unfolding state_after step outcome called served lock_call next_event
returns c = record { valid = valid; ready = refl }
