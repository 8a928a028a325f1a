use Rattle.std.proofs.Common.{[], ◌∷◌, refl, arith}
use Rattle.std.proofs.lemmas.List.Elements.{All-nil, All-cons}
use Rattle.p9_word.specs.Setup.{IsValid, IsThreadOf, IsBetween}
use Rattle.p9_laws.specs.SignalExamples.{kill_setup}
use Rattle.p9_laws.specs.ThreadExamples.{first_thread}
use Rattle.p9_manual.specs.History.{state_after}
use Rattle.p9_manual.specs.Step.{step, outcome, called, served}
use Rattle.p9_manual.specs.Threads.{thread_call, asked}
use Rattle.p9_manual.specs.Locks.{lock_call}
use Rattle.p9_manual.specs.Signals.{signal_call}
use Rattle.p9_manual.specs.Next.{next_event}
use Rattle.p9_laws.proofs.LockSetups.{in_proc_valid, two_valid, with_locks_valid}
use Rattle.p9_laws.proofs.examples.killing_a_group_frees_no_lock.Goals as goal

valid : IsValid kill_setup
valid =
    with_locks_valid 1 (first_thread ∷ first_thread ∷ first_thread ∷ []) 1 [] (omega arith) (omega arith) (omega arith) (omega arith) (omega arith)
    (All-cons (IsThreadOf 1 1) first_thread (first_thread ∷ first_thread ∷ []) (in_proc_valid 1 1 (omega arith) (omega arith)) (two_valid 1 1 1 (omega arith) (omega arith) (omega arith) (omega arith)))
    (All-nil (IsBetween 1 1))

pub returns : goal.returns
unfolding state_after step outcome called served thread_call asked lock_call signal_call next_event
returns c = record { valid = valid; ended = refl; holder = refl; waits = refl }
