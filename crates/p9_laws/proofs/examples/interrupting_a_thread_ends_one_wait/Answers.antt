use Rattle.std.proofs.Common.{[], ◌∷◌, refl, arith}
use Rattle.std.proofs.lemmas.List.Elements.{All-nil, All-cons}
use Rattle.p9_word.specs.Setup.{IsValid, IsThreadOf, IsChan}
use Rattle.p9_laws.specs.AltExamples.{of_capacity}
use Rattle.p9_laws.specs.SignalExamples.{interrupt_setup}
use Rattle.p9_laws.specs.ThreadExamples.{first_thread}
use Rattle.p9_manual.specs.History.{state_after}
use Rattle.p9_manual.specs.Step.{step, outcome, called, served}
use Rattle.p9_manual.specs.Threads.{thread_call, asked}
use Rattle.p9_manual.specs.Chans.{chan_call}
use Rattle.p9_manual.specs.Signals.{signal_call}
use Rattle.p9_manual.specs.Next.{next_event}
use Rattle.p9_laws.proofs.OneProc.{thread_valid, one_proc_valid}
use Rattle.p9_laws.proofs.examples.interrupting_a_thread_ends_one_wait.Goals as goal

valid_0 : IsChan (of_capacity 0)
valid_0 = record { cap = omega arith; elsize = record { from = omega arith; to = omega arith } }

valid : IsValid interrupt_setup
valid =
    one_proc_valid (first_thread ∷ first_thread ∷ []) (of_capacity 0 ∷ []) (omega arith) (omega arith)
    (All-cons (IsThreadOf 1 1) first_thread (first_thread ∷ []) thread_valid (All-cons (IsThreadOf 1 1) first_thread [] thread_valid (All-nil (IsThreadOf 1 1))))
    (All-cons IsChan (of_capacity 0) [] valid_0 (All-nil IsChan))

pub returns : goal.returns
unfolding state_after step outcome called served thread_call asked chan_call signal_call next_event
returns c = record { valid = valid; ended = refl; waits = refl }
