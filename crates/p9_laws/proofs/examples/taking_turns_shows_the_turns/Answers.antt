use Rattle.std.proofs.Common.{[], refl, arith}
use Rattle.std.proofs.lemmas.List.Elements.{All-nil, All-cons}
use Rattle.p9_word.specs.Setup.{IsValid, IsThreadOf, IsChan, IsBetween}
use Rattle.p9_laws.specs.ThreadExamples.{turns_setup, first_thread}
use Rattle.p9_manual.specs.History.{state_after}
use Rattle.p9_manual.specs.Step.{step, outcome, called, served}
use Rattle.p9_manual.specs.Threads.{thread_call, asked}
use Rattle.p9_manual.specs.Next.{next_event}
use Rattle.p9_laws.proofs.examples.taking_turns_shows_the_turns.Goals as goal

thread_valid : IsThreadOf 1 2 first_thread
thread_valid = record { proc_no = record { from = omega arith; to = omega arith }; program = record { from = omega arith; to = omega arith }; name = omega arith }

valid : IsValid turns_setup
valid =
    record {
      places = record { from = omega arith; to = omega arith };
      opened = record { from = omega arith; to = omega arith };
      limits = record {
        threads = omega arith;
        chans = omega arith;
        locks = omega arith;
        qlocks = omega arith;
        rwlocks = omega arith;
        rendezes = omega arith;
        refs = omega arith;
        files = omega arith;
        procs = omega arith;
      };
      threads = All-cons (IsThreadOf 1 2) first_thread [] thread_valid (All-nil (IsThreadOf 1 2));
      chans = All-nil IsChan;
      rendezes = All-nil (IsBetween 1 0);
    }

pub returns : goal.returns
unfolding state_after step outcome called served thread_call asked next_event
returns c = record { valid = valid; stray = refl; over = refl }
