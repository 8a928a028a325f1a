use Rattle.std.proofs.Common.{[], ◌∷◌, refl, arith}
use Rattle.std.proofs.lemmas.List.Elements.{All-nil, All-cons}
use Rattle.p9_word.specs.Setup.{IsValid, IsThreadOf, IsChan}
use Rattle.p9_laws.specs.ChannelExamples.{one_proc}
use Rattle.p9_laws.specs.IoExamples.{write_setup}
use Rattle.p9_laws.specs.ThreadExamples.{first_thread}
use Rattle.p9_manual.specs.FilesInHistory.{calls_at, effects_at}
use Rattle.p9_manual.specs.History.{state_after}
use Rattle.p9_manual.specs.Step.{step, outcome, called, served}
use Rattle.p9_manual.specs.Threads.{thread_call, asked}
use Rattle.p9_manual.specs.Ioprocs.{io_call, io_event}
use Rattle.p9_manual.specs.Next.{next_event}
use Rattle.p9_laws.proofs.OneProc.{thread_valid, one_proc_valid}
use Rattle.p9_laws.proofs.examples.interrupting_a_call_leaves_it_begun.Goals as goal

without_files : IsValid (one_proc (first_thread ∷ first_thread ∷ []) [])
without_files =
    one_proc_valid (first_thread ∷ first_thread ∷ []) [] (omega arith) (omega arith)
    (All-cons (IsThreadOf 1 1) first_thread (first_thread ∷ []) thread_valid (All-cons (IsThreadOf 1 1) first_thread [] thread_valid (All-nil (IsThreadOf 1 1))))
    (All-nil IsChan)

valid : IsValid write_setup
valid =
    record {
      places = without_files.places;
      opened = without_files.opened;
      limits = record {
        threads = without_files.limits.threads;
        chans = without_files.limits.chans;
        locks = without_files.limits.locks;
        qlocks = without_files.limits.qlocks;
        rwlocks = without_files.limits.rwlocks;
        rendezes = without_files.limits.rendezes;
        refs = without_files.limits.refs;
        files = omega arith;
        procs = without_files.limits.procs;
      };
      threads = without_files.threads;
      chans = without_files.chans;
      rendezes = without_files.rendezes;
    }

pub returns : goal.returns
unfolding calls_at effects_at state_after step outcome called served thread_call asked io_call io_event next_event
returns c = record { valid = valid; goes_on = refl; wrote = refl; idle = refl }
