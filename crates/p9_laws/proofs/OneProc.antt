-- The setups of the worked examples on channels are valid.
use Rattle.std.proofs.Common.{◌≤◌, All, List, length, arith}
use Rattle.std.proofs.lemmas.List.Elements.{All-nil}
use Rattle.p9_word.specs.declared.limits.TheConstants.{MOST_THREADS, MOST_CHANNELS}
use Rattle.p9_word.specs.declared.setup.ThreadSetup.{ThreadSetup}
use Rattle.p9_word.specs.declared.setup.ChanSetup.{ChanSetup}
use Rattle.p9_word.specs.Setup.{IsValid, IsThreadOf, IsChan, IsBetween}
use Rattle.p9_laws.specs.ThreadExamples.{first_thread}
use Rattle.p9_laws.specs.ChannelExamples.{one_proc}

pub thread_valid : IsThreadOf 1 1 first_thread
thread_valid = record { proc_no = record { from = omega arith; to = omega arith }; program = record { from = omega arith; to = omega arith }; name = omega arith }

pub one_proc_valid : (threads : List ThreadSetup) (chans : List ChanSetup) → length threads ≤ MOST_THREADS → length chans ≤ MOST_CHANNELS → All (IsThreadOf 1 1) threads → All IsChan chans → IsValid (one_proc threads chans)
one_proc_valid threads chans few_threads few_chans threads_valid chans_valid =
    record {
      places = record { from = omega arith; to = omega arith };
      opened = record { from = omega arith; to = omega arith };
      limits = record {
        threads = few_threads;
        chans = few_chans;
        locks = omega arith;
        qlocks = omega arith;
        rwlocks = omega arith;
        rendezes = omega arith;
        refs = omega arith;
        files = omega arith;
        procs = omega arith;
      };
      threads = threads_valid;
      chans = chans_valid;
      rendezes = All-nil (IsBetween 1 0);
    }
