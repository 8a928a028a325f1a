use Rattle.std.proofs.Common.{◌≡◌, true, false, [], ◌∷◌, refl, arith}
use Rattle.std.specs.Prelude.{All}
use Rattle.std.proofs.lemmas.List.Elements.{All-cons}
use Rattle.std.proofs.lemmas.Bool.{false≢true}
use Rattle.p9_word.specs.Setup.{IsValid, IsThreadOf, IsChan, IsBetween}
use Rattle.p9_laws.specs.CopySetup.{copy_setup, reader, writer, between_them}
use Rattle.p9_laws.specs.CopyExample.{copied_hi}
use Rattle.p9_manual.specs.Files.{TreatsAsFile, at_first}
use Rattle.p9_manual.specs.FilesInHistory.{services_at, calls_at, effects_at}
use Rattle.p9_manual.specs.History.{state_after}
use Rattle.p9_manual.specs.Step.{step, outcome, called, served}
use Rattle.p9_manual.specs.Threads.{thread_call, asked}
use Rattle.p9_manual.specs.Chans.{chan_call}
use Rattle.p9_manual.specs.Ioprocs.{io_call, io_event}
use Rattle.p9_manual.specs.Next.{next_event}
use Rattle.p9_laws.proofs.examples.copying_two_bytes_copies_them.Goals as goal

unfailed : {P : Type 0} → false ≡ true → P
unfailed e = absurd (false≢true e)

none : {A : Type 0} (P : A → Type 0) → All P []
none P k d lt = absurd (omega (arith, lt))

reader_valid : IsThreadOf 1 2 reader
reader_valid = record { proc_no = record { from = omega arith; to = omega arith }; program = record { from = omega arith; to = omega arith }; name = omega arith }

writer_valid : IsThreadOf 1 2 writer
writer_valid = record { proc_no = record { from = omega arith; to = omega arith }; program = record { from = omega arith; to = omega arith }; name = omega arith }

channel_valid : IsChan between_them
channel_valid = record { cap = omega arith; elsize = record { from = omega arith; to = omega arith } }

valid : IsValid copy_setup
valid =
    record {
      places = record { from = omega arith; to = omega arith };
      opened = record { from = omega arith; to = omega arith };
      limits = record {
        threads = omega arith;
        chans = omega arith;
        locks = omega arith;
        qlocks = omega arith;
        rwlocks = omega arith;
        rendezes = omega arith;
        refs = omega arith;
        files = omega arith;
        procs = omega arith;
      };
      threads = All-cons (IsThreadOf 1 2) reader (writer ∷ []) reader_valid (All-cons (IsThreadOf 1 2) writer [] writer_valid (none (IsThreadOf 1 2)));
      chans = All-cons IsChan between_them [] channel_valid (none IsChan);
      rendezes = none (IsBetween 1 0);
    }

input : TreatsAsFile false at_first (services_at 1 copied_hi)
unfolding calls_at effects_at
input = (
  record { fits = tt; refused = refl; quiet = unfailed },
  (
    record { fits = (omega arith, omega arith); refused = refl; quiet = unfailed },
    (
      record { fits = (omega arith, omega arith); refused = refl; quiet = unfailed },
      (record { fits = tt; refused = refl; quiet = unfailed }, tt),
    ),
  ),
)

output : TreatsAsFile true at_first (services_at 2 copied_hi)
unfolding calls_at effects_at
output = (
  record { fits = tt; refused = refl; quiet = unfailed },
  (
    record { fits = (omega arith, λ e. refl); refused = refl; quiet = unfailed },
    (record { fits = tt; refused = refl; quiet = unfailed }, tt),
  ),
)

pub returns : goal.returns
unfolding calls_at effects_at state_after step outcome called served thread_call asked chan_call io_call io_event next_event
returns c =
    record { valid = valid; over = refl; input = input; output = output; input_done = refl; output_done = refl; gave = refl; took = refl }
