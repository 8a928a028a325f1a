-- A run over a file that is read, file 1, and a file that is written, file 2.
use Rattle.std.specs.Prelude.{ℕ, ◌≡◌, ◌≤◌, ◌-◌, Bool, false, true, List, length, Option}
use Rattle.std.specs.Io.KnownBytes.{Consumes, Appends}
use Rattle.p9_word.specs.declared.trail.Entry.{Entry}
use Rattle.p9_manual.specs.Programs.{Asks, RunsPrograms}
use Rattle.p9_manual.specs.Files.{TreatsAsFile, at_first, given, joined, written}
use Rattle.p9_manual.specs.FilesInHistory.{services_at, IsDone}
use Rattle.p9_outside.specs.Counts.{raised}
use Rattle.p9_outside.specs.Reading.{FullReads}
use Rattle.p9_outside.specs.DeviceRuns.{failures}
use Rattle.p9_outside.specs.FileRuns.{RunsSteady, messages}
use Rattle.p9_outside.specs.Promised.{SourceTells, SinkTells}

-- the history runs the programs, treats file 1 as one that is read and file 2 as one that is written, and leaves no
-- call begun
pub record RunsOnFiles (asks : Asks) (history : List Entry) : Type 0 where
  pub runs : RunsPrograms asks history
  pub reads : TreatsAsFile false at_first (services_at 1 history)
  pub writes : TreatsAsFile true at_first (services_at 2 history)
  pub read_done : IsDone 1 history
  pub write_done : IsDone 2 history

-- what went through the files: the bytes given are those that the source has less, each read is full until one fails,
-- the bytes written are those that the sink has more, and each count of faults rose by just as much as failures were
-- recorded; no read of a steady source failed; and where all messages together are within the bytes that the sink takes
-- without a failure no write did, and the bytes written have lowered those by just their number
pub record Moves (history : List Entry) (left left' held held' : Option (List ℕ)) (faults faults' counts counts' : ℕ) (is_steady is_steady' : Bool) (firm_for firm_for' : ℕ) : Type 0 where
  pub given : Consumes left left' (joined (given (services_at 1 history)))
  pub full : FullReads false left (services_at 1 history)
  pub lowered : firm_for' ≡ firm_for - length (written (services_at 2 history))
  pub written : Appends held held' (written (services_at 2 history))
  pub read_faults : faults' ≡ raised faults (failures (services_at 1 history))
  pub write_faults : counts' ≡ raised counts (failures (services_at 2 history))
  pub steady : RunsSteady is_steady is_steady' (services_at 1 history)
  pub firm : length (messages (services_at 2 history)) ≤ firm_for → failures (services_at 2 history) ≡ 0

-- the same by what a source and a sink tell of themselves
abbrev pub MovesOver : {S K : Type 0} → SourceTells S → SinkTells K → List Entry → S → S → K → K → Type 0
MovesOver source sink history s s' k k' =
    Moves history (source.left s) (source.left s') (sink.held k) (sink.held k') (source.faults s) (source.faults s') (sink.faults k) (sink.faults k') (source.steady s) (source.steady s') (sink.firm k) (sink.firm k')
