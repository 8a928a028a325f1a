-- Which lines a run tells of its two files.
use Rattle.std.specs.Prelude.{ℕ, ◌≡◌, ◌≢◌, ◌&&◌, ◌↔◌, Bool, true, false, List, Option, Some, None}
use Rattle.std.specs.List.{list_any}
use Rattle.p9_word.specs.declared.trail.Entry.{Entry}
use Rattle.p9_word.specs.declared.trail.Event.{Event}
use Rattle.p9_word.specs.declared.trail.Event.TheVariants.{Call, Next, IoTake, IoDid}
use Rattle.p9_manual.specs.Effects.{has_failed}
use Rattle.p9_manual.specs.FilesInHistory.{is_io}
use Rattle.p9_laws.specs.Ending.{ends_stuck}
use Rattle.p9_run.specs.declared.report.FileFault.{FileFault}
use Rattle.p9_run.specs.declared.report.FileFault.TheVariants.{Open, Read, Write, Close}
use Rattle.p9_run.specs.declared.report.RunEnd.{RunEnd}

-- the event tells a failed effect
abbrev pub event_failed : Event → Bool
event_failed (IoDid effect) = has_failed effect
event_failed Next = false
event_failed IoTake = false
event_failed (Call t request) = false

-- the entry has a failed effect at file k
abbrev pub fails_at : ℕ → Entry → Bool
fails_at k e = is_io k e.seat && event_failed e.event

-- the history has a failed effect at file k
abbrev pub failed_at : ℕ → List Entry → Bool
failed_at k history = list_any (fails_at k) history

-- the file couldn't be opened
abbrev pub is_open : Option FileFault → Bool
is_open (Some Open) = true
is_open (Some Read) = false
is_open (Some Write) = false
is_open (Some Close) = false
is_open None = false

-- the faults that an in file may have, and those that an out file may have
abbrev pub IsInFault : Option FileFault → Type 0
IsInFault fault = (fault ≢ Some Write) × (fault ≢ Some Close)

abbrev pub IsOutFault : Option FileFault → Type 0
IsOutFault fault = fault ≢ Some Read

-- which lines a run tells: the lines "read failed" and "write failed" exactly where the history has a failed effect at
-- that file. A file that couldn't be opened is the only one of which a line is told: nothing was tried after it
pub record TellsFaults (end : RunEnd) (history : List Entry) : Type 0 where
  pub stuck : end.stuck ≡ ends_stuck history
  pub input : IsInFault end.input
  pub output : IsOutFault end.output
  pub alone_in : end.input ≡ Some Open → end.output ≡ None
  pub alone_out : end.output ≡ Some Open → end.input ≡ None
  pub read : (end.input ≡ Some Read) ↔ (failed_at 1 history ≡ true)
  pub write : (end.output ≡ Some Write) ↔ (failed_at 2 history ≡ true)
