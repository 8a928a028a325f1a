-- What a call of the program comes to: its status, its messages and what it leaves.
use Rattle.std.specs.Prelude.{ℕ, ◌≡◌, ◌⊎◌, List, length, take, nat_lt, Option, Some, None}
use Rattle.std.specs.Io.KnownBytes.{Appends}
use Rattle.p9_word.specs.declared.trail.Entry.{Entry}
use Rattle.p9_outside.specs.Causes.{CountsFault}
use Rattle.p9_outside.specs.Contents.{Told}
use Rattle.p9_run.specs.CommandLine.{command}
use Rattle.p9_run.specs.CopyEnd.{RunsNothing, CopyEnds, CopyStops}
use Rattle.p9_run.specs.CountedCalls.{CountsCall}
use Rattle.p9_run.specs.FileText.{IsCopyFile, IsOtherFile}
use Rattle.p9_run.specs.Report.{status, messages}
use Rattle.p9_run.specs.declared.report.FileFault.{FileFault}
use Rattle.p9_run.specs.declared.report.FileFault.TheVariants.{Open, Read, Write, Close}
use Rattle.p9_run.specs.declared.report.RunEnd.{RunEnd}
use Rattle.p9_run.specs.declared.report.CommandEnd.{CommandEnd}
use Rattle.p9_run.specs.declared.report.CommandEnd.TheVariants.{Memory, Usage, NotYet, FileFailed, Ran}

-- the faults that FILE may have
abbrev pub IsTextFault : FileFault → Type 0
IsTextFault Open = Unit {0}
IsTextFault Read = Unit {0}
IsTextFault Write = ⊥
IsTextFault Close = ⊥

-- the words are no command
pub record IsUsage (words : List (List ℕ)) (told told' : Told) (history : List Entry) : Type 0 where
  pub words_are : command words ≡ None
  pub nothing : RunsNothing told told' history

-- FILE was read and isn't the text of a copy
pub record IsNotYet (words : List (List ℕ)) (told told' : Told) (history : List Entry) (file : List ℕ) : Type 0 where
  pub words_are : command words ≡ Some file
  pub text : IsOtherFile told file
  pub nothing : RunsNothing told told' history

-- FILE couldn't be read
pub record FileFails (words : List (List ℕ)) (told told' : Told) (history : List Entry) (file : List ℕ) (fault : FileFault) : Type 0 where
  pub words_are : command words ≡ Some file
  pub fault_is : IsTextFault fault
  pub nothing : RunsNothing told told' history

-- the text of a copy was run
pub record RanCopy (words : List (List ℕ)) (told told' : Told) (history : List Entry) (end : RunEnd) (from to : List ℕ) : Type 0 where
  pub file : List ℕ
  pub words_are : command words ≡ Some file
  pub text : IsCopyFile told file from to
  pub ends : CopyEnds told told' from to history end

-- the text of a copy was run, and memory was wanted
pub record StoppedCopy (words : List (List ℕ)) (told told' : Told) (history : List Entry) : Type 0 where
  pub file : List ℕ
  pub from : List ℕ
  pub to : List ℕ
  pub words_are : command words ≡ Some file
  pub text : IsCopyFile told file from to
  pub stops : CopyStops told told' from to history

-- the end of a run of a copy with these paths
pub record IsRanCopy (told told' : Told) (from to from' to' : List ℕ) (history : List Entry) (end : RunEnd) : Type 0 where
  pub from_is : from' ≡ from
  pub to_is : to' ≡ to
  pub ends : CopyEnds told told' from to history end

abbrev pub IsCopyCame : CommandEnd → Told → Told → List ℕ → List ℕ → List Entry → Type 0
IsCopyCame (Ran end from' to') told told' from to history = IsRanCopy told told' from to from' to' history end
IsCopyCame Memory told told' from to history = CopyStops told told' from to history
IsCopyCame Usage told told' from to history = ⊥
IsCopyCame (NotYet file) told told' from to history = ⊥
IsCopyCame (FileFailed file fault) told told' from to history = ⊥

-- what a call came to, by what it tells
abbrev pub CameTo : CommandEnd → List (List ℕ) → Told → Told → List Entry → Type 0
CameTo Usage words told told' history = IsUsage words told told' history
CameTo (NotYet file) words told told' history = IsNotYet words told told' history file
CameTo (FileFailed file fault) words told told' history = FileFails words told told' history file fault
CameTo (Ran end from to) words told told' history = RanCopy words told told' history end from to
CameTo Memory words told told' history = RunsNothing told told' history ⊎ StoppedCopy words told told' history

-- a sink got these bytes, or the first ones of them where its count of faults rose, by one; else the count is as before
pub record Tells (held held' : Option (List ℕ)) (faults faults' : ℕ) (bytes : List ℕ) : Type 0 where
  pub count : ℕ
  pub some : Appends held held' (take count bytes)
  pub counted : CountsFault (nat_lt count (length bytes)) faults faults'

-- the status and the messages of what a call came to
pub record Answers (end : CommandEnd) (held held' : Option (List ℕ)) (faults faults' : ℕ) (answer : ℕ) : Type 0 where
  pub status_is : answer ≡ status end
  pub told : Tells held held' faults faults' (messages end)

-- a call of the program: what it came to, that the count of the files' faults rose by just what is told, and that its
-- status and its messages are those of it
pub record IsCall (words : List (List ℕ)) (told told' : Told) (calls calls' : ℕ) (history : List Entry) (held held' : Option (List ℕ)) (faults faults' : ℕ) (answer : ℕ) : Type 0 where
  pub end : CommandEnd
  pub came : CameTo end words told told' history
  pub counts : CountsCall end calls calls'
  pub answers : Answers end held held' faults faults' answer
