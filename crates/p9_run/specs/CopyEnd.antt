-- What the run of a copy's text leaves, tells and was given.
use Rattle.std.specs.Prelude.{ℕ, ◌≡◌, ◌≢◌, ◌⊎◌, ◌||◌, false, List, [], ◌++◌, Option, Some, None, MatchBool, ⊤}
use Rattle.p9_word.specs.declared.trail.Entry.{Entry}
use Rattle.p9_word.specs.declared.trail.Trail.{Trail}
use Rattle.p9_manual.specs.Files.{given, joined, written}
use Rattle.p9_manual.specs.FilesInHistory.{services_at}
use Rattle.p9_manual.specs.History.{IsLegal}
use Rattle.p9_laws.specs.Ending.{HasEnded}
use Rattle.p9_outside.specs.Contents.{Told, Stay}
use Rattle.p9_outside.specs.Reading.{FullReads}
use Rattle.p9_run.specs.CopyPrograms.{copy_asks}
use Rattle.p9_run.specs.CopySetup.{copy_setup}
use Rattle.p9_run.specs.FaultLines.{TellsFaults, is_open}
use Rattle.p9_run.specs.Moves.{RunsOnFiles}
use Rattle.p9_run.specs.declared.report.FileFault.{FileFault}
use Rattle.p9_run.specs.declared.report.RunEnd.{RunEnd}

-- a run of a copy's text: a legal history of the manual's machine from the setup of the text, in which each thread makes
-- the calls of its program, file 1 is treated as a file that is read and file 2 as one that is written, and no call is
-- left begun
pub record IsCopyHistory (history : List Entry) : Type 0 where
  pub legal : IsLegal copy_setup history
  pub files : RunsOnFiles copy_asks history

-- the trail of a run of a copy's text, or of no run
pub record IsCopyTrail (trail : Trail) : Type 0 where
  pub procs : trail.procs ≡ 0
  pub start : trail.start ≡ 42
  pub history : IsCopyHistory trail.entries.items

-- these are the first bytes of the contents; a path without contents gives nothing
abbrev pub IsFrontOf : List ℕ → Option (List ℕ) → Type 0
IsFrontOf bs None = bs ≡ []
IsFrontOf bs (Some xs) = (rest : List ℕ) × (xs ≡ bs ++ rest)

-- these are the first bytes of the path's contents, where they are told
abbrev pub GivenFrom : Told → List ℕ → List ℕ → Type 0
GivenFrom None path bs = ⊤
GivenFrom (Some f) path bs = IsFrontOf bs (f path)

-- what a path has, where contents are told
abbrev pub told_at : Told → List ℕ → Option (List ℕ)
told_at None path = None
told_at (Some f) path = f path

-- what the in file gave: the first bytes of its contents, and until a read of it failed each read got all that was asked
-- for, or all that was left
pub record IsGiven (told : Told) (from : List ℕ) (history : List Entry) : Type 0 where
  pub front : GivenFrom told from (joined (given (services_at 1 history)))
  pub full : FullReads false (told_at told from) (services_at 1 history)

-- the path's contents are these bytes, and all others are as before
abbrev pub Holds : Told → Told → List ℕ → List ℕ → Type 0
Holds None new path bs = ⊤
Holds (Some f) None path bs = ⊥
Holds (Some f) (Some g) path bs = (g path ≡ Some bs) × ((p : List ℕ) → p ≢ path → g p ≡ f p)

-- nothing was run, and all contents are as before
pub record RunsNothing (told told' : Told) (history : List Entry) : Type 0 where
  pub history_is : history ≡ []
  pub contents : Stay told told'

-- both files were opened: the run went to its end, and the out file holds what was written to it; where a line is told
-- of it, its contents may be as before
pub record RunsWhole (told told' : Told) (to : List ℕ) (history : List Entry) (output : Option FileFault) : Type 0 where
  pub ended : HasEnded copy_setup history
  pub whole : output ≡ None → Holds told told' to (written (services_at 2 history))
  pub either : Holds told told' to (written (services_at 2 history)) ⊎ Stay told told'

-- the run of a copy's text, where no memory was wanted
pub record CopyEnds (told told' : Told) (from to : List ℕ) (history : List Entry) (end : RunEnd) : Type 0 where
  pub faults : TellsFaults end history
  pub given_is : IsGiven told from history
  pub contents : MatchBool (is_open end.input || is_open end.output) (RunsNothing told told' history) (RunsWhole told told' to history end.output)

-- the same where memory was wanted: the out file holds what was written to it, or all contents are as before
pub record CopyStops (told told' : Told) (from to : List ℕ) (history : List Entry) : Type 0 where
  pub given_is : IsGiven told from history
  pub contents : Holds told told' to (written (services_at 2 history)) ⊎ Stay told told'
