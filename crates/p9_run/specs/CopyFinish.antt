-- What the run of a copy's text tells: where a file couldn't be opened, where it stopped short, and where it went to its end.
use Rattle.std.specs.Prelude.{ℕ, ◌≡◌, ◌≢◌, Bool, true, false, List, Option, Some, None, Result, Ok, Err, MatchResult, if◌then◌else◌}
use Rattle.p9_word.specs.declared.trail.Entry.{Entry}
use Rattle.p9_laws.specs.Ending.{ends_stuck}
use Rattle.p9_word.specs.declared.memory.NoMemory.{NoMemory}
use Rattle.p9_outside.specs.declared.files.FilesFault.{FilesFault}
use Rattle.p9_outside.specs.declared.files.FilesFault.TheVariants.{Failed, Memory}
use Rattle.p9_outside.specs.Causes.{CountsFault, is_failed}
use Rattle.p9_outside.specs.Contents.{Told, Stay, Puts}
use Rattle.p9_run.specs.declared.report.FileFault.TheVariants.{Open, Read, Write, Close}
use Rattle.p9_run.specs.declared.report.RunEnd.{RunEnd}
use Rattle.p9_run.specs.declared.copy_files.Copied.{Copied}
use Rattle.p9_run.specs.declared.copy_files.CopyRun.{CopyRun}
use Rattle.p9_run.specs.CopyEnd.{CopyEnds, CopyStops}
use Rattle.p9_run.specs.FaultLines.{failed_at}

-- the refusal
abbrev pub no_memory : NoMemory
no_memory = record {}

-- what a run tells where a file couldn't be opened: the in file where the second argument is true, and else the out file
abbrev pub unopened : FilesFault → Bool → Result RunEnd NoMemory
unopened Failed true = Ok (record { stuck = false; input = Some Open; output = None })
unopened Failed false = Ok (record { stuck = false; input = None; output = Some Open })
unopened Memory input = Err no_memory

-- what a run tells that went to its end, by whether it is stuck, a read failed and a write failed, and by how the out
-- file was closed
abbrev pub run_end : Bool → Bool → Bool → Result (Unit {0}) FilesFault → Result RunEnd NoMemory
run_end stuck read write (Ok u) =
    Ok (record { stuck = stuck; input = if read then Some Read else None; output = if write then Some Write else None })
run_end stuck read write (Err Failed) =
    Ok (record { stuck = stuck; input = if read then Some Read else None; output = if write then Some Write else Some Close })
run_end stuck read write (Err Memory) = Err no_memory

-- a run that stopped short: nothing is closed
pub record IsStopped (told told' : Told) (calls calls' : ℕ) (end : Result RunEnd NoMemory) : Type 0 where
  pub end_is : (e : RunEnd) → end ≢ Ok e
  pub calls_are : calls' ≡ calls
  pub contents : told' ≡ told

-- how a run is finished: where it stopped short nothing is closed, and else the out file is closed and the lines are
-- those of the history and of how it was closed
pub record IsClosed (told told' : Told) (calls calls' : ℕ) (to : List ℕ) (held : Option (List ℕ)) (history : List Entry) (end : Result RunEnd NoMemory) : Type 0 where
  pub closed : Result (Unit {0}) FilesFault
  pub end_is : end ≡ run_end (ends_stuck history) (failed_at 1 history) (failed_at 2 history) closed
  pub counted : CountsFault (is_failed closed) calls calls'
  pub contents : MatchResult closed (λ _. Puts told told' to held) (λ _. Stay told told')

abbrev pub IsFinished : Told → Told → ℕ → ℕ → List ℕ → Option (List ℕ) → Result (Unit {0}) NoMemory → List Entry → Result RunEnd NoMemory → Type 0
IsFinished told told' calls calls' to held (Ok u) history end = IsClosed told told' calls calls' to held history end
IsFinished told told' calls calls' to held (Err wanted) history end = IsStopped told told' calls calls' end

-- the same by what files tell of themselves, of a run that is over
abbrev pub FinishesRun : {F S K : Type 0} → (F → Told) → (F → ℕ) → F → F → (K → Option (List ℕ)) → List ℕ → CopyRun S K → Result RunEnd NoMemory → Type 0
FinishesRun contents faults old new held to run end =
    IsFinished (contents old) (contents new) (faults old) (faults new) to (held run.ran.sink) run.ran.outcome run.trail.entries.items end

-- a run of a copy's text: how it ended, or that memory was wanted
abbrev pub EndsOrStops : Told → Told → List ℕ → List ℕ → List Entry → Result RunEnd NoMemory → Type 0
EndsOrStops told told' from to history end =
    MatchResult end (λ e. CopyEnds told told' from to history e) (λ _. CopyStops told told' from to history)

-- the same by what files tell of themselves
abbrev pub CopyLeaves : {F : Type 0} → (F → Told) → F → F → List ℕ → List ℕ → Copied → Type 0
CopyLeaves contents old new from to copied =
    EndsOrStops (contents old) (contents new) from to copied.trail.entries.items copied.end
