-- What a command came to, by what the files and its standard error tell of themselves before and after.
use Rattle.std.specs.Prelude.{ℕ, ◌≡◌, List, Option, Some}
use Rattle.p9_outside.specs.Contents.{Told, Stay}
use Rattle.p9_run.specs.CommandLine.{command}
use Rattle.p9_run.specs.CountedCalls.{CountsEnd}
use Rattle.p9_run.specs.FileText.{IsReadFrom}
use Rattle.p9_run.specs.PipeMain.{IsCopyCame, CameTo, Answers}
use Rattle.p9_run.specs.declared.program.Ended.{Ended}
use Rattle.p9_run.specs.declared.report.CommandEnd.{CommandEnd}

-- the text of a copy with these paths was run
abbrev pub CopyEnded : {F : Type 0} → (F → Told) → F → F → List ℕ → List ℕ → Ended → Type 0
CopyEnded contents old new from to e = IsCopyCame e.end (contents old) (contents new) from to e.trail.entries.items

-- this text, which was read from FILE before, was run; reading it had left the contents
abbrev pub TextEnded : {F : Type 0} → (F → Told) → F → F → List ℕ → List ℕ → Ended → Type 0
TextEnded contents old new file text e =
    (words : List (List ℕ)) (told : Told) → command words ≡ Some file → IsReadFrom told file text → Stay told (contents old) → CameTo e.end words told (contents new) e.trail.entries.items

-- what these words ask for was done
abbrev pub WordsEnded : {F : Type 0} → (F → Told) → F → F → List (List ℕ) → Ended → Type 0
WordsEnded contents old new words e = CameTo e.end words (contents old) (contents new) e.trail.entries.items

-- FILE was read and run, for the words that name it
abbrev pub FileEnded : {F : Type 0} → (F → Told) → F → F → List ℕ → Ended → Type 0
FileEnded contents old new file e = (words : List (List ℕ)) → command words ≡ Some file → WordsEnded contents old new words e

-- the count of the files' faults rose by just what the end tells
abbrev pub EndCounted : {F : Type 0} → (F → ℕ) → F → F → Ended → Type 0
EndCounted faults old new e = CountsEnd e.end (faults old) (faults new)

-- the status and the messages, by what a sink tells of itself
abbrev pub AnswersOn : {E : Type 0} → (E → Option (List ℕ)) → (E → ℕ) → E → E → CommandEnd → ℕ → Type 0
AnswersOn held faults old new end answer = Answers end (held old) (held new) (faults old) (faults new) answer
