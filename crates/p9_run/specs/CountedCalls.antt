-- What a call of the program does to the count of the files' faults: it rises by just the calls of which lines tell.
use Rattle.std.specs.Prelude.{ℕ, ◌≡◌, ◌≤◌, ◌+◌, Option, Some, None, Result, Ok, Err}
use Rattle.p9_word.specs.declared.memory.NoMemory.{NoMemory}
use Rattle.p9_outside.specs.Counts.{raised}
use Rattle.p9_run.specs.declared.file_text.TextFault.{TextFault}
use Rattle.p9_run.specs.declared.file_text.TextFault.TheVariants.{Open as TextOpen, Read as TextRead, Memory as TextMemory}
use Rattle.p9_run.specs.declared.report.FileFault.{FileFault}
use Rattle.p9_run.specs.declared.report.FileFault.TheVariants.{Open, Read, Write, Close}
use Rattle.p9_run.specs.declared.report.RunEnd.{RunEnd}
use Rattle.p9_run.specs.declared.report.CommandEnd.{CommandEnd}
use Rattle.p9_run.specs.declared.report.CommandEnd.TheVariants.{Memory, Usage, NotYet, FileFailed, Ran}

-- how many calls that failed a line tells of: "open failed" and "close failed" are one each
abbrev pub calls_told : Option FileFault → ℕ
calls_told (Some Open) = 1
calls_told (Some Close) = 1
calls_told (Some Read) = 0
calls_told (Some Write) = 0
calls_told None = 0

-- how many more may have failed: the closing of an out file of which "write failed" is told
abbrev pub most_untold : Option FileFault → ℕ
most_untold (Some Open) = 0
most_untold (Some Close) = 0
most_untold (Some Read) = 0
most_untold (Some Write) = 1
most_untold None = 0

-- the count rose by just the lines "open failed" and "close failed" of the two files, and by one more at most where
-- "write failed" is told of the out file
pub record CountsLines (input output : Option FileFault) (calls calls' : ℕ) : Type 0 where
  pub untold : ℕ
  pub most : untold ≤ most_untold output
  pub count_is : calls' ≡ raised calls (calls_told input + calls_told output + untold)

-- the same of a run; where memory was wanted the count is as before
abbrev pub CountsRun : Result RunEnd NoMemory → ℕ → ℕ → Type 0
CountsRun (Ok end) calls calls' = CountsLines end.input end.output calls calls'
CountsRun (Err wanted) calls calls' = calls' ≡ calls

-- the same of reading the text of FILE
abbrev pub CountsText : {T : Type 0} → Result T TextFault → ℕ → ℕ → Type 0
CountsText (Ok text) calls calls' = calls' ≡ calls
CountsText (Err TextOpen) calls calls' = calls' ≡ raised calls 1
CountsText (Err TextRead) calls calls' = calls' ≡ calls
CountsText (Err TextMemory) calls calls' = calls' ≡ calls

-- the same of a command, before its messages
abbrev pub CountsEnd : CommandEnd → ℕ → ℕ → Type 0
CountsEnd Usage calls calls' = calls' ≡ calls
CountsEnd (NotYet file) calls calls' = calls' ≡ calls
CountsEnd (FileFailed file fault) calls calls' = calls' ≡ raised calls (calls_told (Some fault))
CountsEnd (Ran end from to) calls calls' = CountsLines end.input end.output calls calls'
CountsEnd Memory calls calls' = calls' ≡ calls

-- the count rose by one at most
pub record RoseOnce (calls calls' : ℕ) : Type 0 where
  pub times : ℕ
  pub most : times ≤ 1
  pub count_is : calls' ≡ raised calls times

-- the same of a whole call: where there was no memory for the messages, one call may have failed of which nothing is told
abbrev pub CountsCall : CommandEnd → ℕ → ℕ → Type 0
CountsCall Memory calls calls' = RoseOnce calls calls'
CountsCall Usage calls calls' = CountsEnd Usage calls calls'
CountsCall (NotYet file) calls calls' = CountsEnd (NotYet file) calls calls'
CountsCall (FileFailed file fault) calls calls' = CountsEnd (FileFailed file fault) calls calls'
CountsCall (Ran end from to) calls calls' = CountsEnd (Ran end from to) calls calls'
