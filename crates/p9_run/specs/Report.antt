-- The status of a command, and its messages: the bytes that standard error gets.
use Rattle.std.specs.Prelude.{ℕ, Bool, true, false, ◌||◌, List, [], ◌++◌, Option, Some, None, is_some, codes, if◌then◌else◌}
use Rattle.p9_run.specs.declared.report.FileFault.{FileFault}
use Rattle.p9_run.specs.declared.report.FileFault.TheVariants.{Open, Read, Write, Close}
use Rattle.p9_run.specs.declared.report.RunEnd.{RunEnd}
use Rattle.p9_run.specs.declared.report.CommandEnd.{CommandEnd}
use Rattle.p9_run.specs.declared.report.CommandEnd.TheVariants.{Memory, Usage, NotYet, FileFailed, Ran}

-- the lines that are the same in every run
abbrev pub memory_line : List ℕ
memory_line = codes "p9pipe: out of memory\n"

abbrev pub usage_line : List ℕ
usage_line = codes "p9pipe: usage: run [-p N] [-s START] [-t TRAIL] FILE | bulk N | check FILE | replay FILE TRAIL\n"

abbrev pub stuck_line : Bool → List ℕ
stuck_line true = codes "p9pipe: stuck\n"
stuck_line false = []

-- the line of a text that can't be run yet
abbrev pub not_yet_line : List ℕ → List ℕ
not_yet_line file = codes "p9pipe: " ++ file ++ codes ":1: not built yet\n"

-- the line of a file that failed
abbrev pub fault_text : FileFault → List ℕ
fault_text Open = codes ": open failed\n"
fault_text Read = codes ": read failed\n"
fault_text Write = codes ": write failed\n"
fault_text Close = codes ": close failed\n"

abbrev pub fault_line : List ℕ → Option FileFault → List ℕ
fault_line path None = []
fault_line path (Some fault) = codes "p9pipe: " ++ path ++ fault_text fault

-- a run that is stuck has status 3, and else one of whose files failed has status 1
abbrev pub run_status : RunEnd → ℕ
run_status end = if end.stuck then 3 else if is_some end.input || is_some end.output then 1 else 0

-- the status of a command
abbrev pub status : CommandEnd → ℕ
status Memory = 4
status Usage = 2
status (NotYet file) = 2
status (FileFailed file fault) = 1
status (Ran end from to) = run_status end

-- its messages: of a run the line of the stuck first, and then one line for each file that failed
abbrev pub messages : CommandEnd → List ℕ
messages Memory = memory_line
messages Usage = usage_line
messages (NotYet file) = not_yet_line file
messages (FileFailed file fault) = fault_line file (Some fault)
messages (Ran end from to) = stuck_line end.stuck ++ fault_line from end.input ++ fault_line to end.output
