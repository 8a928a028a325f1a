-- What all stages share. A stage is a thread of a pipeline; all of this is this project's own.
use Rattle.std.specs.Prelude.{ℕ, Bool, true, false, List, [], codes}
use Rattle.p9_word.specs.declared.io_call.IoCall.{IoCall}
use Rattle.p9_word.specs.declared.request.Request.{Request}
use Rattle.p9_word.specs.declared.request.Request.TheVariants.{Thread, Io}
use Rattle.p9_word.specs.declared.request.ThreadReq.TheVariants.{ThreadExits}
use Rattle.p9_word.specs.declared.request.IoReq.TheVariants.{IoRun}

-- the file and the channel that a stage works on
pub record Ends : Type 0 where
  pub file : ℕ
  pub chan : ℕ

-- a call on the file, through its ioproc. ioproc(2)
abbrev pub call_of : Ends → IoCall → Request
call_of e call = Io (IoRun e.file call)

-- the text that a stage exits with: `stage` where it got an answer that it has no use for, else none
abbrev pub exit_text : Bool → List ℕ
exit_text true = codes "stage"
exit_text false = []

-- the stage exits. thread(2)
abbrev pub exits : Bool → Request
exits failed = Thread (ThreadExits (exit_text failed))
