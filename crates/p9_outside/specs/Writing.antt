-- What one service of a file that is written does.
use Rattle.std.specs.Prelude.{ℕ, ◌≡◌, ◌≤◌, ◌-◌, true, false, List, [], length}
use Rattle.std.specs.Io.KnownBytes.{Appends}
use Rattle.p9_word.specs.declared.io_call.IoCall.{IoCall}
use Rattle.p9_word.specs.declared.io_call.IoCall.TheVariants.{IoOpen, IoRead, IoReadN, IoWrite, IoClose, IoOwn}
use Rattle.p9_word.specs.declared.io_call.Effect.{Effect}
use Rattle.p9_manual.specs.Effects.{put, has_failed}
use Rattle.p9_manual.specs.Files.{At, IsFileStep, after}
use Rattle.p9_outside.specs.declared.writing.WriteDevice.{WriteDevice}
use Rattle.p9_outside.specs.Causes.{CountsFault}
use Rattle.p9_outside.specs.Promised.{SinkTells}

-- whether the file is open; no read of it ever fails
abbrev pub writer_at : {K : Type 0} → WriteDevice K → At
writer_at d = record { is_open = d.is_open; failed = false }

-- the sink that the file is written to
abbrev pub sink_of : {K : Type 0} → WriteDevice K → K
sink_of d = d.sink

-- the message of a write
abbrev pub message : IoCall → List ℕ
message (IoWrite m) = m
message IoOpen = []
message (IoRead n) = []
message (IoReadN n) = []
message IoClose = []
message (IoOwn code m) = []

-- one service: a step of a file, with the state after it; the bytes that it took are those of the effect; the sink's count
-- of faults rises by just one where it failed, and else stays; and a message within the bytes that the sink takes without
-- a failure did not fail, and lowered them by just the bytes taken
pub record WriteServes {K : Type 0} (sink : SinkTells K) (old : WriteDevice K) (call : IoCall) (effect : Effect) (new : WriteDevice K) : Type 0 where
  pub file : IsFileStep true (writer_at old) call effect
  pub state : writer_at new ≡ after (writer_at old) effect
  pub bytes : Appends (sink.held old.sink) (sink.held new.sink) (put call effect)
  pub tells : CountsFault (has_failed effect) (sink.faults old.sink) (sink.faults new.sink)
  pub firm : length (message call) ≤ sink.firm old.sink → has_failed effect ≡ false
  pub lowered : sink.firm new.sink ≡ sink.firm old.sink - length (put call effect)
