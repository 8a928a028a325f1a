-- The services of a file of either direction.
use Rattle.std.specs.Prelude.{ℕ, List, Option, None}
use Rattle.std.specs.Io.KnownBytes.{Consumes, Appends}
use Rattle.p9_word.specs.declared.io_call.IoCall.{IoCall}
use Rattle.p9_word.specs.declared.io_call.Effect.{Effect}
use Rattle.p9_manual.specs.Effects.{Fits, got, has_failed, put}
use Rattle.p9_outside.specs.declared.file_device.FileDevice.{FileDevice}
use Rattle.p9_outside.specs.declared.file_device.FileDevice.TheVariants.{In, Out}
use Rattle.p9_outside.specs.Causes.{CountsFault}
use Rattle.p9_outside.specs.Promised.{SourceTells, SinkTells}
use Rattle.p9_outside.specs.Reading.{ReadServes}
use Rattle.p9_outside.specs.Writing.{WriteServes}

-- a file keeps its direction, and does what a file of that direction does
abbrev pub FileServes : {S K : Type 0} → SourceTells S → SinkTells K → FileDevice S K → IoCall → Effect → FileDevice S K → Type 0
FileServes source sink (In old) call effect (In new) = ReadServes source old call effect new
FileServes source sink (Out old) call effect (Out new) = WriteServes sink old call effect new
FileServes source sink (In old) call effect (Out new) = ⊥
FileServes source sink (Out old) call effect (In new) = ⊥

-- the bytes that a file has left to give, where its source tells them; one that is written gives none
abbrev pub file_left : {S K : Type 0} → (S → Option (List ℕ)) → FileDevice S K → Option (List ℕ)
file_left left (In d) = left d.source
file_left left (Out d) = None

-- the bytes that a file has taken, where its sink tells them; one that is read takes none
abbrev pub file_held : {S K : Type 0} → (K → Option (List ℕ)) → FileDevice S K → Option (List ℕ)
file_held held (In d) = None
file_held held (Out d) = held d.sink

-- how often an effect of a file has failed: the count of its source or of its sink
abbrev pub fault_count : {S K : Type 0} → (S → ℕ) → (K → ℕ) → FileDevice S K → ℕ
fault_count faults counts (In d) = faults d.source
fault_count faults counts (Out d) = counts d.sink

-- its effects fit its calls
pub file_fits : {S K : Type 0} (source : SourceTells S) (sink : SinkTells K) (old : FileDevice S K) (call : IoCall) (effect : Effect) (new : FileDevice S K) → FileServes source sink old call effect new → Fits call effect
file_fits source sink (In old) call effect (In new) done = done.file.fits
file_fits source sink (Out old) call effect (Out new) done = done.file.fits
file_fits source sink (In old) call effect (Out new) done = absurd done
file_fits source sink (Out old) call effect (In new) done = absurd done

-- the bytes that it gives are the first of those left
pub file_gives : {S K : Type 0} (source : SourceTells S) (sink : SinkTells K) (old : FileDevice S K) (call : IoCall) (effect : Effect) (new : FileDevice S K) → FileServes source sink old call effect new → Consumes (file_left source.left old) (file_left source.left new) (got effect)
file_gives source sink (In old) call effect (In new) done = done.bytes
file_gives source sink (Out old) call effect (Out new) done = tt
file_gives source sink (In old) call effect (Out new) done = absurd done
file_gives source sink (Out old) call effect (In new) done = absurd done

-- the bytes that it takes are added to those held
pub file_takes : {S K : Type 0} (source : SourceTells S) (sink : SinkTells K) (old : FileDevice S K) (call : IoCall) (effect : Effect) (new : FileDevice S K) → FileServes source sink old call effect new → Appends (file_held sink.held old) (file_held sink.held new) (put call effect)
file_takes source sink (In old) call effect (In new) done = tt
file_takes source sink (Out old) call effect (Out new) done = done.bytes
file_takes source sink (In old) call effect (Out new) done = absurd done
file_takes source sink (Out old) call effect (In new) done = absurd done

-- its count of faults rises by just one with each effect that failed
pub file_counts : {S K : Type 0} (source : SourceTells S) (sink : SinkTells K) (old : FileDevice S K) (call : IoCall) (effect : Effect) (new : FileDevice S K) → FileServes source sink old call effect new → CountsFault (has_failed effect) (fault_count source.faults sink.faults old) (fault_count source.faults sink.faults new)
file_counts source sink (In old) call effect (In new) done = done.tells
file_counts source sink (Out old) call effect (Out new) done = done.tells
file_counts source sink (In old) call effect (Out new) done = absurd done
file_counts source sink (Out old) call effect (In new) done = absurd done
