-- What the services of a file come to, one after the other.
use Rattle.std.specs.Prelude.{ℕ, ◌≡◌, ◌≤◌, ◌-◌, Bool, true, false, List, [], ◌∷◌, ◌++◌, length, None}
use Rattle.std.specs.Io.KnownBytes.{Consumes, Appends}
use Rattle.p9_word.specs.declared.io_call.IoCall.{IoCall}
use Rattle.p9_word.specs.declared.io_call.Effect.{Effect}
use Rattle.p9_manual.specs.Files.{TreatsAsFile, given, joined, written}
use Rattle.p9_outside.specs.declared.file_device.FileDevice.{FileDevice}
use Rattle.p9_outside.specs.declared.file_device.FileDevice.TheVariants.{In, Out}
use Rattle.p9_outside.specs.declared.reading.ReadDevice.{ReadDevice}
use Rattle.p9_outside.specs.declared.writing.WriteDevice.{WriteDevice}
use Rattle.p9_outside.specs.Counts.{raised}
use Rattle.p9_outside.specs.DeviceRuns.{failures}
use Rattle.p9_outside.specs.FileServices.{FileServes}
use Rattle.p9_outside.specs.Promised.{SourceTells, SinkTells}
use Rattle.p9_outside.specs.Reached.{Reached}
use Rattle.p9_outside.specs.Reading.{reader_at, FullReads}
use Rattle.p9_outside.specs.Writing.{writer_at, message}

-- the messages of all writes among the services, joined, whatever was taken of them
abbrev pub messages : List (IoCall × Effect) → List ℕ
messages [] = []
messages (s ∷ services) = message s.0 ++ messages services

-- a source that was steady at first is so at last, and no effect failed
abbrev pub RunsSteady : Bool → Bool → List (IoCall × Effect) → Type 0
RunsSteady first last services = first ≡ true → (failures services ≡ 0) × (last ≡ true)

-- a file that is read: it was treated as one; the bytes that it gave are those that its source has less; each read is full
-- until one fails; the count of faults rose by just as much as effects failed; and over a steady source none did
pub record ReaderRuns {S : Type 0} (source : SourceTells S) (first : ReadDevice S) (services : List (IoCall × Effect)) (last : ReadDevice S) : Type 0 where
  pub file : TreatsAsFile false (reader_at first) services
  pub given : Consumes (source.left first.source) (source.left last.source) (joined (given services))
  pub full : FullReads first.has_failed (source.left first.source) services
  pub tells : source.faults last.source ≡ raised (source.faults first.source) (failures services)
  pub steady : RunsSteady (source.steady first.source) (source.steady last.source) services

-- a file that is written: it was treated as one; the bytes that it took are those that its sink has more; the count of
-- faults rose by just as much as effects failed; and where all messages together are within the bytes that the sink takes
-- without a failure none did, and the bytes written have lowered those by just their number
pub record WriterRuns {K : Type 0} (sink : SinkTells K) (first : WriteDevice K) (services : List (IoCall × Effect)) (last : WriteDevice K) : Type 0 where
  pub file : TreatsAsFile true (writer_at first) services
  pub lowered : sink.firm last.sink ≡ sink.firm first.sink - length (written services)
  pub written : Appends (sink.held first.sink) (sink.held last.sink) (written services)
  pub tells : sink.faults last.sink ≡ raised (sink.faults first.sink) (failures services)
  pub firm : length (messages services) ≤ sink.firm first.sink → failures services ≡ 0

-- a file keeps its direction, and does what a file of that direction does
abbrev pub FileRuns : {S K : Type 0} → SourceTells S → SinkTells K → FileDevice S K → List (IoCall × Effect) → FileDevice S K → Type 0
FileRuns source sink (In first) services (In last) = ReaderRuns source first services last
FileRuns source sink (Out first) services (Out last) = WriterRuns sink first services last
FileRuns source sink (In first) services (Out last) = ⊥
FileRuns source sink (Out first) services (In last) = ⊥

-- each file that has made a list of services has come to that
abbrev pub FilesRun : {S K : Type 0} → SourceTells S → SinkTells K → Type 0
FilesRun {S} {K} source sink =
    (first : FileDevice S K) (services : List (IoCall × Effect)) (last : FileDevice S K) → Reached (FileServes source sink) first services last → FileRuns source sink first services last

-- where the bytes left aren't told, all reads are full
abbrev pub UntoldAreFull : Type 0
UntoldAreFull = (failed : Bool) (services : List (IoCall × Effect)) → FullReads failed None services
