-- What the adapters over readers, writers and the files of the system stand on, how often each has failed, and what
-- they count of what was done.
use Rattle.std.specs.Prelude.{ℕ, Bool, true, false}
use Rattle.p9_outside.specs.declared.real.std_source.StdSource.{StdSource}
use Rattle.p9_outside.specs.declared.real.std_sink.StdSink.{StdSink}
use Rattle.p9_outside.specs.declared.real.closings.Closings.{Closings}
use Rattle.p9_outside.specs.declared.real.in_place.InPlace.{InPlace}
use Rattle.p9_outside.specs.declared.real.location.Location.{Location}
use Rattle.p9_outside.specs.declared.real.location.Location.TheVariants.{Beside, Over, On}
use Rattle.p9_outside.specs.declared.real.file_sink.FileSink.{FileSink}
use Rattle.p9_outside.specs.declared.real.files.RealFiles.{RealFiles}

abbrev pub reader_of : {R : Type 0} → StdSource R → R
reader_of s = s.inner

abbrev pub reader_faults : {R : Type 0} → StdSource R → ℕ
reader_faults s = s.faults

-- how many bytes the reader has given, by what its reads answered
abbrev pub reader_given : {R : Type 0} → StdSource R → ℕ
reader_given s = s.given

abbrev pub writer_of : {W : Type 0} → StdSink W → W
writer_of s = s.inner

abbrev pub writer_faults : {W : Type 0} → StdSink W → ℕ
writer_faults s = s.faults

-- how many bytes the writer has taken, by what its writes answered
abbrev pub writer_taken : {W : Type 0} → StdSink W → ℕ
writer_taken s = s.taken

-- the same of a file of the system that is written, D being the folders of the runtime R
abbrev pub file_writer : {R W D : Type 0} → FileSink R W D → W
file_writer s = writer_of s.sink

abbrev pub file_faults : {R W D : Type 0} → FileSink R W D → ℕ
file_faults s = writer_faults s.sink

abbrev pub file_taken : {R W D : Type 0} → FileSink R W D → ℕ
file_taken s = writer_taken s.sink

-- whether the bytes go to their location at once, and not under a temporary name
abbrev pub in_place : Location → Bool
in_place (Beside temporary) = false
in_place Over = true
in_place On = true

-- the same of a file, by how it was opened
abbrev pub file_in_place : {R W D : Type 0} → FileSink R W D → Bool
file_in_place s = in_place s.location

-- how many temporary files have taken the place of their targets
abbrev pub closed_count : Closings → ℕ
closed_count c = c.count

-- how many files that were written in place have been closed
abbrev pub in_place_count : InPlace → ℕ
in_place_count c = c.count

-- how many calls on the files of the system have failed
abbrev pub real_faults : {R : Type 0} → RealFiles R → ℕ
real_faults f = f.faults

-- how many of them have closed a file that stood under a temporary name, and one that was written in place
abbrev pub real_replaced : {R : Type 0} → RealFiles R → ℕ
real_replaced f = closed_count f.closings

abbrev pub real_in_place : {R : Type 0} → RealFiles R → ℕ
real_in_place f = in_place_count f.in_place
