-- A file by its direction.
use Rattle.std.specs.Prelude.{Option, Some, None}
use Rattle.p9_outside.specs.declared.reading.ReadDevice.{ReadDevice}
use Rattle.p9_outside.specs.declared.writing.WriteDevice.{WriteDevice}
use Rattle.p9_outside.specs.declared.file_device.FileDevice.{FileDevice}
use Rattle.p9_outside.specs.declared.file_device.FileDevice.TheVariants.{In, Out}

abbrev pub in_of : {S K : Type 0} → Option (FileDevice S K) → Option (ReadDevice S)
in_of (Some (In reader)) = Some reader
in_of (Some (Out writer)) = None
in_of None = None

abbrev pub out_of : {S K : Type 0} → Option (FileDevice S K) → Option (WriteDevice K)
out_of (Some (Out writer)) = Some writer
out_of (Some (In reader)) = None
out_of None = None
