-- What an ioproc needs to take its call.
use Rattle.std.specs.Prelude.{ℕ, ◌≡◌, Bool, true, Option, Some, None}
use Rattle.p9_manual.specs.declared.state.Ioproc.{Ioproc}
use Rattle.p9_manual.specs.declared.state.Ioproc.TheVariants.{Unmade, Idle, Posted, Begun, Closed}
use Rattle.p9_io.specs.Desks.{Desks, prepared}
use Rattle.p9_io_calls.specs.declared.spare.Spare.{Spare}
use Rattle.p9_io_calls.specs.declared.spare.Spare.TheVariants.{Copy}

-- where a call is posted: its buffers, and a copy of it
abbrev pub IsSpare : Option Ioproc → Option Bool → Spare → Type 0
IsSpare (Some (Posted t call)) ready spare = (ready ≡ Some true) × (spare ≡ Copy call)
IsSpare (Some (Begun t call)) ready spare = Unit {0}
IsSpare (Some Unmade) ready spare = Unit {0}
IsSpare (Some Idle) ready spare = Unit {0}
IsSpare (Some Closed) ready spare = Unit {0}
IsSpare None ready spare = Unit {0}

-- the ioprocs once that memory is taken
abbrev pub with_memory : ℕ → Option Ioproc → Desks → Desks
with_memory k (Some (Posted t call)) d = prepared k d
with_memory k (Some (Begun t call)) d = d
with_memory k (Some Unmade) d = d
with_memory k (Some Idle) d = d
with_memory k (Some Closed) d = d
with_memory k None d = d
