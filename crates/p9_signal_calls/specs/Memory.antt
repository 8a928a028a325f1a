-- The memory that each request on interrupts and notes needs.
use Rattle.std.specs.Prelude.{ℕ, ◌≡◌, true, List}
use Rattle.p9_word.specs.declared.request.SignalReq.{SignalReq}
use Rattle.p9_word.specs.declared.request.SignalReq.TheVariants as ask
use Rattle.p9_manual.specs.State.{by_id}
use Rattle.p9_note.specs.ProcNotes.{ProcNotes, IsPlace, notes_of}
use Rattle.p9_sched.specs.Schedule.{Schedule, proc_of}

-- there is memory for one more handler and one more note of proc p, if that is one
abbrev pub HasRoom : ℕ → List ProcNotes → Type 0
HasRoom p notes = IsPlace p notes → (notes_of p notes).room ≡ true

-- there is memory for a request of thread t: that of the proc where its handler or its note comes
abbrev pub HasMemory : SignalReq → ℕ → Schedule → List ProcNotes → Type 0
HasMemory (ask.ThreadNotify on id prefix) t sched notes = HasRoom (proc_of (by_id sched.threads t)) notes
HasMemory (ask.PostNote p note) t sched notes = HasRoom p notes
HasMemory (ask.ThreadInt u) t sched notes = Unit {0}
HasMemory (ask.ThreadKill u) t sched notes = Unit {0}
HasMemory (ask.ThreadIntGrp group) t sched notes = Unit {0}
HasMemory (ask.ThreadKillGrp group) t sched notes = Unit {0}
