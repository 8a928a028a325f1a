-- The memory that each request on threads needs.
use Rattle.std.specs.Prelude.{ℕ, ◌≡◌, true, List, []}
use Rattle.p9_word.specs.declared.request.ThreadReq.{ThreadReq}
use Rattle.p9_word.specs.declared.request.ThreadReq.TheVariants as ask
use Rattle.p9_manual.specs.State.{by_id}
use Rattle.p9_sched.specs.Schedule.{Schedule, name_of}
use Rattle.p9_thread_calls.specs.declared.spares.Spare.{Spare}
use Rattle.p9_thread_calls.specs.declared.spares.Spare.TheVariants.{Nothing, Name}

-- there is memory for a request of thread t: room in the schedule for the thread, group or name that it makes or sets, or
-- a copy of the name that it is told; every other request needs none
abbrev pub HasMemory : ThreadReq → ℕ → Schedule → Spare → Type 0
HasMemory (ask.ThreadCreate program arg) t sched spare = sched.rooms.thread ≡ true
HasMemory (ask.ProcCreate program arg) t sched spare = sched.rooms.thread ≡ true
HasMemory (ask.ThreadSetGrp group) t sched spare = sched.rooms.group ≡ true
HasMemory (ask.ThreadSetName name) t sched spare = sched.rooms.name ≡ true
HasMemory ask.ThreadGetName t sched spare = spare ≡ Name (name_of (by_id sched.threads t))
HasMemory request t sched spare = Unit {0}

-- the message that a request is told by what it needs
abbrev pub message_of : Spare → List ℕ
message_of Nothing = []
message_of (Name name) = name
