use Rattle.std.proofs.Common.{ap, ◌∙◌, refl}
use Rattle.p9_machine.specs.Shown.{Shown}
use Rattle.p9_run.proofs.EngineSteps.{taken_begun, call_is, room_here}
use Rattle.p9_run.proofs.machine_engine.RunningMachineEngine.take.Goals as goal

pub room-room-requires-clause-begun : goal.room-room-requires-clause-begun
room-room-requires-clause-begun c =
    let is = rw c.in-Took.is at c.in_ok-call.ensures.reply in
    let after = rw c.in-Took.is at c.in_ok-call.ensures.entries in
    let begun = taken_begun _ _ _ _ _ _ (c.taken_calls_are_begun.ensures _ _) c.one_event.ensures.setup is after in
    rw (call_is _ _ begun) refl

pub returns-in-Took-clause-call : goal.returns-in-Took-clause-call
returns-in-Took-clause-call c =
    let is = rw c.in-Took.is at c.in_ok-call.ensures.reply in
    let after = rw c.in-Took.is at c.in_ok-call.ensures.entries in
    let begun = taken_begun _ _ _ _ _ _ (c.taken_calls_are_begun.ensures _ _) c.one_event.ensures.setup is after in
    let entries = ap (λ (m : Shown). m.entries) c.room-room.ensures.machine ∙ after in
    let setup = ap (λ (m : Shown). m.setup) c.room-room.ensures.machine ∙ c.one_event.ensures.setup in
    record {
      entries = entries;
      begun = taken_begun _ _ _ _ _ _ (c.taken_calls_are_begun.ensures _ _) setup is entries;
      empty = c.room-room.ensures.items;
      room_is = rw (call_is _ _ begun) at c.room-room.ensures.spare;
      message = rw (call_is _ _ begun) at c.room-room.ensures.short;
    }

pub room-room-requires-clause-here : goal.room-room-requires-clause-here
room-room-requires-clause-here c =
    room_here _ _ _ _ _ _ (c.posted_calls_are_taken.ensures _ _) c.files.ensures.rooms (rw c.in-Took.is at c.in_ok-call.ensures.reply) (rw c.in-Took.is at c.in_ok-call.ensures.rooms)
