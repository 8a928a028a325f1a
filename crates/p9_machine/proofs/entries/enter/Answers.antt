use Rattle.std.proofs.Common.{List, length, ap, subst, ◌∙◌}
use Rattle.p9_word.specs.declared.trail.Entry.{Entry}
use Rattle.p9_word.specs.declared.trail.Event.{Event}
use Rattle.p9_word.specs.declared.trail.Seat.{Seat}
use Rattle.p9_manual.specs.Step.{outcome}
use Rattle.p9_machine.specs.Board.{Gives}
use Rattle.p9_machine.specs.Reserved.{IsFor, event_of}
use Rattle.p9_machine.proofs.Dispatch.{counts}
use Rattle.p9_machine.proofs.entries.enter.Goals as goal

pub put_entry-requires-clause-told : goal.put_entry-requires-clause-told
put_entry-requires-clause-told c =
    let m : IsFor c.args.board.now c.args.seat c.args.event c.in-Some.field-0 = rw c.in-Some.is at c.requires.memory in
    rw c.replace-told.ensures.value (c.outcome-reply.ensures.told c.in-Some.field-0.told m.ready.told)

pub returns-clause-does : goal.returns-clause-does
returns-clause-does c = λ s st sound.
    let r = c.in-Some.field-0 in
    let m : IsFor c.args.board.now c.args.seat c.args.event r = rw c.in-Some.is at c.requires.memory in
    let by_needs = c.outcome-reply.ensures.gives s st sound in
    let by_seat = subst (λ (x : Seat). Gives s (outcome c.args.board.now.setup x (event_of r.needs) s) c.outcome-reply.result c.outcome-reply.new.board) m.seat_is by_needs in
    let by_event = subst (λ (x : Event). Gives s (outcome c.args.board.now.setup c.args.seat x s) c.outcome-reply.result c.outcome-reply.new.board) m.event_is by_seat in
    counts c.args.board.now.setup c.args.seat c.args.event c.outcome-reply.new.board s c.outcome-reply.result c.args.entries.now.items _ (st.position ∙ c.requires.counted) (ap (λ (es : List Entry). length es) (c.as_slice.ensures ∙ c.put_entry.ensures.entries)) by_event
