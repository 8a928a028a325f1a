use Rattle.std.proofs.Common.{refl, sym, ◌∙◌}
use Rattle.p9_word.specs.declared.trail.Reply.TheVariants.{Stray, Over}
use Rattle.p9_machine.proofs.Dispatch.{unmoved, gives_by, stands_places}
use Rattle.p9_machine.proofs.Turning.{some_runs, next_off, next_over, next_stray, next_runs}
use Rattle.p9_machine.proofs.next.next_event.Goals as goal

pub returns-then-not-is_place-clause-gives : goal.returns-then-not-is_place-clause-gives
returns-then-not-is_place-clause-gives c = λ s st sound.
    gives_by _ s _ _ Stray (next_off c.args.board.now.setup c.args.p s (sym c.if-not-is_place.ensures)) (unmoved c.args.board.now s Stray refl st)

pub returns-then-is_over-clause-gives : goal.returns-then-is_over-clause-gives
returns-then-is_over-clause-gives c = λ s st sound.
    gives_by _ s _ _ Over (next_over c.args.board.now.setup c.args.p s (sym c.if-not-is_place.ensures) (sym (c.if-is_over.ensures s st))) (unmoved c.args.board.now s Over refl st)

pub returns-then-is_some-clause-gives : goal.returns-then-is_some-clause-gives
returns-then-is_some-clause-gives c = λ s st sound.
    let runs = some_runs c.args.p c.args.board.now.sched.threads c.running.result c.running.ensures ∙ sym c.if-is_some.ensures in
    gives_by _ s _ _ Stray (next_stray c.args.board.now.setup c.args.p s (sym c.if-not-is_place.ensures) (sym (c.if-is_over.ensures s st)) (rw st.sched.threads runs)) (unmoved c.args.board.now s Stray refl st)

pub returns-clause-gives : goal.returns-clause-gives
returns-clause-gives c = λ s st sound.
    let runs = some_runs c.args.p c.args.board.now.sched.threads c.running.result c.running.ensures ∙ sym c.if-is_some.ensures in
    gives_by _ s _ _ _ (next_runs c.args.board.now.setup c.args.p s (sym c.if-not-is_place.ensures) (sym (c.if-is_over.ensures s st)) (rw st.sched.threads runs)) (c.note_or_turn.ensures.gives s st sound)

pub note_or_turn-requires-clause-places : goal.note_or_turn-requires-clause-places
note_or_turn-requires-clause-places c =
    let b = c.requires in
    stands_places c.args.board.now b.0 b.1.0
