use Rattle.std.proofs.Common.{refl}
use Rattle.p9_machine.proofs.Noting.{caught, died, goes_on, places_after}
use Rattle.p9_machine.proofs.next.note_or_turn.Goals as goal

pub returns-in-Quiet-clause-gives : goal.returns-in-Quiet-clause-gives
returns-in-Quiet-clause-gives c = λ s st sound.
    goes_on c.args.board.now c.run_next.new.board s c.args.p c.deliver.new.self c.run_next.result (c.in-Quiet.ensures.told_for c.args.board.now.setup.places s st.notes) (c.in-Quiet.ensures.quiet refl) (λ on. c.run_next.ensures.gives s on sound) st

pub returns-in-Caught-clause-gives : goal.returns-in-Caught-clause-gives
returns-in-Caught-clause-gives c = λ s st sound.
    caught c.args.board.now s c.args.p c.deliver.new.self c.in-Caught.id (c.in-Caught.ensures.told_for c.args.board.now.setup.places s st.notes) (λ d e. c.in-Caught.ensures.stands c.args.board.now.setup.places s d st.notes e) st

pub die-requires-clause-places : goal.die-requires-clause-places
die-requires-clause-places c = places_after _ c.deliver.new.self c.args.board.now.notes _ _ c.in-Died.ensures.after c.requires.places

pub returns-in-Died-clause-gives : goal.returns-in-Died-clause-gives
returns-in-Died-clause-gives c = λ s st sound.
    died c.args.board.now c.die.new.board s c.args.p c.deliver.new.self c.in-Died.note c.die.result (c.in-Died.ensures.told_for c.args.board.now.setup.places s st.notes) (λ d e. c.in-Died.ensures.stands c.args.board.now.setup.places s d st.notes e) (λ t on ok. c.die.ensures.gives t on ok) st sound
