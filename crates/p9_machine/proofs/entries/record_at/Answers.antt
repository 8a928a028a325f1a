use Rattle.std.proofs.Common.{List, length, ap, ◌∙◌}
use Rattle.p9_word.specs.declared.trail.Entry.{Entry}
use Rattle.p9_word.specs.declared.trail.Event.TheVariants.{IoDid}
use Rattle.p9_word.specs.declared.trail.Seat.TheVariants.{Io as IoSeat}
use Rattle.p9_machine.proofs.Dispatch.{counts, gives_by, did_is}
use Rattle.p9_machine.proofs.entries.record_at.Goals as goal

pub returns-clause-does : goal.returns-clause-does
returns-clause-does c = λ s st sound.
    counts c.args.board.now.setup (IoSeat c.args.k) (IoDid c.args.effect) c.did_call-reply.new.board s c.did_call-reply.result c.args.entries.now.items _ (st.position ∙ c.requires.counted) (ap (λ (es : List Entry). length es) (c.as_slice.ensures ∙ c.put_note.ensures.entries))
    (gives_by _ s _ _ _ (did_is c.args.board.now.setup c.args.k c.args.effect s) (c.did_call-reply.ensures.gives s st sound))
