use Rattle.std.proofs.Common.{refl, ◌∙◌}
use Rattle.p9_word.specs.declared.trail.Event.TheVariants.{IoDid}
use Rattle.p9_word.specs.declared.trail.Reply.TheVariants.{Stray}
use Rattle.p9_word.specs.declared.trail.Seat.TheVariants.{Proc}
use Rattle.p9_machine.proofs.Dispatch.{counts, gives_by, unmoved, tells_nothing}
use Rattle.p9_machine.proofs.entries.record.Goals as goal

pub returns-in-Proc-clause-does : goal.returns-in-Proc-clause-does
returns-in-Proc-clause-does c = λ s st sound.
    rw c.in-Proc.is (counts c.args.board.now.setup (Proc c.in-Proc.field-0) (IoDid c.args.effect) c.args.board.now s Stray c.args.entries.now.items c.args.board.now.position (st.position ∙ c.requires.counted) c.requires.counted
    (gives_by _ s _ _ Stray (tells_nothing c.args.board.now.setup c.in-Proc.field-0 c.args.effect s) (unmoved c.args.board.now s Stray refl st)))
