use Rattle.std.proofs.Common.{ℕ, List, ap, ◌∙◌}
use Rattle.p9_manual.specs.Told.{got_answer}
use Rattle.p9_alt.proofs.Deals.{taken_given}
use Rattle.p9_alt.proofs.commit.take_over.Goals as goal

pub returns-in-Some-clause-answer : goal.returns-in-Some-clause-answer
returns-in-Some-clause-answer c =
    c.got_answer.ensures ∙ (ap (λ (m : List ℕ). got_answer c.args.turn.single c.args.turn.i c.in-Some.x.from m) c.kept.ensures ∙ taken_given c.args.turn c.args.c c.args.elsize c.args.slot c.in-Some.wake c.in-Some.x _ c.in-Some.ensures.gives)
