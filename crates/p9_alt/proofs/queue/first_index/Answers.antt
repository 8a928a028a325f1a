use Rattle.std.proofs.Common.{sym, ◌∙◌}
use Rattle.p9_alt.specs.Sides.{party_test}
use Rattle.p9_alt.proofs.Waits.{find_here, find_none, unmet_past}
use Rattle.p9_alt.proofs.queue.first_index.Goals as goal

pub returns-then-is_in-clause-first : goal.returns-then-is_in-clause-first
returns-then-is_in-clause-first c =
    find_here (party_test c.args.side c.args.c) c.args.waits.now c.loop-i.i c.index-waits-i.result c.loop-i-test.true c.index-waits-i.is (sym c.is_in.ensures ∙ c.if-is_in.true) ∙ sym c.loop-i.invariant

pub returns-clause-first : goal.returns-clause-first
returns-clause-first c =
    find_none (party_test c.args.side c.args.c) c.args.waits.now c.loop-i.i c.loop-i-test.false ∙ sym c.loop-i.invariant

pub returns-clause-before : goal.returns-clause-before
returns-clause-before c =
    unmet_past (party_test c.args.side c.args.c) c.args.waits.now c.loop-i.i c.loop-i-test.false c.loop-i.invariant
