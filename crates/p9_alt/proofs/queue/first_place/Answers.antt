use Rattle.p9_alt.specs.Sides.{party_test}
use Rattle.p9_alt.proofs.Waits.{met_within, met_past}
use Rattle.p9_alt.proofs.queue.first_place.Goals as goal

pub returns-then-i-waits-clause-found : goal.returns-then-i-waits-clause-found
returns-then-i-waits-clause-found c =
    met_within (party_test c.args.side c.args.c) c.args.waits.now c.first_index-i.result c.if-i-waits.true c.first_index-i.ensures.first

pub returns-else-i-waits-clause-found : goal.returns-else-i-waits-clause-found
returns-else-i-waits-clause-found c =
    met_past (party_test c.args.side c.args.c) c.args.waits.now c.first_index-i.result c.if-i-waits.false c.first_index-i.ensures.first
