use Rattle.std.proofs.Common.{◌≡◌, Some, add-one, sym, ap, ◌∙◌, arith}
use Rattle.std.proofs.lemmas.List.{length-set}
use Rattle.std.specs.Prelude.{slice_get, map}
use Rattle.p9_manual.specs.Ends.{let_go}
use Rattle.p9_io.specs.declared.desk.Desk.{Desk}
use Rattle.p9_io.specs.Calls.{begun_count}
use Rattle.p9_io.specs.Kept.{ioprocs_of}
use Rattle.p9_io.proofs.Counts.{count_let_go}
use Rattle.p9_io.proofs.Shown.{at_read, map_set_same, from_more, from_end_map, shown_is}
use Rattle.p9_io.proofs.desks.let_go.Given.{Over}
use Rattle.p9_io.proofs.desks.let_go.Goals as goal

pub loop-i-preserved : goal.loop-i-preserved
loop-i-preserved g c =
    let at : slice_get c.loop-i.desks.items c.loop-i.i ≡ Some c.index_mut-desk.result.now =
    at_read c.loop-i.desks.items c.loop-i.i c.index_mut-desk.result.now _ (omega arith) c.index_mut-desk.ensures.value in
    record {
      ioprocs = rw add-one (from_more (λ (d : Desk). d.ioproc) (let_go (g.E.Gone.ends c.args.ending.now)) c.loop-i.desks.items c.loop-i.i c.let_go.new.self c.index_mut-desk.result.now at c.let_go.ensures.ioproc ∙ c.loop-i.invariant.ioprocs);
      rooms = map_set_same (λ (d : Desk). d.is_here) c.loop-i.desks.items c.loop-i.i c.let_go.new.self c.index_mut-desk.result.now at c.let_go.ensures.here ∙ c.loop-i.invariant.rooms;
      len = length-set c.loop-i.desks.items c.loop-i.i c.let_go.new.self ∙ c.loop-i.invariant.len;
      prepared = map_set_same (λ (d : Desk). d.is_prepared) c.loop-i.desks.items c.loop-i.i c.let_go.new.self c.index_mut-desk.result.now at c.let_go.ensures.prepared ∙ c.loop-i.invariant.prepared;
    }

all_gone : (g : Over) (c : goal.After-loop-i g) → ioprocs_of c.loop-i.desks.items ≡ map (let_go (g.E.Gone.ends c.args.ending.now)) (ioprocs_of c.args.desks.now.items)
all_gone g c = sym (from_end_map (λ (d : Desk). d.ioproc) (let_go (g.E.Gone.ends c.args.ending.now)) c.loop-i.i c.loop-i.desks.items (omega arith)) ∙ c.loop-i.invariant.ioprocs

pub returns-clause-shown : goal.returns-clause-shown
returns-clause-shown g c = shown_is _ _ (all_gone g c) c.loop-i.invariant.rooms c.loop-i.invariant.prepared

pub returns-clause-calls : goal.returns-clause-calls
returns-clause-calls g c = ap begun_count (all_gone g c) ∙ count_let_go (g.E.Gone.ends c.args.ending.now) (ioprocs_of c.args.desks.now.items)
