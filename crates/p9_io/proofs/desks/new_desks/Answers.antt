use Rattle.std.proofs.Common.{refl, false}
use Rattle.p9_manual.specs.declared.state.Ioproc.TheVariants.{Unmade}
use Rattle.p9_io.specs.declared.desk.Desk.{Desk}
use Rattle.p9_io.proofs.Counts.{count_push}
use Rattle.p9_io.proofs.Shown.{map_push, push_map}
use Rattle.p9_io.proofs.desks.new_desks.Goals as goal

pub loop-i-preserved : goal.loop-i-preserved
loop-i-preserved c =
    record {
      ioprocs = rw c.in_ok-push.ensures.items (push_map (λ (d : Desk). d.ioproc) c.loop-i.desks.items c.new.result c.loop-i._i Unmade c.loop-i.invariant.ioprocs c.new.ensures.ioproc);
      rooms = rw c.in_ok-push.ensures.items (push_map (λ (d : Desk). d.is_here) c.loop-i.desks.items c.new.result c.loop-i._i false c.loop-i.invariant.rooms c.new.ensures.here);
      prepared = rw c.in_ok-push.ensures.items (push_map (λ (d : Desk). d.is_prepared) c.loop-i.desks.items c.new.result c.loop-i._i false c.loop-i.invariant.prepared c.new.ensures.prepared);
      calls = rw (c.in_ok-push.ensures.items, map_push (λ (d : Desk). d.ioproc) c.loop-i.desks.items c.new.result, count_push, c.loop-i.invariant.calls, c.new.ensures.ioproc) refl;
    }
