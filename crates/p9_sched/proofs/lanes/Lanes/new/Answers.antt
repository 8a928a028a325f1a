use Rattle.std.proofs.Common.{length, arith, ap}
use Rattle.std.proofs.lemmas.List.{length-map, length-replicate}
use Rattle.p9_sched.specs.Lined.{bare, no_lane}
use Rattle.p9_sched.proofs.Lists.{push_map}
use Rattle.p9_sched.proofs.lanes.Lanes.new.Goals as goal

pub loop-preserved : goal.loop-preserved
loop-preserved c =
    rw c.in_ok-push.ensures.items (push_map bare c.loop.all.items c.new.result c.loop.counter no_lane c.loop.invariant c.new.ensures)

pub invariant_of-result : goal.invariant_of-result
invariant_of-result c =
    let same = ap length c.loop.invariant in
    let n = length-replicate c.loop.counter no_lane in
    let m = length-map c.loop.all.items bare in
    omega arith
