use Rattle.std.proofs.Common.{◌∙◌, arith, ap}
use Rattle.p9_sched.specs.Lined.{bare, Lined}
use Rattle.p9_sched.proofs.Lists.{map_set_same}
use Rattle.p9_sched.proofs.Rooms.{more_room, more_spare}
use Rattle.p9_sched.proofs.each.reserve_each.Goals as goal

pub loop-lane-preserved : goal.loop-lane-preserved
loop-lane-preserved c =
    let e = c.in_ok-reserve.ensures in
    let living = ap (λ (x : Lined). x.living) e.same in
    record {
      same = map_set_same bare c.loop-lane.lanes c.loop-lane.lane-index c.reserve.new.self c.lane-item.result (omega arith) c.reserve.ensures.same ∙ c.loop-lane.invariant.same;
      more = λ k. let h = more_room c.loop-lane.lanes c.loop-lane.lane-index k c.reserve.new.self c.lane-item.result (omega arith) c.reserve.ensures.more in omega (arith, c.loop-lane.invariant.more k);
      ok = λ k lt. more_spare c.loop-lane.lanes c.loop-lane.lane-index k c.reserve.new.self (omega arith) (omega (arith, living, e.ok)) c.loop-lane.invariant.ok lt;
    }

pub returns-in_err-reserve-clause-same : goal.returns-in_err-reserve-clause-same
returns-in_err-reserve-clause-same c =
    map_set_same bare c.loop-lane.lanes c.loop-lane.lane-index c.reserve.new.self c.lane-item.result (omega arith) c.reserve.ensures.same ∙ c.loop-lane.invariant.same

pub returns-in_err-reserve-clause-more : goal.returns-in_err-reserve-clause-more
returns-in_err-reserve-clause-more c = λ k.
    let h = more_room c.loop-lane.lanes c.loop-lane.lane-index k c.reserve.new.self c.lane-item.result (omega arith) c.reserve.ensures.more in
    omega (arith, c.loop-lane.invariant.more k)
