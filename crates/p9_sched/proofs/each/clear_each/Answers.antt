use Rattle.std.proofs.Common.{◌∙◌, add-one, sym, arith}
use Rattle.p9_sched.specs.Lined.{cleared}
use Rattle.p9_sched.proofs.Lists.{from_more, from_end}
use Rattle.p9_sched.proofs.each.clear_each.Goals as goal

pub loop-lane-preserved : goal.loop-lane-preserved
loop-lane-preserved c =
    rw add-one (from_more cleared c.loop-lane.lanes c.loop-lane.lane-index c.clear.new.self c.lane-item.result (omega arith) c.clear.ensures ∙ c.loop-lane.invariant)

pub returns : goal.returns
returns c =
    sym (from_end cleared c.loop-lane.lane-index c.loop-lane.lanes (omega arith)) ∙ c.loop-lane.invariant
