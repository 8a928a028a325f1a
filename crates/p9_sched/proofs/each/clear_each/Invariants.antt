use Rattle.std.proofs.Common.{◌≡◌, map}
use Rattle.p9_sched.specs.Lined.{cleared}
use Rattle.p9_sched.proofs.Lists.{from}
use Rattle.p9_sched.proofs.each.clear_each.Given as goal

abbrev pub invariant-loop-lane : goal.invariant-loop-lane
invariant-loop-lane l = from cleared l.lane-index l.lanes ≡ map cleared l.fn.lanes
