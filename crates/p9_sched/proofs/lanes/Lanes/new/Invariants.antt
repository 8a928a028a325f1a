use Rattle.std.proofs.Common.{◌≡◌, map, replicate}
use Rattle.p9_sched.specs.Lined.{bare, no_lane}
use Rattle.p9_sched.proofs.lanes.Lanes.new.Given as goal

abbrev pub invariant-loop : goal.invariant-loop
invariant-loop l = map bare l.all.items ≡ replicate l.counter no_lane
