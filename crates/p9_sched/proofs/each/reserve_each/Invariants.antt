use Rattle.std.proofs.Common.{◌≡◌, ℕ, ◌<◌, ◌≤◌, map, IfSome}
use Rattle.std.specs.Prelude.{slice_get}
use Rattle.p9_sched.specs.Lined.{bare, room_at, HasSpare}
use Rattle.p9_sched.proofs.each.reserve_each.Given as goal

abbrev pub invariant-loop-lane : goal.invariant-loop-lane
invariant-loop-lane l = record {
  same : map bare l.lanes ≡ map bare l.fn.lanes;
  more : (k : ℕ) → room_at (slice_get l.fn.lanes k) ≤ room_at (slice_get l.lanes k);
  ok : (k : ℕ) → k < l.lane-index → IfSome (slice_get l.lanes k) HasSpare;
}
