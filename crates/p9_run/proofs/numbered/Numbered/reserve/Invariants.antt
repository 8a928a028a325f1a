use Rattle.std.proofs.Common.{◌≡◌, ◌+◌, ◌-◌, ℕ, length}
use Rattle.p9_run.specs.ByNumber.{value_at}
use Rattle.p9_run.proofs.numbered.Numbered.reserve.Given as goal

abbrev pub invariant-loop-self : goal.invariant-loop-self
invariant-loop-self g l = (u : ℕ) → value_at l.self.values.items u ≡ value_at l.initial.self.values.items u

abbrev pub decreases-loop-self : goal.decreases-loop-self
decreases-loop-self g l = l.n + 1 - length l.self.values.items
