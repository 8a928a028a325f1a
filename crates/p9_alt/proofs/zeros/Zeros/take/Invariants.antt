use Rattle.std.proofs.Common.{◌≡◌, ◌+◌, ◌≤◌, replicate}
use Rattle.p9_alt.proofs.zeros.Zeros.take.Given as goal

-- so many zeros so far, and there is room for the others
abbrev pub invariant-loop : goal.invariant-loop
invariant-loop l = (l.room.items ≡ replicate l.counter 0) × (l.n ≤ l.room.spare + l.counter)
