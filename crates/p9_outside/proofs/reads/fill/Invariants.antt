use Rattle.std.proofs.Common.{◌-◌, ◌≡◌, ◌+◌, ◌≤◌, length, true}
use Rattle.std.specs.Io.KnownBytes.{Consumes}
use Rattle.p9_outside.proofs.reads.fill.Given as goal

abbrev pub invariant-loop-len : goal.invariant-loop-len
invariant-loop-len g l = record {
  is_len : length l.room.items ≡ l.len;
  most : l.len ≤ l.n;
  spare : l.n ≤ l.len + l.room.spare;
  bytes : Consumes (g.S.Source.left l.initial.source) (g.S.Source.left l.source) l.room.items;
  steady : g.S.Source.steady l.initial.source ≡ true → g.S.Source.steady l.source ≡ true;
  none_failed : g.S.Source.faults l.source ≡ g.S.Source.faults l.initial.source;
}

abbrev pub decreases-loop-len : goal.decreases-loop-len
decreases-loop-len g l = l.n - l.len
