use Rattle.std.proofs.Common.{◌≡◌, ◌+◌, ◌≤◌, ◌++◌, length, drop}
use Rattle.p9_word.specs.Words.{doubled}
use Rattle.p9_word.proofs.put.push_doubled.Given as goal

-- what is out so far with the rest doubled is all that is wanted, and there is room for the rest
abbrev pub invariant-loop-b : goal.invariant-loop-b
invariant-loop-b l = record {
  items : l.out.items ++ doubled (drop l.b-index l.bytes) ≡ l.initial.out.items ++ doubled l.bytes;
  spare : l.out.spare + length (doubled l.bytes) ≡ l.initial.out.spare + length (doubled (drop l.b-index l.bytes));
  room : length (doubled (drop l.b-index l.bytes)) ≤ l.out.spare;
}
