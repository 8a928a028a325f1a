use Rattle.std.proofs.Common.{◌≡◌, ◌++◌, ◌+◌, ◌≤◌, drop, length}
use Rattle.p9_outside.specs.Plans.{numbers}
use Rattle.p9_outside.proofs.memory.plans.planned_numbers.Given as goal

-- the numbers so far, and there is room for the others
abbrev pub invariant-loop-i : goal.invariant-loop-i
invariant-loop-i l = record {
  numbers : numbers l.reads l.plans l.path ≡ l.room.items ++ numbers l.reads (drop l.i l.plans) l.path;
  room : length l.plans ≤ l.i + l.room.spare;
}
