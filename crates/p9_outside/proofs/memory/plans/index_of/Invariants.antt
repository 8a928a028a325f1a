use Rattle.std.proofs.Common.{◌≡◌, ◌++◌, take, drop}
use Rattle.p9_outside.specs.Plans.{spent, is_planned}
use Rattle.p9_outside.proofs.memory.plans.index_of.Given as goal

-- no plan so far is the one that is looked for
abbrev pub invariant-loop-i : goal.invariant-loop-i
invariant-loop-i l = record {
  planned : is_planned l.plans l.path l.fail ≡ is_planned (drop l.i l.plans) l.path l.fail;
  spent : spent l.plans l.path l.fail ≡ take l.i l.plans ++ spent (drop l.i l.plans) l.path l.fail;
}
