use Rattle.std.proofs.Common.{◌≡◌, ◌≤◌, ◌++◌, map, take, drop}
use Rattle.std.specs.Prelude.{count_by}
use Rattle.p9_manual.specs.AltEntries.{waits_on}
use Rattle.p9_manual.specs.Close.{all_failed}
use Rattle.p9_alt.specs.Exchange.{pair_of}
use Rattle.p9_alt.proofs.answers.fail_all.Given as goal

-- those so far are woken, and there is room for the others
abbrev pub invariant-loop-w : goal.invariant-loop-w
invariant-loop-w l = record {
  woken : map pair_of l.woken.items ≡ map pair_of l.fn.woken.items ++ all_failed l.c (take l.w-index l.waits);
  room : count_by (waits_on l.c) (drop l.w-index l.waits) ≤ l.woken.spare;
}
