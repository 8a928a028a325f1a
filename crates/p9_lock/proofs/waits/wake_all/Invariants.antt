use Rattle.std.proofs.Common.{◌≡◌, ◌+◌, length, vec_len, vec_capacity}
use Rattle.p9_manual.specs.Rendez.{sleepers, wakeup_all}
use Rattle.p9_lock.proofs.waits.wake_all.Given as goal

-- waking the others gives what waking all does
abbrev pub invariant-loop-count : goal.invariant-loop-count
invariant-loop-count l = record {
  waits : wakeup_all l.r l.q l.waits.items ≡ wakeup_all l.r l.q l.fn.waits.items;
  count : l.count + length (sleepers l.r l.waits.items) ≡ length (sleepers l.r l.fn.waits.items);
  len : vec_len l.waits ≡ vec_len l.fn.waits;
  capacity : vec_capacity l.waits ≡ vec_capacity l.fn.waits;
}

abbrev pub decreases-loop-count : goal.decreases-loop-count
decreases-loop-count l = length (sleepers l.r l.waits.items)
