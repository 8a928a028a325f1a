use Rattle.std.proofs.Common.{◌-◌, length}
use Rattle.p9_signal_calls.proofs.EachMember.{HaveGone}
use Rattle.p9_signal_calls.proofs.groups.signal_group.Given as goal

abbrev pub invariant-loop-t : goal.invariant-loop-t
invariant-loop-t l = HaveGone l.signal l.group l.last l.count l.fn.sched l.fn.alts l.fn.locks l.sched l.alts l.locks

abbrev pub decreases-loop-t : goal.decreases-loop-t
decreases-loop-t l = length l.sched.threads - l.last
