use Rattle.p9_lock_calls.proofs.Waking.{AreWoken}
use Rattle.p9_lock_calls.proofs.wakes.wake_all.Given as goal

abbrev pub invariant-loop-u : goal.invariant-loop-u
invariant-loop-u l = AreWoken l.fn.sched l.sched l.woken l.u-index
