use Rattle.p9_chan_calls.proofs.Waken.{AreWoken}
use Rattle.p9_chan_calls.proofs.wakes.wake_all.Given as goal

abbrev pub invariant-loop-wake : goal.invariant-loop-wake
invariant-loop-wake l = AreWoken l.fn.sched l.sched l.wakes l.wake-index
