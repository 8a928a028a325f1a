use Rattle.p9_signal_calls.proofs.Interrupting.{kill_does}
use Rattle.p9_signal_calls.proofs.interrupts.kill.Goals as goal

pub returns-clause-does : goal.returns-clause-does
returns-clause-does c =
    kill_does c.args.t c.interrupt.result c.args.sched.now c.mark.new.sched c.interrupt.new.sched c.args.alts.now c.interrupt.new.alts c.args.locks.now c.interrupt.new.locks c.mark.ensures.stands c.interrupt.ensures.does
