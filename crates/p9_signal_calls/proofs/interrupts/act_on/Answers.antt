use Rattle.std.proofs.Common.{subst, sym}
use Rattle.p9_signal_calls.specs.Affects.{Does, effect}
use Rattle.p9_signal_calls.specs.declared.interrupts.Signal.{Signal}
use Rattle.p9_signal_calls.proofs.interrupts.act_on.Goals as goal

pub returns-in-Interrupt-clause-does : goal.returns-in-Interrupt-clause-does
returns-in-Interrupt-clause-does c =
    subst (λ (x : Signal). Does (effect x c.args.t) c.args.sched.now c.args.alts.now c.args.locks.now c.interrupt.result c.interrupt.new.sched c.interrupt.new.alts c.interrupt.new.locks) (sym c.in-Interrupt.is) c.interrupt.ensures.does

pub returns-in-Kill-clause-does : goal.returns-in-Kill-clause-does
returns-in-Kill-clause-does c =
    subst (λ (x : Signal). Does (effect x c.args.t) c.args.sched.now c.args.alts.now c.args.locks.now c.kill.result c.kill.new.sched c.kill.new.alts c.kill.new.locks) (sym c.in-Kill.is) c.kill.ensures.does
