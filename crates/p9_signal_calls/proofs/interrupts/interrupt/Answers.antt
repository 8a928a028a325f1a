use Rattle.std.proofs.Common.{length, ap, sym, subst, ◌-◌, ◌∙◌}
use Rattle.p9_word.specs.declared.answer.Answer.TheVariants.{Interrupted}
use Rattle.p9_manual.specs.declared.state.Place.TheVariants.{Ready}
use Rattle.p9_manual.specs.Interrupt.{interrupt}
use Rattle.p9_manual.specs.State.{at_place}
use Rattle.p9_alt.specs.Exchange.{Exchange}
use Rattle.p9_sched.specs.Schedule.{Schedule}
use Rattle.p9_signal_calls.specs.Affects.{Does}
use Rattle.p9_signal_calls.proofs.Interrupting.{alt_does, idle_does, other_does, tag_does}
use Rattle.p9_signal_calls.proofs.Lists.{length_changed}
use Rattle.p9_signal_calls.proofs.interrupts.interrupt.Goals as goal

pub returns-in_default-clause-does : goal.returns-in_default-clause-does
returns-in_default-clause-does c = idle_does c.args.t c.args.sched.now c.args.alts.now c.args.locks.now (λ e. c.in_default.not-Waiting (c.place.ensures ∙ e))

pub returns-then-withdraw-clause-does : goal.returns-then-withdraw-clause-does
returns-then-withdraw-clause-does c =
    alt_does c.args.t c.args.sched.now c.ready.new.self c.args.alts.now c.withdraw.new.self c.args.locks.now (sym c.withdraw.ensures.waited ∙ c.if-withdraw.true) c.withdraw.ensures.stands (c.ready.ensures.wakes (sym c.place.ensures ∙ c.in-Waiting.is))

pub returns-then-withdraw-clause-made : goal.returns-then-withdraw-clause-made
returns-then-withdraw-clause-made c = ap (λ (s : Schedule). length s.threads) c.ready.ensures.ready ∙ length_changed (at_place (Ready Interrupted)) c.args.sched.now.threads (c.args.t - 1)

pub returns-then-not-meets-clause-does : goal.returns-then-not-meets-clause-does
returns-then-not-meets-clause-does c =
    subst (λ (x : Exchange). Does (interrupt c.args.t) c.args.sched.now c.args.alts.now c.args.locks.now 0 c.args.sched.now x c.args.locks.now) (sym (c.withdraw.ensures.stays c.if-withdraw.false))
    (other_does c.args.t c.args.sched.now c.args.alts.now c.args.locks.now (sym c.withdraw.ensures.waited ∙ c.if-withdraw.false) (sym c.meets.ensures ∙ c.if-not-meets.true))

pub returns-clause-does : goal.returns-clause-does
returns-clause-does c =
    subst (λ (x : Exchange). Does (interrupt c.args.t) c.args.sched.now c.args.alts.now c.args.locks.now 1 c.ready_holder.new.self x c.leave.new.self) (sym (c.withdraw.ensures.stays c.if-withdraw.false))
    (tag_does c.args.t c.args.sched.now c.ready_holder.new.self c.args.alts.now c.args.locks.now c.leave.new.self (sym c.withdraw.ensures.waited ∙ c.if-withdraw.false) (sym c.meets.ensures ∙ c.if-not-meets.false) c.leave.ensures.stands c.ready_holder.ensures.stands)

pub returns-clause-made : goal.returns-clause-made
returns-clause-made c = ap (λ (s : Schedule). length s.threads) c.ready_holder.ensures.ready ∙ length_changed (at_place (Ready Interrupted)) c.args.sched.now.threads (c.args.t - 1)
