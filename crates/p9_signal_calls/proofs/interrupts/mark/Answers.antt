use Rattle.std.proofs.Common.{length, ap, sym, ◌-◌, ◌∙◌}
use Rattle.p9_manual.specs.Interrupt.{with_mark}
use Rattle.p9_sched.specs.Schedule.{Schedule}
use Rattle.p9_signal_calls.proofs.Lists.{length_changed}
use Rattle.p9_signal_calls.proofs.Marked.{marks_none}
use Rattle.p9_signal_calls.proofs.interrupts.mark.Goals as goal

pub returns-in-Ended-clause-stands : goal.returns-in-Ended-clause-stands
returns-in-Ended-clause-stands c = marks_none c.args.t c.args.sched.now c.requires (sym c.place.ensures ∙ c.in-Ended.is)

pub returns-clause-stands : goal.returns-clause-stands
returns-clause-stands c = c.mark.ensures.stands (λ e. c.in_default.not-Ended (c.place.ensures ∙ e))

pub returns-clause-made : goal.returns-clause-made
returns-clause-made c = ap (λ (s : Schedule). length s.threads) c.mark.ensures.mark ∙ length_changed with_mark c.args.sched.now.threads (c.args.t - 1)
