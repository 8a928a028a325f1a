use Rattle.std.proofs.Common.{ℕ, subst, sym}
use Rattle.p9_word.specs.declared.answer.Answer.TheVariants.{Number}
use Rattle.p9_word.specs.declared.trail.Reply.TheVariants.{Now}
use Rattle.p9_manual.specs.Interrupt.{signal_thread}
use Rattle.p9_manual.specs.State.{by_id}
use Rattle.p9_signal_calls.specs.Affects.{effect}
use Rattle.p9_signal_calls.specs.Serves.{ServesAll}
use Rattle.p9_signal_calls.proofs.Serving.{serves_none, serves_one}
use Rattle.p9_signal_calls.proofs.interrupts.signal_thread.Goals as goal

pub returns-then-not-is_made-clause-serves : goal.returns-then-not-is_made-clause-serves
returns-then-not-is_made-clause-serves c = λ notes. serves_none c.args.signal c.args.t c.args.sched.now c.args.alts.now c.args.locks.now notes (λ made. let h = c.is_made.ensures.1 made in let f = c.if-not-is_made.true in cc (h, f))

pub returns-clause-serves : goal.returns-clause-serves
returns-clause-serves c = λ notes.
    subst (λ (n : ℕ). ServesAll (λ s. signal_thread (effect c.args.signal) c.args.t s (by_id s.threads c.args.t)) c.args.sched.now c.args.alts.now c.args.locks.now notes (Now (Number n)) c.act_on-count.new.sched c.act_on-count.new.alts c.act_on-count.new.locks notes) (sym c.from.ensures)
    (serves_one c.args.signal c.args.t c.act_on-count.result c.args.sched.now c.act_on-count.new.sched c.args.alts.now c.act_on-count.new.alts c.args.locks.now c.act_on-count.new.locks notes (c.is_made.ensures.0 c.if-not-is_made.false) c.act_on-count.ensures.does)
