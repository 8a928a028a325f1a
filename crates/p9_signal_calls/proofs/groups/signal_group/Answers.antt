use Rattle.std.proofs.Common.{ℕ, subst, sym}
use Rattle.p9_word.specs.declared.answer.Answer.TheVariants.{Number}
use Rattle.p9_word.specs.declared.trail.Reply.TheVariants.{Now}
use Rattle.p9_manual.specs.Interrupt.{signal_group}
use Rattle.p9_signal_calls.specs.Affects.{effect}
use Rattle.p9_signal_calls.specs.Serves.{ServesAll}
use Rattle.p9_signal_calls.proofs.EachMember.{all_served, gone_on}
use Rattle.p9_signal_calls.proofs.groups.signal_group.Goals as goal

pub loop-t-preserved : goal.loop-t-preserved
loop-t-preserved c =
    gone_on c.args.signal c.args.group c.loop-t.last c.in-Some.t c.loop-t.count c.act_on-count.result c.args.sched.now c.loop-t.sched c.act_on-count.new.sched c.args.alts.now c.loop-t.alts c.act_on-count.new.alts c.args.locks.now c.loop-t.locks c.act_on-count.new.locks c.act_on-count.ensures.few c.in-Some.ensures c.act_on-count.ensures.does c.loop-t.invariant

pub returns-clause-serves : goal.returns-clause-serves
returns-clause-serves c = λ notes.
    subst (λ (n : ℕ). ServesAll (signal_group (effect c.args.signal) c.args.group) c.args.sched.now c.args.alts.now c.args.locks.now notes (Now (Number n)) c.loop-t.sched c.loop-t.alts c.loop-t.locks notes) (sym c.from.ensures)
    (all_served c.args.signal c.args.group c.loop-t.last c.loop-t.count c.args.sched.now c.loop-t.sched c.args.alts.now c.loop-t.alts c.args.locks.now c.loop-t.locks notes c.in_default.ensures c.loop-t.invariant)
