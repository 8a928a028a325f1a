use Rattle.std.proofs.Common.{ℕ, ap, sym, ◌∙◌}
use Rattle.p9_manual.specs.declared.locks.Sort.TheVariants as sort
use Rattle.p9_manual.specs.Claims.{has_lock}
use Rattle.p9_lock_calls.proofs.Woken.{one_woken, no_wake}
use Rattle.p9_lock_calls.proofs.rendez.wake_first.Goals as goal

pub returns-then-not-has_lock-clause-serves : goal.returns-then-not-has_lock-clause-serves
returns-then-not-has_lock-clause-serves c =
    no_wake c.args.t c.args.r c.args.sched.now c.args.locks.now (ap (λ (q : ℕ). has_lock sort.QLock c.args.t q c.args.locks.now.holds) (sym c.qlock_of.ensures) ∙ (sym c.has_lock.ensures ∙ c.if-not-has_lock.true))

pub returns-clause-serves : goal.returns-clause-serves
returns-clause-serves c =
    one_woken c.args.t c.args.r c.from.result c.args.sched.now c.args.locks.now c.rwakeup.new.self (ap (λ (q : ℕ). has_lock sort.QLock c.args.t q c.args.locks.now.holds) (sym c.qlock_of.ensures) ∙ (sym c.has_lock.ensures ∙ c.if-not-has_lock.false)) (c.from.ensures ∙ c.rwakeup.ensures.moved) c.rwakeup.ensures.after
