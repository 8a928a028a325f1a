use Rattle.std.proofs.Common.{sym, ◌∙◌}
use Rattle.p9_lock_calls.proofs.Callers.{idle}
use Rattle.p9_lock_calls.proofs.Served.{no_take, took, took_none}
use Rattle.p9_lock_calls.proofs.claims.take.Goals as goal

pub returns-then-not-is_lock-clause-serves : goal.returns-then-not-is_lock-clause-serves
returns-then-not-is_lock-clause-serves c = no_take c.args.s c.args.t c.args.k c.args.sched.now c.args.locks.now (sym c.is_lock.ensures.is ∙ c.if-not-is_lock.true)

pub claim-requires-clause-idle : goal.claim-requires-clause-idle
claim-requires-clause-idle c = idle c.args.sched.now c.args.locks.now c.args.t c.requires.parts c.requires.runs

pub returns-then-claim-clause-serves : goal.returns-then-claim-clause-serves
returns-then-claim-clause-serves c =
    took c.args.s c.args.t c.args.k c.args.sched.now c.go_on.new.sched c.args.locks.now c.claim.new.locks c.go_on.result (sym c.is_lock.ensures.is ∙ c.if-not-is_lock.false) (sym c.claim.ensures.got ∙ c.if-claim.true) c.claim.ensures.after c.go_on.ensures.told c.go_on.ensures.stands

pub returns-clause-serves : goal.returns-clause-serves
returns-clause-serves c =
    took_none c.args.s c.args.t c.args.k c.args.sched.now c.wait.new.sched c.args.locks.now c.claim.new.locks (sym c.is_lock.ensures.is ∙ c.if-not-is_lock.false) (sym c.claim.ensures.got ∙ c.if-claim.false) c.claim.ensures.after (c.wait.ensures c.args.k)
