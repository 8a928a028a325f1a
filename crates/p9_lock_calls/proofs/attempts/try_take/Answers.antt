use Rattle.std.proofs.Common.{sym, ◌∙◌}
use Rattle.p9_lock_calls.proofs.Callers.{idle}
use Rattle.p9_lock_calls.proofs.Served.{no_try, tried_got, tried_none}
use Rattle.p9_lock_calls.proofs.attempts.try_take.Goals as goal

pub returns-then-not-is_lock-clause-serves : goal.returns-then-not-is_lock-clause-serves
returns-then-not-is_lock-clause-serves c = no_try c.args.s c.args.t c.args.k c.args.sched.now c.args.locks.now (sym c.is_lock.ensures.is ∙ c.if-not-is_lock.true)

pub attempt-requires-clause-idle : goal.attempt-requires-clause-idle
attempt-requires-clause-idle c = idle c.args.sched.now c.args.locks.now c.args.t c.requires.parts c.requires.runs

pub returns-then-attempt-clause-serves : goal.returns-then-attempt-clause-serves
returns-then-attempt-clause-serves c =
    tried_got c.args.s c.args.t c.args.k c.args.sched.now c.args.locks.now c.attempt.new.locks (sym c.is_lock.ensures.is ∙ c.if-not-is_lock.false) (sym c.attempt.ensures.got ∙ c.if-attempt.true) c.attempt.ensures.after

pub returns-else-attempt-clause-serves : goal.returns-else-attempt-clause-serves
returns-else-attempt-clause-serves c =
    tried_none c.args.s c.args.t c.args.k c.args.sched.now c.args.locks.now c.attempt.new.locks (sym c.is_lock.ensures.is ∙ c.if-not-is_lock.false) (sym c.attempt.ensures.got ∙ c.if-attempt.false) c.attempt.ensures.after
