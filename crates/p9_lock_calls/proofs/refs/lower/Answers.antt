use Rattle.p9_lock_calls.proofs.refs.lower.Goals as goal
use Rattle.p9_lock_calls.proofs.Counting.{no_lower}

pub returns-then-not-is_ref-clause-serves : goal.returns-then-not-is_ref-clause-serves
returns-then-not-is_ref-clause-serves c = no_lower c.args.t c.args.k c.args.sched.now c.args.locks.now (λ h. let f = c.is_ref.ensures.1 h in cc)
