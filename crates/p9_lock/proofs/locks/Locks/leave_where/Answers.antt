use Rattle.std.proofs.Common.{arith}
use Rattle.std.proofs.lemmas.Grind.{common_steps}
use Rattle.p9_lock.proofs.Leaving.{left_state}
use Rattle.p9_lock.proofs.locks.Locks.leave_where.Goals as goal

pub returns-clause-stands : goal.returns-clause-stands
returns-clause-stands g c = left_state _ c.args.self.now _ (grind (arith, common_steps))
