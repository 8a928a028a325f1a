use Rattle.std.proofs.Common.{arith, eqb}
use Rattle.std.proofs.lemmas.Grind.{common_steps}
use Rattle.p9_lock.proofs.Leaving.{left_state}
use Rattle.p9_lock.proofs.locks.Locks.leave.Goals as goal

pub returns-clause-stands : goal.returns-clause-stands
returns-clause-stands c = left_state (λ u. eqb u c.args.t) c.args.self.now _ (grind (arith, common_steps))
