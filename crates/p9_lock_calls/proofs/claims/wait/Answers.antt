use Rattle.p9_word.specs.declared.request.Request.TheVariants.{Lock as LockRequest}
use Rattle.p9_lock_calls.specs.Granted.{ask_for}
use Rattle.p9_lock_calls.proofs.Waits.{lock_holds, other_beside, is_other}
use Rattle.p9_lock_calls.proofs.claims.wait.Goals as goal

pub returns-in-Lock : goal.returns-in-Lock
returns-in-Lock c = λ k. c.wait_holding.ensures.stands (LockRequest (ask_for c.args.s k)) (lock_holds c.args.s k c.in-Lock.is)

pub returns-in-QLock : goal.returns-in-QLock
returns-in-QLock c = λ k. c.wait.ensures.stands (LockRequest (ask_for c.args.s k)) (other_beside c.args.s k (is_other c.args.s c.in-QLock.is))
