use Rattle.std.proofs.Common.{rules}
use Rattle.std.proofs.lemmas.Fn.{filter_same}
use Rattle.p9_lock.proofs.waits.leave_where.Goals as goal

pub returns-clause-waits : goal.returns-clause-waits
returns-clause-waits g c = filter_same _ _ _ (λ x b f' k. search rules) _ _ c.retain.ensures.filtered
