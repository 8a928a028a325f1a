use Rattle.p9_laws.proofs.Refused.{refusals_leave}
use Rattle.p9_laws.proofs.refusals.refusals_change_nothing.Goals as goal

pub returns : goal.returns
returns c = refusals_leave
