use Rattle.p9_laws.proofs.RunLaws.{over_stays}
use Rattle.p9_laws.proofs.running.over_stays_over.Goals as goal

pub returns : goal.returns
returns c = over_stays
