use Rattle.p9_laws.proofs.StuckLaws.{stuck_cause}
use Rattle.p9_laws.proofs.stuck.stuck_has_its_cause.Goals as goal

pub returns : goal.returns
returns c = stuck_cause
