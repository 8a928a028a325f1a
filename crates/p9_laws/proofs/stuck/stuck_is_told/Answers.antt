use Rattle.p9_laws.proofs.StuckLaws.{stuck_told}
use Rattle.p9_laws.proofs.stuck.stuck_is_told.Goals as goal

pub returns : goal.returns
returns c = stuck_told
