use Rattle.p9_laws.proofs.StuckLaws.{stuck_alone}
use Rattle.p9_laws.proofs.stuck.stuck_moves_by_stuck_alone.Goals as goal

pub returns : goal.returns
returns c = stuck_alone
