use Rattle.p9_laws.proofs.Lined.{stuck_exactly}
use Rattle.p9_laws.proofs.stuck.stuck_is_told_exactly.Goals as goal

pub returns : goal.returns
returns c = stuck_exactly
