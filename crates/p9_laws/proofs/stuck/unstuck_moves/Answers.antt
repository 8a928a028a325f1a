use Rattle.p9_laws.proofs.MoveLaws.{unstuck_moves}
use Rattle.p9_laws.proofs.stuck.unstuck_moves.Goals as goal

pub returns : goal.returns
returns c = unstuck_moves
