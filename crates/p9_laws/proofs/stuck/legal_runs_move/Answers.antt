use Rattle.p9_laws.proofs.Lined.{legal_moves}
use Rattle.p9_laws.proofs.stuck.legal_runs_move.Goals as goal

pub returns : goal.returns
returns c = legal_moves
