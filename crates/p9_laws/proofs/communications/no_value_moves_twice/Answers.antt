use Rattle.p9_laws.proofs.Moves.Laws.{moves_once}
use Rattle.p9_laws.proofs.communications.no_value_moves_twice.Goals as goal

pub returns : goal.returns
returns c = moves_once
