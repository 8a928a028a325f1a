use Rattle.p9_laws.proofs.Moves.Laws.{moves_sent}
use Rattle.p9_laws.proofs.communications.each_value_was_sent_by_its_call.Goals as goal

pub returns : goal.returns
returns c = moves_sent
