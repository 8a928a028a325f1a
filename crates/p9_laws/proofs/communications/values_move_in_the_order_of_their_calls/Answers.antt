use Rattle.p9_laws.proofs.Moves.Laws.{positions_rise}
use Rattle.p9_laws.proofs.communications.values_move_in_the_order_of_their_calls.Goals as goal

pub returns : goal.returns
returns c = positions_rise
