use Rattle.p9_laws.proofs.Received.Laws.{one_to_one}
use Rattle.p9_laws.proofs.communications.each_value_has_one_sender_and_one_receiver.Goals as goal

pub returns : goal.returns
returns c = one_to_one
