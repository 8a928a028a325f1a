use Rattle.p9_laws.proofs.Received.Laws.{receipts_once}
use Rattle.p9_laws.proofs.receipts.no_value_is_received_twice.Goals as goal

pub returns : goal.returns
returns c = receipts_once
