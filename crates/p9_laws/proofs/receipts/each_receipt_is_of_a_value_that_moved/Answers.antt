use Rattle.p9_laws.proofs.Received.Laws.{receipts_moved}
use Rattle.p9_laws.proofs.receipts.each_receipt_is_of_a_value_that_moved.Goals as goal

pub returns : goal.returns
returns c = receipts_moved
