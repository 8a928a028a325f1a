use Rattle.p9_laws.proofs.Received.Laws.{sends_kept}
use Rattle.p9_laws.proofs.receipts.values_told_sent_moved_or_are_held.Goals as goal

pub returns : goal.returns
returns c = sends_kept
