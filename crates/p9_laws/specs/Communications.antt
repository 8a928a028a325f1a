-- One sender and one receiver: what each legal history says of the values that moved on channels. This project's own.
use Rattle.std.specs.Prelude.{List}
use Rattle.p9_word.specs.declared.setup.Setup.{Setup}
use Rattle.p9_word.specs.declared.trail.Entry.{Entry}
use Rattle.p9_laws.specs.Moves.{PositionsRise, MovesOnce}
use Rattle.p9_laws.specs.Senders.{MovesSent}
use Rattle.p9_laws.specs.Receipts.{ReceiptsMoved, ReceiptsOnce}
use Rattle.p9_laws.specs.ToldSent.{SendsKept}

-- one sender and one receiver, after a legal history
pub record OneToOne (setup : Setup) (history : List Entry) : Type 0 where
  pub rise : PositionsRise setup history
  pub once : MovesOnce setup history
  pub sent : MovesSent setup history
  pub receipts : ReceiptsMoved setup history
  pub receipts_once : ReceiptsOnce setup history
  pub kept : SendsKept setup history
