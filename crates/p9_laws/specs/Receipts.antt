-- What threads are told of the values that they received. This project's own.
use Rattle.std.specs.Prelude.{ℕ, ◌≡◌, ◌≤◌, ◌==◌, true, All, List, [], ◌∷◌, Option, Some, slice_get}
use Rattle.std.specs.List.{flat_map}
use Rattle.p9_word.specs.declared.alt.AltEntry.{AltEntry}
use Rattle.p9_word.specs.declared.answer.Answer.{Answer}
use Rattle.p9_word.specs.declared.answer.Answer.TheVariants.{Got, Index}
use Rattle.p9_word.specs.declared.setup.Setup.{Setup}
use Rattle.p9_word.specs.declared.trail.Reply.{Reply}
use Rattle.p9_word.specs.declared.trail.Reply.TheVariants.{Waits, Turn}
use Rattle.p9_word.specs.declared.trail.Entry.{Entry}
use Rattle.p9_manual.specs.AltEntries.{receives_from}
use Rattle.p9_manual.specs.Told.{kept_bytes}
use Rattle.p9_manual.specs.Standing.{times}
use Rattle.p9_manual.specs.State.{Move}
use Rattle.p9_laws.specs.LastCall.{call_before}
use Rattle.p9_laws.specs.Moves.{moves}
use Rattle.p9_laws.specs.Senders.{entries_asked}

-- a value that a thread is told to have received: who, by the entry of which number, from which position, and the bytes that
-- it is told
pub record Receipt : Type 0 where
  pub to : ℕ
  pub number : ℕ
  pub from : ℕ
  pub kept : List ℕ

-- an answer tells of one value at most, by the only entry or by the one that is told
abbrev pub received_by : ℕ → Answer → List Receipt
received_by t (Got from m) = record { to = t; number = 0; from = from; kept = m } ∷ []
received_by t (Index err i (Some from) m) = record { to = t; number = i; from = from; kept = m } ∷ []
received_by t a = []

-- and thread t is told the answer where it has its turn
abbrev pub received_at : Reply → List Receipt
received_at (Turn t a) = received_by t a
received_at reply = []

-- what threads are told to have received in a history
abbrev pub receipts : List Entry → List Receipt
receipts history = flat_map (λ e. received_at e.reply) history

-- the receipt is of this move: an entry of a history is there, is answered later, and asks for an alt whose entry of the
-- number that is told receives on the move's channel; and the bytes that are told are the move's where that entry keeps
-- them, and none where it discards them
pub record IsOf (found : Option Entry) (r : Receipt) (m : Move) : Type 0 where
  pub call : Entry
  pub entry : AltEntry
  pub is_there : found ≡ Some call
  pub waits : call.reply ≡ Waits
  pub is_entry : slice_get (entries_asked call.event) r.number ≡ Some entry
  pub receives : receives_from m.chan entry ≡ true
  pub to : m.to ≡ r.to
  pub from : m.from ≡ r.from
  pub kept : r.kept ≡ kept_bytes entry.slot m.bytes

-- the receipt is of one of these moves, by the last call
pub record IsReceived (history : List Entry) (ms : List Move) (last : Option ℕ) (r : Receipt) : Type 0 where
  pub position : ℕ
  pub index : ℕ
  pub move : Move
  pub is_last : last ≡ Some position
  pub is_move : slice_get ms index ≡ Some move
  pub is_of : IsOf (slice_get history position) r move

-- where a thread is told that it received a value, it made a call before; and the receipt is of a value that moved to it by
-- that call
abbrev pub ReceiptsMoved : Setup → List Entry → Type 0
ReceiptsMoved setup history =
    (i t : ℕ) (a : Answer) (e : Entry) → slice_get history i ≡ Some e → e.reply ≡ Turn t a
    → All (IsReceived history (moves setup history) (call_before history i t)) (received_by t a)

-- and there are no two receipts of one value
abbrev pub ReceiptsOnce : Setup → List Entry → Type 0
ReceiptsOnce setup history = (position : ℕ) → times (λ r. r.from == position) (receipts history) ≤ 1
