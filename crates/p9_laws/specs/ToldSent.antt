-- What becomes of the values that threads are told to have sent. This project's own.
use Rattle.std.specs.Prelude.{ℕ, ◌≡◌, ◌==◌, ◌+◌, ◌⊎◌, false, List, Option, Some, None, slice_get}
use Rattle.p9_word.specs.declared.answer.Answer.{Answer}
use Rattle.p9_word.specs.declared.answer.Answer.TheVariants.{Sent, Index}
use Rattle.p9_word.specs.declared.setup.Setup.{Setup}
use Rattle.p9_word.specs.declared.trail.Reply.TheVariants.{Turn}
use Rattle.p9_word.specs.declared.trail.Entry.{Entry}
use Rattle.p9_manual.specs.declared.state.Channel.{Channel}
use Rattle.p9_manual.specs.Standing.{times}
use Rattle.p9_manual.specs.State.{Move, by_id}
use Rattle.p9_manual.specs.History.{state_after}
use Rattle.p9_laws.specs.LastCall.{call_before}
use Rattle.p9_laws.specs.Moves.{moves, times_moved, elements_of}
use Rattle.p9_laws.specs.Senders.{IsSendBy, elsize_of}

-- the number of the entry of which an answer says that its value was sent: that of the only one, or the one that is told
abbrev pub sent_number : Answer → Option ℕ
sent_number Sent = Some 0
sent_number (Index false i None m) = Some i
sent_number a = None

-- the value that the call at this position sent on channel c has left that channel, with these bytes
abbrev pub HasLeft : ℕ → ℕ → List ℕ → List Move → Type 0
HasLeft c position bytes ms = (t i : ℕ) × (slice_get ms i ≡ Some (record { chan = c; from = position; to = t; bytes = bytes }))

-- it is among that channel's elements, with these bytes
abbrev pub IsAmong : ℕ → ℕ → List ℕ → List Channel → Type 0
IsAmong c position bytes chans =
    (chan : Channel) × (i : ℕ) × (by_id chans c ≡ Some chan) × (slice_get chan.elements i ≡ Some (record { from = position; msg = bytes }))

-- after a history with these moves and channels: entry n of the last call sends bytes on channel c, and this value has left
-- that channel or is among its elements; whatever that call sent has moved or is an element once, and not both
pub record IsKept (history : List Entry) (ms : List Move) (chans : List Channel) (n : ℕ) (last : Option ℕ) : Type 0 where
  pub position : ℕ
  pub chan : ℕ
  pub bytes : List ℕ
  pub is_last : last ≡ Some position
  pub sent : IsSendBy n chan (elsize_of (by_id chans chan)) bytes (slice_get history position)
  pub is_there : HasLeft chan position bytes ms ⊎ IsAmong chan position bytes chans
  pub once : times_moved position ms + times (λ e. e.from == position) (elements_of chans) ≡ 1

-- where a thread is told that its value was sent, it made a call before; and after the whole history the value of the entry
-- that is told is kept
abbrev pub SendsKept : Setup → List Entry → Type 0
SendsKept setup history =
    (i t n : ℕ) (a : Answer) (e : Entry) → slice_get history i ≡ Some e → e.reply ≡ Turn t a → sent_number a ≡ Some n
    → IsKept history (moves setup history) (state_after setup history).chans n (call_before history i t)
