-- Who sent the values that move: calls that ask for an alt, and are answered later. This project's own.
use Rattle.std.specs.Prelude.{ℕ, ◌≡◌, true, All, List, [], Option, Some, None, slice_get}
use Rattle.p9_word.specs.declared.alt.AltEntry.{AltEntry}
use Rattle.p9_word.specs.declared.setup.Setup.{Setup}
use Rattle.p9_word.specs.declared.trail.Event.{Event}
use Rattle.p9_word.specs.declared.trail.Event.TheVariants.{Call, Next, IoTake, IoDid}
use Rattle.p9_word.specs.declared.trail.Reply.TheVariants.{Waits}
use Rattle.p9_word.specs.declared.trail.Entry.{Entry}
use Rattle.p9_manual.specs.declared.state.Channel.{Channel}
use Rattle.p9_manual.specs.Offers.{Alternation, alternation_of}
use Rattle.p9_manual.specs.AltEntries.{sends_to}
use Rattle.p9_manual.specs.Told.{sent_bytes}
use Rattle.p9_manual.specs.State.{Move, by_id}
use Rattle.p9_manual.specs.History.{state_after}
use Rattle.p9_laws.specs.Moves.{moves}

-- the entries of an alt, and none where there is no alt
abbrev pub entries_in : Option Alternation → List AltEntry
entries_in None = []
entries_in (Some a) = a.entries

-- the entries that an event asks for: only a call asks for an alt
abbrev pub entries_asked : Event → List AltEntry
entries_asked (Call t r) = entries_in (alternation_of r)
entries_asked Next = []
entries_asked IoTake = []
entries_asked (IoDid effect) = []

-- this entry of an alt sends these bytes on channel c, where no value stands for elsize zeros
abbrev pub SendsBytes : ℕ → ℕ → List ℕ → AltEntry → Type 0
SendsBytes c elsize bytes e = (sends_to c e ≡ true) × (sent_bytes elsize e.slot ≡ bytes)

-- the size of a channel's elements
abbrev pub elsize_of : Option Channel → ℕ
elsize_of None = 0
elsize_of (Some chan) = chan.elsize

-- an entry of a history is there, is answered later, and asks for an alt whose entry of this number sends these bytes on
-- channel c
pub record IsSendBy (number c elsize : ℕ) (bytes : List ℕ) (found : Option Entry) : Type 0 where
  pub call : Entry
  pub entry : AltEntry
  pub is_there : found ≡ Some call
  pub waits : call.reply ≡ Waits
  pub is_entry : slice_get (entries_asked call.event) number ≡ Some entry
  pub sends : SendsBytes c elsize bytes entry

-- and one of its entries does
abbrev pub IsSendOf : ℕ → ℕ → List ℕ → Option Entry → Type 0
IsSendOf c elsize bytes found = (number : ℕ) × IsSendBy number c elsize bytes found

-- this value was sent, on its channel and with its bytes, by the call at its position
abbrev pub IsSentThere : Setup → List Entry → Move → Type 0
IsSentThere setup history m =
    IsSendOf m.chan (elsize_of (by_id (state_after setup history).chans m.chan)) m.bytes (slice_get history m.from)

-- each value that moves was sent on that channel by the call at its position
abbrev pub MovesSent : Setup → List Entry → Type 0
MovesSent setup history = All (IsSentThere setup history) (moves setup history)
