-- What the one who serves an ioproc rests on: the replies to IoTake and IoDid, and what stays begun.
-- All of this is this project's own.
use Rattle.std.specs.Prelude.{ℕ, ◌≡◌, ◌≤◌, ◌==◌, ◌↔◌, Bool, false, List, Option, Some, IsTrue}
use Rattle.p9_word.specs.declared.io_call.IoCall.{IoCall}
use Rattle.p9_word.specs.declared.io_call.Effect.{Effect}
use Rattle.p9_word.specs.declared.setup.Setup.{Setup}
use Rattle.p9_word.specs.declared.trail.Event.{Event}
use Rattle.p9_word.specs.declared.trail.Event.TheVariants.{IoTake, IoDid}
use Rattle.p9_word.specs.declared.trail.Reply.{Reply}
use Rattle.p9_word.specs.declared.trail.Reply.TheVariants.{Idle, Over, Stray, Took, Noted}
use Rattle.p9_word.specs.declared.trail.Seat.{Seat}
use Rattle.p9_word.specs.declared.trail.Seat.TheVariants.{Io}
use Rattle.p9_word.specs.declared.trail.Entry.{Entry}
use Rattle.p9_manual.specs.declared.state.Ioproc.{Ioproc}
use Rattle.p9_manual.specs.declared.state.Ioproc.TheVariants.{Posted, Begun}
use Rattle.p9_manual.specs.Effects.{fits, Fits, message_length}
use Rattle.p9_manual.specs.State.{by_id}
use Rattle.p9_manual.specs.History.{state_after, IsLegal}
use Rattle.p9_laws.specs.RunReplies.{reply_at, grown}

-- ioproc k after a history
abbrev pub ioproc_after : Setup → List Entry → ℕ → Option Ioproc
ioproc_after setup entries k = by_id (state_after setup entries).ioprocs k

-- the call is posted at an ioproc
abbrev pub IsPosted : IoCall → Option Ioproc → Type 0
IsPosted call io = (t : ℕ) × (io ≡ Some (Posted t call))

-- the call is begun there
abbrev pub IsBegun : IoCall → Option Ioproc → Type 0
IsBegun call io = (t : Option ℕ) × (io ≡ Some (Begun t call))

-- the replies to an ioproc that asks for its call: the call that is posted there, or none
abbrev pub IsTakeReply : Option Ioproc → Reply → Type 0
IsTakeReply io (Took call) = IsPosted call io
IsTakeReply io Idle = Unit {0}
IsTakeReply io Over = Unit {0}
IsTakeReply io Stray = Unit {0}
IsTakeReply io reply = ⊥

-- the replies to an ioproc that tells an effect
abbrev pub IsDidReply : Reply → Type 0
IsDidReply Noted = Unit {0}
IsDidReply Stray = Unit {0}
IsDidReply reply = ⊥

-- the event tells an effect at ioproc k
abbrev pub tells_effect : ℕ → Seat → Event → Bool
tells_effect k (Io j) (IoDid effect) = k == j
tells_effect k seat event = false

-- the replies to IoTake
abbrev pub TakeReplies : Setup → List Entry → Type 0
TakeReplies setup entries = (k : ℕ) → IsTakeReply (ioproc_after setup entries k) (reply_at setup entries (Io k) IoTake)

-- the replies to IoDid
abbrev pub DidReplies : Setup → List Entry → Type 0
DidReplies setup entries = (k : ℕ) (effect : Effect) → IsDidReply (reply_at setup entries (Io k) (IoDid effect))

-- a call that was taken is begun
abbrev pub TakenBegun : Setup → List Entry → Type 0
TakenBegun setup entries =
    (k : ℕ) (call : IoCall) → reply_at setup entries (Io k) IoTake ≡ Took call
    → IsBegun call (ioproc_after setup (grown setup entries (Io k) IoTake) k)

-- an effect that fits a begun call is noted
abbrev pub FittingNoted : Setup → List Entry → Type 0
FittingNoted setup entries =
    (k : ℕ) (call : IoCall) (effect : Effect) → IsBegun call (ioproc_after setup entries k) → Fits call effect
    → reply_at setup entries (Io k) (IoDid effect) ≡ Noted

-- right after a call was taken, an effect that fits it is noted
abbrev pub TakenNoted : Setup → List Entry → Type 0
TakenNoted setup entries =
    (k : ℕ) (call : IoCall) (effect : Effect) → reply_at setup entries (Io k) IoTake ≡ Took call → Fits call effect
    → reply_at setup (grown setup entries (Io k) IoTake) (Io k) (IoDid effect) ≡ Noted

-- a begun call stays begun until an effect is told there
abbrev pub BegunStays : Setup → List Entry → Type 0
BegunStays setup entries =
    (k : ℕ) (call : IoCall) (seat : Seat) (event : Event) → IsLegal setup entries → IsBegun call (ioproc_after setup entries k)
    → tells_effect k seat event ≡ false → IsBegun call (ioproc_after setup (grown setup entries seat event) k)

-- the message of a call is shorter than 2 ^ 32
abbrev pub IsShortCall : IoCall → Type 0
IsShortCall call = message_length call ≤ 4294967295

-- a call that is posted or begun has a short message, and so has one that is taken
pub record HasShortCalls (setup : Setup) (entries : List Entry) : Type 0 where
  pub posted : (k : ℕ) (call : IoCall) → IsPosted call (ioproc_after setup entries k) → IsShortCall call
  pub begun : (k : ℕ) (call : IoCall) → IsBegun call (ioproc_after setup entries k) → IsShortCall call
  pub taken : (k : ℕ) (call : IoCall) → reply_at setup entries (Io k) IoTake ≡ Took call → IsShortCall call

-- the test of what fits, and its meaning
abbrev pub FitsAgree : Type 0
FitsAgree = (call : IoCall) (effect : Effect) → IsTrue (fits call effect) ↔ Fits call effect
