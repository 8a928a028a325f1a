-- What IoTake and IoDid add to a history.
use Rattle.std.specs.Prelude.{ℕ, ◌≡◌, ◌<◌, ◌≤◌, ◌^◌, List, [], ◌∷◌, ◌++◌, Option, Some, None}
use Rattle.p9_word.specs.Filled.{Filled}
use Rattle.p9_word.specs.declared.io_call.IoCall.{IoCall}
use Rattle.p9_word.specs.declared.io_call.Effect.{Effect}
use Rattle.p9_word.specs.declared.setup.Setup.{Setup}
use Rattle.p9_word.specs.declared.trail.Event.TheVariants.{IoTake, IoDid}
use Rattle.p9_word.specs.declared.trail.Reply.TheVariants.{Took, Noted}
use Rattle.p9_word.specs.declared.trail.Seat.TheVariants.{Io}
use Rattle.p9_word.specs.declared.trail.Entry.{Entry}
use Rattle.p9_manual.specs.declared.state.Ioproc.{Ioproc}
use Rattle.p9_manual.specs.Effects.{Fits, room_for, message_length}
use Rattle.p9_laws.specs.IoReplies.{ioproc_after, IsBegun}

abbrev pub took : ℕ → IoCall → Entry
took k call = record { seat = Io k; event = IoTake; reply = Took call }

abbrev pub noted : ℕ → Effect → Entry
noted k effect = record { seat = Io k; event = IoDid effect; reply = Noted }

-- a call that ioproc k has taken: it is begun there, and there is room for its effect
pub record TookCall (k : ℕ) (before : List Entry) (io : Option Ioproc) (call : IoCall) (room : Filled ℕ) (after : List Entry) : Type 0 where
  pub entries : after ≡ before ++ took k call ∷ []
  pub begun : IsBegun call io
  pub empty : room.items ≡ []
  pub room_is : room_for call ≤ room.spare
  pub message : message_length call < 2 ^ 32

-- ioproc k, which is this one now, has taken a call, or nothing has happened
abbrev pub Takes : ℕ → List Entry → Option Ioproc → Option (IoCall × Filled ℕ) → List Entry → Type 0
Takes k before io None after = after ≡ before
Takes k before io (Some taken) after = TookCall k before io taken.0 taken.1 after

-- an effect that may be told at this ioproc: it fits the call that is begun there
pub record MayTell (io : Option Ioproc) (effect : Effect) : Type 0 where
  pub call : IoCall
  pub begun : IsBegun call io
  pub fits : Fits call effect

-- the same of the ioproc that the history after leaves
abbrev pub TakesAt : Setup → ℕ → List Entry → Option (IoCall × Filled ℕ) → List Entry → Type 0
TakesAt setup k before taken after = Takes k before (ioproc_after setup after k) taken after
