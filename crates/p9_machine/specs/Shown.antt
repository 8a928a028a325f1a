-- What callers see of a machine.
use Rattle.std.specs.Prelude.{ℕ, ◌≡◌, ◌-◌, Bool, true, false, List, Option, Some, None}
use Rattle.p9_word.specs.declared.setup.Setup.{Setup}
use Rattle.p9_word.specs.declared.trail.Seat.{Seat}
use Rattle.p9_word.specs.declared.trail.Seat.TheVariants.{Proc, Io}
use Rattle.p9_word.specs.declared.trail.Event.{Event}
use Rattle.p9_word.specs.declared.trail.Event.TheVariants.{Call, Next, IoTake, IoDid}
use Rattle.p9_word.specs.declared.trail.Entry.{Entry}
use Rattle.p9_word.specs.declared.trail.Reply.{Reply}
use Rattle.p9_word.specs.declared.trail.Reply.TheVariants.{Took}
use Rattle.p9_word.specs.declared.io_call.IoCall.{IoCall}
use Rattle.p9_manual.specs.State.{State, by_id, changed}
use Rattle.p9_manual.specs.Halt.{step_of}
use Rattle.p9_manual.specs.History.{state_after, with_entry}
use Rattle.p9_io.specs.Calls.{begun_call}

-- a machine by its setup and its history. halted says that it does no more; reserved is the event that there is memory for;
-- rooms says for each ioproc, from 1 on, whether the buffer of its begun call is still here
pub record Shown : Type 0 where
  pub setup : Setup
  pub entries : List Entry
  pub halted : Bool
  pub reserved : Option (Seat × Event)
  pub rooms : List Bool

abbrev pub state_now : Shown → State
state_now m = state_after m.setup m.entries

-- the reply to an event
abbrev pub reply_to : Shown → Seat → Event → Reply
reply_to m seat event = (step_of m.setup m.halted seat event (state_now m)).reply

-- an ioproc tells what its call came to
abbrev pub is_told : Event → Bool
is_told (IoDid effect) = true
is_told (Call t request) = false
is_told Next = false
is_told IoTake = false

-- there is memory for the event: what an ioproc tells has its memory since its call began
abbrev pub IsReserved : Seat → Event → Option (Seat × Event) → Type 0
IsReserved seat event reserved = is_told event ≡ false → reserved ≡ Some (seat, event)

-- a call that begins has its buffer here
abbrev pub rooms_after : Seat → Reply → List Bool → List Bool
rooms_after (Io k) (Took call) rooms = changed (λ _. true) rooms (k - 1)
rooms_after (Io k) reply rooms = rooms
rooms_after (Proc p) reply rooms = rooms

-- the machine after an event with this reply
abbrev pub after_event : Shown → Seat → Event → Reply → Shown
after_event m seat event reply =
    record m { entries = with_entry m.entries seat event reply; reserved = None; rooms = rooms_after seat reply m.rooms }

-- the call that ioproc k has begun
abbrev pub call_begun : ℕ → Shown → Option IoCall
call_begun k m = begun_call (by_id (state_now m).ioprocs k)
