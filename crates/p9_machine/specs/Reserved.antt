-- The event that there is memory for, and that memory.
use Rattle.std.specs.Prelude.{ℕ, ◌≡◌, ◌-◌, List, [], Option, Some, None, slice_get}
use Rattle.p9_word.specs.declared.trail.Seat.{Seat}
use Rattle.p9_word.specs.declared.trail.Seat.TheVariants.{Proc, Io as IoSeat}
use Rattle.p9_word.specs.declared.trail.Event.{Event}
use Rattle.p9_word.specs.declared.trail.Event.TheVariants.{Call, Next as NextEvent, IoTake, IoDid}
use Rattle.p9_word.specs.declared.request.Request.{Request}
use Rattle.p9_word.specs.declared.request.Request.TheVariants.{Thread as ThreadRequest, Signal as SignalRequest, Chan as ChanRequest, Lock as LockRequest, Io as IoRequest}
use Rattle.p9_manual.specs.State.{by_id}
use Rattle.p9_sched.specs.Turns.{answer_next}
use Rattle.p9_thread_calls.specs.Memory.{HasMemory as HasThreadMemory, message_of}
use Rattle.p9_signal_calls.specs.Memory.{HasMemory as HasSignalMemory}
use Rattle.p9_chan_calls.specs.Spares.{IsSpare as IsChanSpare}
use Rattle.p9_lock_calls.specs.Spares.{IsSpare as IsLockSpare}
use Rattle.p9_io_calls.specs.Needs.{IsSpare as IsIoSpare}
use Rattle.p9_machine.specs.declared.board.Board.{Board}
use Rattle.p9_machine.specs.declared.groups.Asked.{Asked}
use Rattle.p9_machine.specs.declared.groups.Asked.TheVariants.{Thread, Signal, Chan, Lock, Io}
use Rattle.p9_machine.specs.declared.reserve.Needs.{Needs}
use Rattle.p9_machine.specs.declared.reserve.Needs.TheVariants.{Call as CallNeeds, Next, Take, Other}
use Rattle.p9_machine.specs.declared.reserve.Reserved.{Reserved}
use Rattle.p9_machine.specs.Copies.{IsOfPosted, IsOfTurn, oldest_note}

-- which request it is
abbrev pub request_of : Asked → Request
request_of (Thread request spare) = ThreadRequest request
request_of (Signal request) = SignalRequest request
request_of (Chan request spare) = ChanRequest request
request_of (Lock request spare) = LockRequest request
request_of (Io request) = IoRequest request

-- who makes the event
abbrev pub seat_of : Needs → Seat
seat_of (CallNeeds p t asked) = Proc p
seat_of (Next p) = Proc p
seat_of (Take k spare) = IoSeat k
seat_of (Other seat event) = seat

-- which event it is
abbrev pub event_of : Needs → Event
event_of (CallNeeds p t asked) = Call t (request_of asked)
event_of (Next p) = NextEvent
event_of (Take k spare) = IoTake
event_of (Other seat event) = event

-- an event that comes from where none of its kind can, or tells what a call came to
abbrev pub IsStray : Seat → Event → Type 0
IsStray (Proc p) (Call t request) = ⊥
IsStray (Proc p) NextEvent = ⊥
IsStray (Proc p) IoTake = Unit {0}
IsStray (Proc p) (IoDid effect) = Unit {0}
IsStray (IoSeat k) (Call t request) = Unit {0}
IsStray (IoSeat k) NextEvent = Unit {0}
IsStray (IoSeat k) IoTake = ⊥
IsStray (IoSeat k) (IoDid effect) = Unit {0}

-- there is memory on the board for a request of thread t
abbrev pub HasRequestMemory : Board → ℕ → Asked → Type 0
HasRequestMemory board t (Thread request spare) = HasThreadMemory request t board.sched spare
HasRequestMemory board t (Signal request) = HasSignalMemory request t board.sched board.notes
HasRequestMemory board t (Chan request spare) = IsChanSpare request spare board.alts
HasRequestMemory board t (Lock request spare) = IsLockSpare request spare board.locks
HasRequestMemory board t (Io request) = Unit {0}

-- and for an event
abbrev pub IsReservedFor : Board → Needs → Type 0
IsReservedFor board (CallNeeds p t asked) = HasRequestMemory board t asked
IsReservedFor board (Next p) = Unit {0}
IsReservedFor board (Take k spare) = IsIoSpare (by_id board.io.ioprocs k) (slice_get board.io.prepared (k - 1)) spare
IsReservedFor board (Other seat event) = IsStray seat event

-- the message that a request is told at once, if it is told one
abbrev pub message_for : Asked → List ℕ
message_for (Thread request spare) = message_of spare
message_for (Signal request) = []
message_for (Chan request spare) = []
message_for (Lock request spare) = []
message_for (Io request) = []

-- m is the message that the entry's copy of the reply needs
abbrev pub IsTold : Board → Needs → List ℕ → Type 0
IsTold board (CallNeeds p t asked) m = m ≡ message_for asked
IsTold board (Next p) m = IsOfTurn (oldest_note p board.notes) (answer_next p board.sched) m
IsTold board (Take k spare) m = IsOfPosted (by_id board.io.ioprocs k) m
IsTold board (Other seat event) m = Unit {0}

-- there is memory for the event, and for the entry's copy of the reply
pub record IsReserved (board : Board) (r : Reserved) : Type 0 where
  pub needs : IsReservedFor board r.needs
  pub told : IsTold board r.needs r.told

-- it is memory for this event of this seat
pub record IsFor (board : Board) (seat : Seat) (event : Event) (r : Reserved) : Type 0 where
  pub seat_is : seat_of r.needs ≡ seat
  pub event_is : event_of r.needs ≡ event
  pub ready : IsReserved board r

-- such memory is kept
abbrev pub IsKeptFor : Board → Seat → Event → Option Reserved → Type 0
IsKeptFor board seat event None = ⊥
IsKeptFor board seat event (Some r) = IsFor board seat event r
