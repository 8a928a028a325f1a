-- One event: its reply, and the state after it.
use Rattle.std.specs.Prelude.{ℕ, ◌+◌, ◌&&◌, not, Bool, true, false, Some, None, if◌then◌else◌}
use Rattle.p9_word.specs.declared.trail.Seat.{Seat}
use Rattle.p9_word.specs.declared.trail.Seat.TheVariants.{Proc, Io as IoSeat}
use Rattle.p9_word.specs.declared.trail.Event.{Event}
use Rattle.p9_word.specs.declared.trail.Event.TheVariants.{Call, Next, IoTake, IoDid}
use Rattle.p9_word.specs.declared.trail.Reply.{Reply}
use Rattle.p9_word.specs.declared.trail.Reply.TheVariants.{Now, Waits, Ended, Begin, Turn, Caught, Died, Idle, Over, Stuck, Halted, Stray, Took, Noted}
use Rattle.p9_word.specs.declared.request.Request.{Request}
use Rattle.p9_word.specs.declared.request.Request.TheVariants.{Thread as ThreadRequest, Signal as SignalRequest, Chan as ChanRequest, Lock as LockRequest, Io as IoRequest}
use Rattle.p9_word.specs.declared.setup.Setup.{Setup}
use Rattle.p9_manual.specs.Ends.{ended}
use Rattle.p9_manual.specs.Places.{is_marked, runs_there}
use Rattle.p9_manual.specs.Relinquish.{relinquishes}
use Rattle.p9_manual.specs.Signals.{signal_call}
use Rattle.p9_manual.specs.State.{State, Outcome, by_id, replied, same}
use Rattle.p9_manual.specs.Threads.{thread_call}
use Rattle.p9_manual.specs.Chans.{chan_call}
use Rattle.p9_manual.specs.Locks.{lock_call}
use Rattle.p9_manual.specs.Ioprocs.{io_call, io_event}
use Rattle.p9_manual.specs.Next.{next_event}

-- a request, by its group
unfoldable pub served : Setup → ℕ → Request → State → Outcome
served setup t (ThreadRequest r) s = thread_call setup t r s
served setup t (SignalRequest r) s = signal_call t r s
served setup t (ChanRequest r) s = chan_call setup t r s
served setup t (LockRequest r) s = lock_call setup t r s
served setup t (IoRequest r) s = io_call setup t r s

-- thread t, which is marked to die, ends where its request relinquishes the processor; the request has no other effect
abbrev pub is_doomed : ℕ → Request → State → Bool
is_doomed t r s = is_marked (by_id s.threads t) && relinquishes r

-- a request is served where its thread runs in the proc that tells it, unless the thread ends instead
unfoldable pub called : Setup → ℕ → ℕ → Request → State → Outcome
called setup p t r s =
    if not (runs_there p (by_id s.threads t)) then same Stray s
    else if is_doomed t r s then replied Ended (ended t s)
    else served setup t r s

-- an event, but for the position of the next entry: a proc makes calls and asks for turns, an ioproc takes calls and tells effects
unfoldable pub outcome : Setup → Seat → Event → State → Outcome
outcome setup (Proc p) (Call t r) s = called setup p t r s
outcome setup (Proc p) Next s = next_event setup p s
outcome setup (Proc p) IoTake s = same Stray s
outcome setup (Proc p) (IoDid effect) s = same Stray s
outcome setup (IoSeat k) IoTake s = io_event k s None
outcome setup (IoSeat k) (IoDid effect) s = io_event k s (Some effect)
outcome setup (IoSeat k) (Call t r) s = same Stray s
outcome setup (IoSeat k) Next s = same Stray s

-- the replies that make an entry
abbrev pub makes_entry : Reply → Bool
makes_entry (Now a) = true
makes_entry Waits = true
makes_entry Ended = true
makes_entry (Begin t program arg) = true
makes_entry (Turn t a) = true
makes_entry (Caught id) = true
makes_entry (Died note) = true
makes_entry Stuck = true
makes_entry (Took call) = true
makes_entry Noted = true
makes_entry Idle = false
makes_entry Over = false
makes_entry Halted = false
makes_entry Stray = false

-- the state after an event in state s, whose outcome has state n: an event without an entry changes nothing, and any other
-- makes the entries one more
abbrev pub settled : Bool → State → State → State
settled true s n = record n { position = s.position + 1 }
settled false s n = s

-- an outcome, once its entry is counted
abbrev pub counted : State → Outcome → Outcome
counted s o = record o { state = settled (makes_entry o.reply) s o.state }

-- one event
unfoldable pub step : Setup → Seat → Event → State → Outcome
step setup seat event s = counted s (outcome setup seat event s)
