-- What a request or an event of ioprocs comes to: the reply is the outcome's, the threads and the ioprocs stand for the state
-- after it, and of that state all else stays.
use Rattle.std.specs.Prelude.{ℕ, ◌≡◌, ◌-◌, Bool, true, List, Option, Some, None}
use Rattle.p9_word.specs.declared.answer.Answer.TheVariants.{Io as IoAnswered}
use Rattle.p9_word.specs.declared.answer.IoAnswer.{IoAnswer}
use Rattle.p9_word.specs.declared.setup.Setup.{Setup}
use Rattle.p9_word.specs.declared.trail.Reply.{Reply}
use Rattle.p9_word.specs.declared.trail.Reply.TheVariants.{Now, Waits, Ended, Begin, Turn, Caught, Died, Idle, Over, Stuck, Halted, Stray, Took, Noted}
use Rattle.p9_manual.specs.declared.state.Thread.{Thread}
use Rattle.p9_manual.specs.LockWaits.{lock_waiters}
use Rattle.p9_manual.specs.Offers.{parties}
use Rattle.p9_manual.specs.Sound.{IsSound}
use Rattle.p9_manual.specs.State.{State, Outcome, by_id, changed, readied}
use Rattle.p9_sched.specs.Schedule.{Schedule}
use Rattle.p9_sched.specs.Stands.{SchedFor}
use Rattle.p9_sched.specs.Turns.{place_of}
use Rattle.p9_sched.specs.declared.turns.Place.TheVariants as place
use Rattle.p9_io.specs.Desks.{Desks}
use Rattle.p9_io.specs.Stands.{IoFor}

-- the threads and the ioprocs stand for those of a sound state
pub record StandSound (sched : Schedule) (desks : Desks) (setup : Setup) (s : State) : Type 0 where
  pub threads : SchedFor setup.places sched s
  pub ioprocs : IoFor desks s
  pub sound : IsSound setup s

-- there is such a state
abbrev pub AreSound : Schedule → Desks → Type 0
AreSound sched desks = (setup : Setup) × (s : State) × StandSound sched desks setup s

-- an outcome of a request or an event in state s
pub record Serves (setup : Setup) (s : State) (o : Outcome) (reply : Reply) (sched : Schedule) (desks : Desks) : Type 0 where
  pub reply_is : reply ≡ o.reply
  pub threads : SchedFor setup.places sched o.state
  pub ioprocs : IoFor desks o.state
  -- all that the group doesn't touch stays
  pub others : o.state ≡ record s { threads = o.state.threads; line = o.state.line; waits = o.state.waits; ioprocs = o.state.ioprocs }
  -- and so do the threads that wait in alts
  pub alts : parties o.state.waits ≡ parties s.waits
  -- and those that wait at locks, at Rendezes and with tags
  pub locks : lock_waiters o.state.waits ≡ lock_waiters s.waits

-- the same for what changes nothing but the ioprocs
pub record ServesAlone (s : State) (o : Outcome) (reply : Reply) (desks : Desks) : Type 0 where
  pub reply_is : reply ≡ o.reply
  pub ioprocs : IoFor desks o.state
  pub others : o.state ≡ record s { ioprocs = o.state.ioprocs }

-- the buffer of a call that an ioproc takes is here
abbrev pub rooms_after : ℕ → Reply → List Bool → List Bool
rooms_after k (Took call) rooms = changed (λ _. true) rooms (k - 1)
rooms_after k (Now a) rooms = rooms
rooms_after k Waits rooms = rooms
rooms_after k Ended rooms = rooms
rooms_after k (Begin t program arg) rooms = rooms
rooms_after k (Turn t a) rooms = rooms
rooms_after k (Caught id) rooms = rooms
rooms_after k (Died note) rooms = rooms
rooms_after k Idle rooms = rooms
rooms_after k Over rooms = rooms
rooms_after k Stuck rooms = rooms
rooms_after k Halted rooms = rooms
rooms_after k Stray rooms = rooms
rooms_after k Noted rooms = rooms

-- the thread that a call is for waits, if there is one
abbrev pub IsWaiting : Option ℕ → List Thread → Type 0
IsWaiting None threads = Unit {0}
IsWaiting (Some t) threads = place_of (by_id threads t) ≡ place.Waiting

-- it is ready with this answer
abbrev pub with_answer : Option ℕ → IoAnswer → State → State
with_answer None answer s = s
with_answer (Some t) answer s = readied t (IoAnswered answer) s
