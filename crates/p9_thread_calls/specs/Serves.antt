-- What a call on threads comes to.
use Rattle.std.specs.Prelude.{ℕ, ◌≡◌, Bool, true, false, Some, map}
use Rattle.p9_word.specs.declared.request.ThreadReq.{ThreadReq}
use Rattle.p9_word.specs.declared.request.ThreadReq.TheVariants as ask
use Rattle.p9_word.specs.declared.setup.Setup.{Setup}
use Rattle.p9_word.specs.declared.trail.Reply.{Reply}
use Rattle.p9_manual.specs.declared.state.Thread.{Thread}
use Rattle.p9_manual.specs.NoteCalls.{noted}
use Rattle.p9_manual.specs.Sound.{IsSound}
use Rattle.p9_manual.specs.State.{State, Outcome, by_id}
use Rattle.p9_manual.specs.Step.{makes_entry}
use Rattle.p9_manual.specs.Threads.{asked}
use Rattle.p9_sched.specs.Schedule.{Schedule}
use Rattle.p9_sched.specs.Stands.{SchedFor}

-- the two requests that end threads touch every part of a state, so they aren't of this group; every other is
abbrev pub ends_threads : ThreadReq → Bool
ends_threads (ask.ThreadExits text) = true
ends_threads (ask.ThreadExitsAll text) = true
ends_threads request = false

-- the reply is that of the outcome and makes an entry, the schedule stands for the state after it, and of that state all but
-- the threads, the line, the words of the procs and how many are open is as before
pub record Serves (places : ℕ) (s : State) (o : Outcome) (reply : Reply) (sched : Schedule) : Type 0 where
  pub reply_is : reply ≡ o.reply
  pub stands : SchedFor places sched o.state
  pub others : o.state ≡ record s { threads = o.state.threads; line = o.state.line; procs = o.state.procs; opened = o.state.opened }
  pub notes : map noted o.state.procs ≡ map noted s.procs
  pub entry : makes_entry reply ≡ true

-- the schedule serves what f makes of each sound state that it stood for
abbrev pub ServesAll : Setup → (State → Outcome) → Schedule → Reply → Schedule → Type 0
ServesAll setup f old reply new =
    (s : State) → SchedFor setup.places old s → IsSound setup s → Serves setup.places s (f s) reply new

-- the schedule serves this request of thread t, which is there
abbrev pub ServesRequest : Setup → ℕ → ThreadReq → Schedule → Reply → Schedule → Type 0
ServesRequest setup t r old reply new =
    (caller : Thread) → by_id old.threads t ≡ Some caller → ServesAll setup (λ s. asked setup t r s caller) old reply new
