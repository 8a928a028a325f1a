-- Worked examples of histories: a thread that sleeps at a Rendez, and threads that meet.
use Rattle.std.specs.Prelude.{ℕ, ◌≡◌, true, false, List, [], ◌∷◌, Some, take}
use Rattle.p9_word.specs.declared.answer.Answer.TheVariants.{Done, Number, Met, Bad}
use Rattle.p9_word.specs.declared.request.Request.TheVariants.{Thread, Lock as LockRequest}
use Rattle.p9_word.specs.declared.request.LockReq.{LockReq}
use Rattle.p9_word.specs.declared.request.LockReq.TheVariants as ask
use Rattle.p9_word.specs.declared.request.ThreadReq.TheVariants.{Yield}
use Rattle.p9_word.specs.declared.trail.Event.TheVariants.{Call, Next}
use Rattle.p9_word.specs.declared.trail.Reply.{Reply}
use Rattle.p9_word.specs.declared.trail.Reply.TheVariants.{Now, Waits, Begin, Turn, Idle, Stuck}
use Rattle.p9_word.specs.declared.trail.Seat.TheVariants.{Proc}
use Rattle.p9_word.specs.declared.trail.Entry.{Entry}
use Rattle.p9_word.specs.declared.setup.Setup.{Setup}
use Rattle.p9_word.specs.declared.setup.ThreadSetup.{ThreadSetup}
use Rattle.p9_word.specs.Setup.{IsValid}
use Rattle.p9_manual.specs.declared.locks.LockWait.TheVariants as wait
use Rattle.p9_manual.specs.declared.locks.LockWaiter.{LockWaiter}
use Rattle.p9_manual.specs.declared.locks.Sort.TheVariants as sort
use Rattle.p9_manual.specs.Held.{is_held}
use Rattle.p9_manual.specs.History.{state_after}
use Rattle.p9_manual.specs.LockWaits.{lock_waiters}
use Rattle.p9_manual.specs.State.{by_id}
use Rattle.p9_laws.specs.RunReplies.{reply_at}
use Rattle.p9_laws.specs.Shorthand.{turns, calls}
use Rattle.p9_laws.specs.StuckReplies.{is_ready_thread}
use Rattle.p9_laws.specs.ThreadExamples.{first_thread, turn_of}

-- procs with these threads, all of program 1, with QLocks, and with Rendezes on these QLocks
abbrev pub with_locks : ℕ → List ThreadSetup → ℕ → List ℕ → Setup
with_locks procs threads qlocks rendezes =
    record {
      places = procs;
      opened = procs;
      threads = threads;
      programs = 1;
      chans = [];
      locks = 0;
      qlocks = qlocks;
      rwlocks = 0;
      rendezes = rendezes;
      refs = [];
      files = 0;
      procs = 0;
      start = 42;
    }

-- thread t of proc p makes a request on locks
abbrev pub asks : ℕ → ℕ → LockReq → Reply → Entry
asks p t request reply = record { seat = Proc p; event = Call t (LockRequest request); reply = reply }

-- one proc with two threads, a QLock, and a Rendez on it
abbrev pub rendez_setup : Setup
rendez_setup = with_locks 1 (first_thread ∷ first_thread ∷ []) 1 (1 ∷ [])

-- the first thread has the QLock and the second one waits for it. The first one sleeps, which grants the second one the QLock.
-- It wakes the first one, and then nobody sleeps; but the first one has the QLock only once it is given up, which is done once
abbrev pub slept_and_woken : List Entry
slept_and_woken =
    turns (Begin 1 1 0)
    ∷ asks 1 1 (ask.QLock 1) Waits
    ∷ turns (Begin 2 1 0)
    ∷ asks 1 2 (ask.QLock 1) Waits
    ∷ turns (Turn 1 Done)
    ∷ asks 1 1 (ask.RSleep 1) Waits
    ∷ turns (Turn 2 Done)
    ∷ asks 1 2 (ask.RWakeup 1) (Now (Number 1))
    ∷ asks 1 2 (ask.RWakeup 1) (Now (Number 0))
    ∷ asks 1 2 (ask.CanQLock 1) (Now (Number 0))
    ∷ asks 1 2 (ask.QUnlock 1) (Now Done)
    ∷ asks 1 2 (ask.QUnlock 1) (Now Bad)
    ∷ calls 2 (Thread Yield) Waits
    ∷ turns (Turn 1 Done)
    ∷ []

-- the first thread, as one that waits for the QLock
abbrev pub sleeper : LockWaiter
sleeper = record { tid = 1; what = wait.Lock sort.QLock 1; value = 0 }

-- what that history shows: its setup is valid; who was woken waits for the QLock; and at the end it has it, and nobody waits
pub record ShowsTheSleep : Type 0 where
  pub valid : IsValid rendez_setup
  pub woken : lock_waiters (state_after rendez_setup (take 8 slept_and_woken)).waits ≡ sleeper ∷ []
  pub holder : (state_after rendez_setup slept_and_woken).holds.qlocks ≡ Some 1 ∷ []
  pub waits : (state_after rendez_setup slept_and_woken).waits ≡ []

-- two procs with a thread each
abbrev pub meeting_setup : Setup
meeting_setup = with_locks 2 (first_thread ∷ record first_thread { proc_no = 2 } ∷ []) 0 []

-- the first thread waits for one that comes with its tag, and each is told the other's value
abbrev pub met : List Entry
met =
    turn_of 1 (Begin 1 1 0)
    ∷ asks 1 1 (ask.Rendezvous 7 100) Waits
    ∷ turn_of 2 (Begin 2 1 0)
    ∷ asks 2 2 (ask.Rendezvous 7 200) (Now (Met 100))
    ∷ turn_of 1 (Turn 1 (Met 200))
    ∷ []

-- what that history shows: its setup is valid; while the first thread waits its proc is held and has nothing to do; and once
-- the threads have met, it isn't held any more
pub record ShowsTheMeeting : Type 0 where
  pub valid : IsValid meeting_setup
  pub held : is_held 1 (state_after meeting_setup (take 2 met)) ≡ true
  pub idle : reply_at meeting_setup (take 2 met) (Proc 1) Next ≡ Idle
  pub free : is_held 1 (state_after meeting_setup (take 4 met)) ≡ false

-- one proc with two threads
abbrev pub alone_setup : Setup
alone_setup = with_locks 1 (first_thread ∷ first_thread ∷ []) 0 []

-- the two of them can't meet: while the first one waits its proc is held, and the run is stuck
abbrev pub never_met : List Entry
never_met = turns (Begin 1 1 0) ∷ asks 1 1 (ask.Rendezvous 7 100) Waits ∷ turns Stuck ∷ []

-- what that history shows: its setup is valid, and the second thread is ready all the same
pub record ShowsTheHeldProc : Type 0 where
  pub valid : IsValid alone_setup
  pub ready : is_ready_thread (by_id (state_after alone_setup never_met).threads 2) ≡ true
