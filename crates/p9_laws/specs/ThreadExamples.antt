-- A worked example of a history: threads and procs that run by turns, until one of them ends them all.
use Rattle.std.specs.Prelude.{ℕ, ◌≡◌, List, [], ◌∷◌, take}
use Rattle.p9_word.specs.declared.answer.Answer.TheVariants.{Number, Minus}
use Rattle.p9_word.specs.declared.request.Request.TheVariants.{Thread}
use Rattle.p9_word.specs.declared.request.ThreadReq.{ThreadReq}
use Rattle.p9_word.specs.declared.request.ThreadReq.TheVariants.{ThreadCreate, ProcCreate, ThreadExitsAll, Yield}
use Rattle.p9_word.specs.declared.trail.Event.TheVariants.{Call, Next}
use Rattle.p9_word.specs.declared.trail.Reply.{Reply}
use Rattle.p9_word.specs.declared.trail.Reply.TheVariants.{Now, Waits, Ended, Begin, Turn, Over, Stray}
use Rattle.p9_word.specs.declared.trail.Seat.TheVariants.{Proc}
use Rattle.p9_word.specs.declared.trail.Entry.{Entry}
use Rattle.p9_word.specs.declared.setup.Setup.{Setup}
use Rattle.p9_word.specs.declared.setup.ThreadSetup.{ThreadSetup}
use Rattle.p9_word.specs.Setup.{IsValid}
use Rattle.p9_laws.specs.RunReplies.{reply_at}

-- a thread without a name that runs program 1 in proc 1
abbrev pub first_thread : ThreadSetup
first_thread = record { proc_no = 1; program = 1; arg = 0; name = [] }

-- two proc places, one of them open, with a thread in it; two programs
abbrev pub turns_setup : Setup
turns_setup =
    record {
      places = 2;
      opened = 1;
      threads = first_thread ∷ [];
      programs = 2;
      chans = [];
      locks = 0;
      qlocks = 0;
      rwlocks = 0;
      rendezes = [];
      refs = [];
      files = 0;
      procs = 0;
      start = 42;
    }

-- proc p asks for a turn
abbrev pub turn_of : ℕ → Reply → Entry
turn_of p reply = record { seat = Proc p; event = Next; reply = reply }

-- thread t makes a request on threads in proc p
abbrev pub request_of : ℕ → ℕ → ThreadReq → Reply → Entry
request_of p t request reply = record { seat = Proc p; event = Call t (Thread request); reply = reply }

-- the first thread makes thread 2 in its own proc, and runs on. Then it makes thread 3 in a new proc, and stands last in
-- its line. Thread 3 begins in proc 2, thread 2 in proc 1 and lets others run, and so the first thread is told the id of
-- thread 3. No place is left for a third proc, and the first thread ends all threads
abbrev pub by_turns : List Entry
by_turns =
    turn_of 1 (Begin 1 1 0)
    ∷ request_of 1 1 (ThreadCreate 2 5) (Now (Number 2))
    ∷ request_of 1 1 (ProcCreate 2 6) Waits
    ∷ turn_of 2 (Begin 3 2 6)
    ∷ turn_of 1 (Begin 2 2 5)
    ∷ request_of 1 2 Yield Waits
    ∷ turn_of 1 (Turn 1 (Number 3))
    ∷ request_of 1 1 (ProcCreate 2 7) (Now Minus)
    ∷ request_of 1 1 (ThreadExitsAll (120 ∷ [])) Ended
    ∷ []

-- what that history shows: its setup is valid; while thread 2 runs in proc 1, proc 2 makes no request of it; and after the
-- end of all threads the turns of proc 2 are over, though thread 3 ran there
pub record ShowsTheTurns : Type 0 where
  pub valid : IsValid turns_setup
  pub stray : reply_at turns_setup (take 5 by_turns) (Proc 2) (Call 2 (Thread Yield)) ≡ Stray
  pub over : reply_at turns_setup by_turns (Proc 2) Next ≡ Over
