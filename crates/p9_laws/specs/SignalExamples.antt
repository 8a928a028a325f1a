-- Worked examples of histories: a wait that is interrupted, threads of a group that are killed, and notes.
use Rattle.std.specs.Prelude.{ℕ, ◌≡◌, true, List, [], ◌∷◌, Some, take}
use Rattle.p9_word.specs.declared.alt.Ending.TheVariants.{End}
use Rattle.p9_word.specs.declared.answer.Answer.TheVariants.{Done, Interrupted, Number}
use Rattle.p9_word.specs.declared.request.Request.{Request}
use Rattle.p9_word.specs.declared.request.Request.TheVariants.{Thread, Signal, Chan, Lock as LockRequest}
use Rattle.p9_word.specs.declared.request.ChanReq.TheVariants.{Alt, Recv}
use Rattle.p9_word.specs.declared.request.LockReq.TheVariants.{QLock}
use Rattle.p9_word.specs.declared.request.SignalReq.TheVariants.{ThreadInt, ThreadKillGrp, ThreadNotify, PostNote}
use Rattle.p9_word.specs.declared.request.ThreadReq.TheVariants.{ThreadExits, ThreadSetGrp, Yield}
use Rattle.p9_word.specs.declared.trail.Event.TheVariants.{Next}
use Rattle.p9_word.specs.declared.trail.Reply.TheVariants.{Now, Waits, Ended, Begin, Turn, Caught, Died, Over, Stuck}
use Rattle.p9_word.specs.declared.trail.Seat.TheVariants.{Proc}
use Rattle.p9_word.specs.declared.trail.Entry.{Entry}
use Rattle.p9_word.specs.declared.setup.Setup.{Setup}
use Rattle.p9_word.specs.Setup.{IsValid}
use Rattle.p9_manual.specs.declared.state.Place.TheVariants.{Ended as EndedPlace}
use Rattle.p9_manual.specs.declared.state.Waiter.{Waiter}
use Rattle.p9_manual.specs.History.{state_after}
use Rattle.p9_manual.specs.Standing.{place_of}
use Rattle.p9_laws.specs.AltExamples.{of_capacity, rcv}
use Rattle.p9_laws.specs.ChannelExamples.{one_proc}
use Rattle.p9_laws.specs.LockExamples.{with_locks}
use Rattle.p9_laws.specs.RunReplies.{reply_at}
use Rattle.p9_laws.specs.Shorthand.{turns, calls}
use Rattle.p9_laws.specs.ThreadExamples.{first_thread}

-- two threads, and a channel that hands each value over
abbrev pub interrupt_setup : Setup
interrupt_setup = one_proc (first_thread ∷ first_thread ∷ []) (of_capacity 0 ∷ [])

-- the first thread waits in an alt on the channel, and the second one interrupts it, which has an effect only once. The first
-- thread is told so at its turn, and its next receive there waits
abbrev pub interrupted_once : List Entry
interrupted_once =
    turns (Begin 1 1 0)
    ∷ calls 1 (Chan (Alt End (rcv 1 ∷ []))) Waits
    ∷ turns (Begin 2 1 0)
    ∷ calls 2 (Signal (ThreadInt 1)) (Now (Number 1))
    ∷ calls 2 (Signal (ThreadInt 1)) (Now (Number 0))
    ∷ calls 2 (Thread Yield) Waits
    ∷ turns (Turn 1 Interrupted)
    ∷ calls 1 (Chan (Recv true 1)) Waits
    ∷ []

-- the thread, as one that waits in a request that it made at this position
abbrev pub waiter : ℕ → Request → ℕ → Waiter
waiter t request at = record { tid = t; request = request; at = at }

-- what that history shows: its setup is valid; once the first thread is interrupted nobody waits; and at the end it waits in
-- its receive, which nothing of the interrupt ends
pub record ShowsTheInterrupt : Type 0 where
  pub valid : IsValid interrupt_setup
  pub ended : (state_after interrupt_setup (take 4 interrupted_once)).waits ≡ []
  pub waits : (state_after interrupt_setup interrupted_once).waits ≡ waiter 1 (Chan (Recv true 1)) 7 ∷ []

-- three threads of one proc, and a QLock
abbrev pub kill_setup : Setup
kill_setup = with_locks 1 (first_thread ∷ first_thread ∷ first_thread ∷ []) 1 []

-- the first thread, alone in its group, has the QLock, and the second one waits for it. The third one kills that group, which
-- ends no wait, and exits. The first one has its turn all the same, and ends at its next request that lets others run: the
-- QLock stays held, and the run is stuck
abbrev pub killed_with_a_lock : List Entry
killed_with_a_lock =
    turns (Begin 1 1 0)
    ∷ calls 1 (Thread (ThreadSetGrp 5)) (Now (Number 0))
    ∷ calls 1 (LockRequest (QLock 1)) Waits
    ∷ turns (Begin 2 1 0)
    ∷ calls 2 (LockRequest (QLock 1)) Waits
    ∷ turns (Begin 3 1 0)
    ∷ calls 3 (Signal (ThreadKillGrp 5)) (Now (Number 0))
    ∷ calls 3 (Thread (ThreadExits [])) Ended
    ∷ turns (Turn 1 Done)
    ∷ calls 1 (Thread Yield) Ended
    ∷ turns Stuck
    ∷ []

-- what that history shows: its setup is valid; at the end the first thread has ended and has the QLock still, for which the
-- second one waits
pub record ShowsTheKill : Type 0 where
  pub valid : IsValid kill_setup
  pub ended : place_of (state_after kill_setup killed_with_a_lock).threads 1 ≡ EndedPlace
  pub holder : (state_after kill_setup killed_with_a_lock).holds.qlocks ≡ Some 1 ∷ []
  pub waits : (state_after kill_setup killed_with_a_lock).waits ≡ waiter 2 (LockRequest (QLock 1)) 4 ∷ []

-- one thread
abbrev pub note_setup : Setup
note_setup = one_proc (first_thread ∷ []) []

-- the texts by and bye, as bytes
abbrev pub text_by : List ℕ
text_by = 98 ∷ 121 ∷ []

abbrev pub text_bye : List ℕ
text_bye = 98 ∷ 121 ∷ 101 ∷ []

-- the thread posts a note to its own proc, which has no handler: the note ends all its threads at the proc's next turn
abbrev pub killed_by_a_note : List Entry
killed_by_a_note =
    turns (Begin 1 1 0)
    ∷ calls 1 (Signal (PostNote 1 text_bye)) (Now Done)
    ∷ calls 1 (Thread Yield) Waits
    ∷ turns (Died text_bye)
    ∷ []

-- with a handler whose prefix begins the note, the proc's next turn tells who catches it, and the one after it goes to the thread
abbrev pub caught_note : List Entry
caught_note =
    turns (Begin 1 1 0)
    ∷ calls 1 (Signal (ThreadNotify true 1 text_by)) (Now (Number 1))
    ∷ calls 1 (Signal (PostNote 1 text_bye)) (Now Done)
    ∷ calls 1 (Thread Yield) Waits
    ∷ turns (Caught 1)
    ∷ turns (Turn 1 Done)
    ∷ []

-- what the first of these shows: its setup is valid, and after it the proc's turns are over
pub record ShowsTheNote : Type 0 where
  pub valid : IsValid note_setup
  pub over : reply_at note_setup killed_by_a_note (Proc 1) Next ≡ Over
