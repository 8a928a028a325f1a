-- A worked example of a history: the wait for an ioproc's call is interrupted, and the call goes on.
use Rattle.std.specs.Prelude.{ℕ, ◌≡◌, false, List, [], ◌∷◌, Some, None, take}
use Rattle.p9_word.specs.declared.answer.Answer.TheVariants.{Bad, Interrupted, Number}
use Rattle.p9_word.specs.declared.io_call.IoCall.TheVariants.{IoWrite}
use Rattle.p9_word.specs.declared.io_call.Effect.TheVariants.{Wrote}
use Rattle.p9_word.specs.declared.request.Request.TheVariants.{Thread, Io as IoRequest}
use Rattle.p9_word.specs.declared.request.IoReq.{IoReq}
use Rattle.p9_word.specs.declared.request.IoReq.TheVariants.{IoProc, IoRun, IoInterrupt}
use Rattle.p9_word.specs.declared.request.ThreadReq.TheVariants.{ThreadExits}
use Rattle.p9_word.specs.declared.setup.Setup.{Setup}
use Rattle.p9_word.specs.declared.trail.Entry.{Entry}
use Rattle.p9_word.specs.declared.trail.Event.TheVariants.{Call, IoTake, IoDid}
use Rattle.p9_word.specs.declared.trail.Reply.{Reply}
use Rattle.p9_word.specs.declared.trail.Reply.TheVariants.{Now, Waits, Ended, Begin, Turn, Took, Noted}
use Rattle.p9_word.specs.declared.trail.Seat.TheVariants.{Proc}
use Rattle.p9_word.specs.Setup.{IsValid}
use Rattle.p9_manual.specs.declared.state.Ioproc.TheVariants.{Begun}
use Rattle.p9_manual.specs.Files.{written}
use Rattle.p9_manual.specs.FilesInHistory.{services_at}
use Rattle.p9_laws.specs.ChannelExamples.{one_proc, text_ab, text_c}
use Rattle.p9_laws.specs.IoReplies.{ioproc_after}
use Rattle.p9_laws.specs.RunReplies.{reply_at}
use Rattle.p9_laws.specs.Shorthand.{turns, calls, at_io}
use Rattle.p9_laws.specs.ThreadExamples.{first_thread}

-- two threads, and a file
abbrev pub write_setup : Setup
write_setup = record (one_proc (first_thread ∷ first_thread ∷ []) []) { files = 1 }

-- thread t makes a request on ioprocs
abbrev pub asks_io : ℕ → IoReq → Reply → Entry
asks_io t request reply = calls t (IoRequest request) reply

-- the first thread waits for a write that the ioproc has begun, and the second one interrupts its wait, which has an effect only
-- once. The ioproc has its call still and takes no other one. The first thread is told so at its turn, and then the write is done
abbrev pub interrupted_write : List Entry
interrupted_write =
    turns (Begin 1 1 0)
    ∷ asks_io 1 (IoProc 1) (Now (Number 1))
    ∷ asks_io 1 (IoRun 1 (IoWrite text_ab)) Waits
    ∷ at_io 1 IoTake (Took (IoWrite text_ab))
    ∷ turns (Begin 2 1 0)
    ∷ asks_io 2 (IoInterrupt 1) (Now (Number 1))
    ∷ asks_io 2 (IoRun 1 (IoWrite text_c)) (Now Bad)
    ∷ asks_io 2 (IoInterrupt 1) (Now (Number 0))
    ∷ calls 2 (Thread (ThreadExits [])) Ended
    ∷ turns (Turn 1 Interrupted)
    ∷ at_io 1 (IoDid (Wrote 2 false)) Noted
    ∷ []

-- what that history shows: its setup is valid; once the wait is interrupted the call goes on for nobody; its bytes are those
-- that were written; and then the ioproc is idle, where an interrupt has no effect
pub record ShowsTheWrite : Type 0 where
  pub valid : IsValid write_setup
  pub goes_on : ioproc_after write_setup (take 6 interrupted_write) 1 ≡ Some (Begun None (IoWrite text_ab))
  pub wrote : written (services_at 1 interrupted_write) ≡ text_ab
  pub idle : reply_at write_setup interrupted_write (Proc 1) (Call 1 (IoRequest (IoInterrupt 1))) ≡ Now (Number 0)
