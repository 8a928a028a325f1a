-- A worked example of a history: a copy of a file of two bytes.
use Rattle.std.specs.Prelude.{◌≡◌, true, false, List, [], ◌∷◌, ◌++◌, Some}
use Rattle.p9_word.specs.declared.answer.Answer.TheVariants.{Sent, Got, Closed, Done, Number, Io}
use Rattle.p9_word.specs.declared.answer.IoAnswer.TheVariants as io_answer
use Rattle.p9_word.specs.declared.io_call.IoCall.TheVariants.{IoOpen, IoReadN, IoWrite, IoClose}
use Rattle.p9_word.specs.declared.io_call.Effect.TheVariants as effect
use Rattle.p9_word.specs.declared.request.Request.TheVariants.{Thread, Chan, Io as IoRequest}
use Rattle.p9_word.specs.declared.request.ThreadReq.TheVariants.{ThreadExits}
use Rattle.p9_word.specs.declared.request.ChanReq.TheVariants.{ChanClose, Send, Recv}
use Rattle.p9_word.specs.declared.request.IoReq.TheVariants.{IoProc, IoRun, CloseIoProc}
use Rattle.p9_word.specs.declared.trail.Event.TheVariants.{Next, IoTake, IoDid}
use Rattle.p9_word.specs.declared.trail.Reply.TheVariants.{Now, Waits, Ended, Begin, Turn, Took, Noted, Over}
use Rattle.p9_word.specs.declared.trail.Seat.TheVariants.{Proc}
use Rattle.p9_word.specs.declared.trail.Entry.{Entry}
use Rattle.p9_word.specs.Setup.{IsValid}
use Rattle.p9_manual.specs.Files.{TreatsAsFile, at_first, given, written}
use Rattle.p9_manual.specs.FilesInHistory.{services_at, IsDone}
use Rattle.p9_laws.specs.RunReplies.{reply_at}
use Rattle.p9_laws.specs.Shorthand.{turns, calls, at_io}
use Rattle.p9_laws.specs.CopySetup.{hi, copy_setup}

-- both threads begin, and make and open their ioprocs; the writer waits for a value
abbrev pub opened_both : List Entry
opened_both =
    turns (Begin 1 1 0)
    ∷ calls 1 (IoRequest (IoProc 1)) (Now (Number 1))
    ∷ calls 1 (IoRequest (IoRun 1 IoOpen)) Waits
    ∷ turns (Begin 2 2 0)
    ∷ calls 2 (IoRequest (IoProc 2)) (Now (Number 2))
    ∷ calls 2 (IoRequest (IoRun 2 IoOpen)) Waits
    ∷ at_io 1 IoTake (Took IoOpen)
    ∷ at_io 1 (IoDid effect.Opened) Noted
    ∷ at_io 2 IoTake (Took IoOpen)
    ∷ at_io 2 (IoDid effect.Opened) Noted
    ∷ turns (Turn 1 (Io io_answer.Opened))
    ∷ calls 1 (IoRequest (IoRun 1 (IoReadN 8192))) Waits
    ∷ turns (Turn 2 (Io io_answer.Opened))
    ∷ calls 2 (Chan (Recv true 1)) Waits
    ∷ []

-- the reader reads hi and sends it to the writer, which waits for it
abbrev pub sent_hi : List Entry
sent_hi =
    at_io 1 IoTake (Took (IoReadN 8192))
    ∷ at_io 1 (IoDid (effect.Got false hi)) Noted
    ∷ turns (Turn 1 (Io (io_answer.Bytes hi)))
    ∷ calls 1 (Chan (Send 1 (Some hi))) Waits
    ∷ []

-- the writer writes hi while the reader comes to the end of its file, and waits for more
abbrev pub wrote_hi : List Entry
wrote_hi =
    turns (Turn 2 (Got 17 hi))
    ∷ calls 2 (IoRequest (IoRun 2 (IoWrite hi))) Waits
    ∷ turns (Turn 1 Sent)
    ∷ calls 1 (IoRequest (IoRun 1 (IoReadN 8192))) Waits
    ∷ at_io 1 IoTake (Took (IoReadN 8192))
    ∷ at_io 1 (IoDid (effect.Got false [])) Noted
    ∷ at_io 2 IoTake (Took (IoWrite hi))
    ∷ at_io 2 (IoDid (effect.Wrote 2 false)) Noted
    ∷ turns (Turn 1 (Io (io_answer.Bytes [])))
    ∷ calls 1 (IoRequest (IoRun 1 IoClose)) Waits
    ∷ turns (Turn 2 (Io (io_answer.Count 2)))
    ∷ calls 2 (Chan (Recv true 1)) Waits
    ∷ []

-- the reader closes its file, its ioproc and the channel, and exits; then the writer finds the channel closed, and does the same
abbrev pub closed_both : List Entry
closed_both =
    at_io 1 IoTake (Took IoClose)
    ∷ at_io 1 (IoDid effect.Shut) Noted
    ∷ turns (Turn 1 (Io io_answer.Shut))
    ∷ calls 1 (IoRequest (CloseIoProc 1)) (Now Done)
    ∷ calls 1 (Chan (ChanClose 1)) (Now (Number 1))
    ∷ calls 1 (Thread (ThreadExits [])) Ended
    ∷ turns (Turn 2 Closed)
    ∷ calls 2 (IoRequest (IoRun 2 IoClose)) Waits
    ∷ at_io 2 IoTake (Took IoClose)
    ∷ at_io 2 (IoDid effect.Shut) Noted
    ∷ turns (Turn 2 (Io io_answer.Shut))
    ∷ calls 2 (IoRequest (CloseIoProc 2)) (Now Done)
    ∷ calls 2 (Thread (ThreadExits [])) Ended
    ∷ []

-- the whole copy
abbrev pub copied_hi : List Entry
copied_hi = opened_both ++ sent_hi ++ wrote_hi ++ closed_both

-- what that copy shows: its setup is valid, its turns are over, both files are treated as files, no call is left begun,
-- and the bytes that the one gave are those that the other took
pub record ShowsTheCopy : Type 0 where
  pub valid : IsValid copy_setup
  pub over : reply_at copy_setup copied_hi (Proc 1) Next ≡ Over
  pub input : TreatsAsFile false at_first (services_at 1 copied_hi)
  pub output : TreatsAsFile true at_first (services_at 2 copied_hi)
  pub input_done : IsDone 1 copied_hi
  pub output_done : IsDone 2 copied_hi
  pub gave : given (services_at 1 copied_hi) ≡ hi ∷ []
  pub took : written (services_at 2 copied_hi) ≡ hi
