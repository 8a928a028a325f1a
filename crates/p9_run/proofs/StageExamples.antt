-- Worked examples of what the two stages ask, proved by computing: after answers that no copy of a file gets, so that no
-- run of one shows what is asked then.
use Rattle.std.proofs.Common.{◌≡◌, List, [], ◌∷◌, ◌++◌, refl, true}
use Rattle.std.specs.Prelude.{codes}
use Rattle.p9_word.specs.declared.answer.Answer.{Answer}
use Rattle.p9_word.specs.declared.answer.Answer.TheVariants.{Done, Got, Closed, Number, Bad, Io}
use Rattle.p9_word.specs.declared.answer.IoAnswer.TheVariants.{Opened, Shut, Bytes, Count, Fault, Refused}
use Rattle.p9_word.specs.declared.io_call.IoCall.TheVariants.{IoReadN, IoWrite, IoClose}
use Rattle.p9_word.specs.declared.request.Request.{Request}
use Rattle.p9_word.specs.declared.request.Request.TheVariants.{Thread, Chan, Io as IoRequest}
use Rattle.p9_word.specs.declared.request.ThreadReq.TheVariants.{ThreadExits}
use Rattle.p9_word.specs.declared.request.ChanReq.TheVariants.{ChanClose, Recv}
use Rattle.p9_word.specs.declared.request.IoReq.TheVariants.{IoRun, CloseIoProc}
use Rattle.p9_run.specs.ReadStage.{read}
use Rattle.p9_run.specs.WriteStage.{write}

-- what a stage of file 1 and channel 1 asks after these answers, once it has opened its file
abbrev reader : List Answer → Request
reader answers = read (record { file = 1; chan = 1 }) (Done ∷ Number 1 ∷ Io Opened ∷ answers)

abbrev writer : List Answer → Request
writer answers = write (record { file = 1; chan = 1 }) (Done ∷ Number 1 ∷ Io Opened ∷ answers)

-- a stage that got an answer that it has no use for
abbrev fails : Request
fails = Thread (ThreadExits (codes "stage"))

-- the reader's channel was closed by another thread: it reads on and sends no more
abbrev closed : List Answer
closed = Io (Bytes (codes "ab")) ∷ Closed ∷ []

reads_on : reader closed ≡ IoRequest (IoRun 1 (IoReadN 8192))
reads_on = refl

sends_no_more : reader (closed ++ Io (Bytes (codes "c")) ∷ []) ≡ IoRequest (IoRun 1 (IoReadN 8192))
sends_no_more = refl

-- after a Fault it closes its file, ends its ioproc, and closes the channel, which may not be there any more
abbrev failed : List Answer
failed = closed ++ Io (Bytes (codes "c")) ∷ Io Fault ∷ []

shuts : reader failed ≡ IoRequest (IoRun 1 IoClose)
shuts = refl

frees : reader (failed ++ Io Shut ∷ []) ≡ IoRequest (CloseIoProc 1)
frees = refl

closes : reader (failed ++ Io Shut ∷ Done ∷ []) ≡ Chan (ChanClose 1)
closes = refl

tells_of_the_channel : reader (failed ++ Io Shut ∷ Done ∷ Bad ∷ []) ≡ fails
tells_of_the_channel = refl

-- a file that refuses a read: the reader closes the channel and fails
gives_up : reader (Io Refused ∷ []) ≡ Chan (ChanClose 1)
gives_up = refl

fails_after : reader (Io Refused ∷ Number 1 ∷ []) ≡ fails
fails_after = refl

-- a writer that may not receive fails
has_no_channel : writer (Bad ∷ []) ≡ fails
has_no_channel = refl

-- after a Fault the writer receives on and writes no more
abbrev skipping : List Answer
skipping = Got 7 (codes "ab") ∷ Io (Count 2) ∷ Got 8 (codes "c") ∷ Io Fault ∷ []

writes : writer (Got 7 (codes "ab") ∷ []) ≡ IoRequest (IoRun 1 (IoWrite (codes "ab")))
writes = refl

receives_on : writer skipping ≡ Chan (Recv true 1)
receives_on = refl

writes_no_more : writer (skipping ++ Got 9 (codes "d") ∷ []) ≡ Chan (Recv true 1)
writes_no_more = refl
