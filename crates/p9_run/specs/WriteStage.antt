-- The stage `write`: what it asks, after the answers so far, of which the first is Done.
-- It opens its file, writes each message that it receives to it, until the channel is closed, and closes the file.
use Rattle.std.specs.Prelude.{true, false, List, [], ◌∷◌}
use Rattle.p9_word.specs.declared.answer.Answer.{Answer}
use Rattle.p9_word.specs.declared.answer.Answer.TheVariants.{Done, Got, Closed, Number, Io}
use Rattle.p9_word.specs.declared.answer.IoAnswer.TheVariants.{Opened, Shut, Count, Fault}
use Rattle.p9_word.specs.declared.io_call.IoCall.TheVariants.{IoOpen, IoWrite, IoClose}
use Rattle.p9_word.specs.declared.request.Request.{Request}
use Rattle.p9_word.specs.declared.request.Request.TheVariants.{Chan, Io as IoRequest}
use Rattle.p9_word.specs.declared.request.ChanReq.TheVariants.{Recv}
use Rattle.p9_word.specs.declared.request.IoReq.TheVariants.{IoProc, CloseIoProc}
use Rattle.p9_run.specs.Stage.{Ends, call_of, exits}

-- the next message, with its bytes
abbrev pub receives : Ends → Request
receives e = Chan (Recv true e.chan)

-- at the end the file is closed and its ioproc ended, and the stage exits with no text
abbrev pub shutting : Ends → List Answer → Request
shutting e [] = call_of e IoClose
shutting e (Io Shut ∷ []) = IoRequest (CloseIoProc e.file)
shutting e (Io Shut ∷ Done ∷ answers) = exits false
shutting e (Io Shut ∷ a ∷ answers) = exits true
shutting e (a ∷ answers) = exits true

-- after a Fault: the stage receives on and writes no more
abbrev pub skipping : Ends → List Answer → Request
skipping e [] = receives e
skipping e (Got from message ∷ answers) = skipping e answers
skipping e (Closed ∷ answers) = shutting e answers
skipping e (a ∷ answers) = exits true

-- each message is received and written, until the channel is closed
abbrev pub writing : Ends → List Answer → Request
writing e [] = receives e
writing e (Got from message ∷ []) = call_of e (IoWrite message)
writing e (Got from message ∷ Io (Count n) ∷ answers) = writing e answers
writing e (Got from message ∷ Io Fault ∷ answers) = skipping e answers
writing e (Got from message ∷ a ∷ answers) = exits true
writing e (Closed ∷ answers) = shutting e answers
writing e (a ∷ answers) = exits true

-- the whole stage: the ioproc is made and the file opened, and then it is written
abbrev pub write : Ends → List Answer → Request
write e [] = IoRequest (IoProc e.file)
write e (Done ∷ []) = IoRequest (IoProc e.file)
write e (Done ∷ Number k ∷ []) = call_of e IoOpen
write e (Done ∷ Number k ∷ Io Opened ∷ answers) = writing e answers
write e (Done ∷ Number k ∷ a ∷ answers) = exits true
write e (Done ∷ a ∷ answers) = exits true
write e (a ∷ answers) = exits true
