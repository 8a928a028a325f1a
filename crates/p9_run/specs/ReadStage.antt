-- The stage `read`: what it asks, after the answers so far, of which the first is Done.
-- It opens its file, sends the file's bytes to its channel in blocks, the last shorter, and closes both.
use Rattle.std.specs.Prelude.{true, false, List, [], ◌∷◌, Some}
use Rattle.p9_word.specs.declared.limits.TheConstants.{BLOCK_BYTES}
use Rattle.p9_word.specs.declared.answer.Answer.{Answer}
use Rattle.p9_word.specs.declared.answer.Answer.TheVariants.{Done, Sent, Closed, Number, Io}
use Rattle.p9_word.specs.declared.answer.IoAnswer.TheVariants.{Opened, Shut, Bytes, Fault}
use Rattle.p9_word.specs.declared.io_call.IoCall.TheVariants.{IoOpen, IoReadN, IoClose}
use Rattle.p9_word.specs.declared.request.Request.{Request}
use Rattle.p9_word.specs.declared.request.Request.TheVariants.{Chan, Io as IoRequest}
use Rattle.p9_word.specs.declared.request.ChanReq.TheVariants.{ChanClose, Send}
use Rattle.p9_word.specs.declared.request.IoReq.TheVariants.{IoProc, CloseIoProc}
use Rattle.p9_run.specs.Stage.{Ends, call_of, exits}

-- after an answer that the stage has no use for: the channel is closed, whatever is answered, and the stage fails
abbrev pub read_fails : Ends → List Answer → Request
read_fails e [] = Chan (ChanClose e.chan)
read_fails e (a ∷ answers) = exits true

-- at the end the channel is closed, whichever number is answered, and the stage exits with no text
abbrev pub read_ends : Ends → List Answer → Request
read_ends e [] = Chan (ChanClose e.chan)
read_ends e (Number n ∷ answers) = exits false
read_ends e (a ∷ answers) = exits true

-- the file is closed and its ioproc ended
abbrev pub closing : Ends → List Answer → Request
closing e [] = call_of e IoClose
closing e (Io Shut ∷ []) = IoRequest (CloseIoProc e.file)
closing e (Io Shut ∷ Done ∷ answers) = read_ends e answers
closing e (Io Shut ∷ a ∷ answers) = read_fails e answers
closing e (a ∷ answers) = read_fails e answers

-- another thread has closed the channel: the stage reads on and sends no more
abbrev pub draining : Ends → List Answer → Request
draining e [] = call_of e (IoReadN BLOCK_BYTES)
draining e (Io (Bytes []) ∷ answers) = closing e answers
draining e (Io (Bytes (b ∷ bs)) ∷ answers) = draining e answers
draining e (Io Fault ∷ answers) = closing e answers
draining e (a ∷ answers) = read_fails e answers

-- each piece is read and sent, until no bytes or a Fault comes
abbrev pub reading : Ends → List Answer → Request
reading e [] = call_of e (IoReadN BLOCK_BYTES)
reading e (Io (Bytes []) ∷ answers) = closing e answers
reading e (Io (Bytes (b ∷ bs)) ∷ []) = Chan (Send e.chan (Some (b ∷ bs)))
reading e (Io (Bytes (b ∷ bs)) ∷ Sent ∷ answers) = reading e answers
reading e (Io (Bytes (b ∷ bs)) ∷ Closed ∷ answers) = draining e answers
reading e (Io (Bytes (b ∷ bs)) ∷ a ∷ answers) = read_fails e answers
reading e (Io Fault ∷ answers) = closing e answers
reading e (a ∷ answers) = read_fails e answers

-- the whole stage: the ioproc is made and the file opened, and then it is read
abbrev pub read : Ends → List Answer → Request
read e [] = IoRequest (IoProc e.file)
read e (Done ∷ []) = IoRequest (IoProc e.file)
read e (Done ∷ Number k ∷ []) = call_of e IoOpen
read e (Done ∷ Number k ∷ Io Opened ∷ answers) = reading e answers
read e (Done ∷ Number k ∷ a ∷ answers) = read_fails e answers
read e (Done ∷ a ∷ answers) = read_fails e answers
read e (a ∷ answers) = read_fails e answers
