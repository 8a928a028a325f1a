-- Which message a reply carries.
use Rattle.std.specs.Prelude.{ℕ, ◌≡◌, List}
use Rattle.p9_word.specs.declared.answer.Answer.{Answer}
use Rattle.p9_word.specs.declared.answer.Answer.TheVariants.{Done, Sent, Got, Index, NoBlock, Closed, Interrupted, Number, Minus, Met, Text, Io as IoAnswered, Bad}
use Rattle.p9_word.specs.declared.answer.IoAnswer.{IoAnswer}
use Rattle.p9_word.specs.declared.answer.IoAnswer.TheVariants as answer
use Rattle.p9_word.specs.declared.io_call.IoCall.{IoCall}
use Rattle.p9_word.specs.declared.io_call.IoCall.TheVariants.{IoOpen, IoRead, IoReadN, IoWrite, IoClose, IoOwn}
use Rattle.p9_word.specs.declared.trail.Reply.{Reply}
use Rattle.p9_word.specs.declared.trail.Reply.TheVariants.{Now, Waits, Ended, Begin, Turn, Caught, Died, Idle, Over, Stuck, Halted, Stray, Took, Noted}

-- m is the message of the answer of an ioproc, if it has one
abbrev pub IsOfIoAnswer : IoAnswer → List ℕ → Type 0
IsOfIoAnswer (answer.Bytes bytes) m = m ≡ bytes
IsOfIoAnswer answer.Opened m = Unit {0}
IsOfIoAnswer answer.Shut m = Unit {0}
IsOfIoAnswer (answer.Count count) m = Unit {0}
IsOfIoAnswer answer.Fault m = Unit {0}
IsOfIoAnswer answer.Refused m = Unit {0}

-- m is the message of the answer, if it has one
abbrev pub IsOfAnswer : Answer → List ℕ → Type 0
IsOfAnswer (Got from msg) m = m ≡ msg
IsOfAnswer (Index err i from msg) m = m ≡ msg
IsOfAnswer (IoAnswered a) m = IsOfIoAnswer a m
IsOfAnswer Done m = Unit {0}
IsOfAnswer Sent m = Unit {0}
IsOfAnswer NoBlock m = Unit {0}
IsOfAnswer Closed m = Unit {0}
IsOfAnswer Interrupted m = Unit {0}
IsOfAnswer (Number n) m = Unit {0}
IsOfAnswer Minus m = Unit {0}
IsOfAnswer (Met value) m = Unit {0}
IsOfAnswer (Text text) m = m ≡ text
IsOfAnswer Bad m = Unit {0}

-- m is the message of the call, if it has one
abbrev pub IsOfCall : IoCall → List ℕ → Type 0
IsOfCall (IoWrite bytes) m = m ≡ bytes
IsOfCall (IoOwn code bytes) m = m ≡ bytes
IsOfCall IoOpen m = Unit {0}
IsOfCall (IoRead n) m = Unit {0}
IsOfCall (IoReadN n) m = Unit {0}
IsOfCall IoClose m = Unit {0}

-- m is the message of the reply, if it has one
abbrev pub IsOfReply : Reply → List ℕ → Type 0
IsOfReply (Now a) m = IsOfAnswer a m
IsOfReply (Turn t a) m = IsOfAnswer a m
IsOfReply (Took call) m = IsOfCall call m
IsOfReply Waits m = Unit {0}
IsOfReply Ended m = Unit {0}
IsOfReply (Begin t program arg) m = Unit {0}
IsOfReply (Caught id) m = Unit {0}
IsOfReply (Died note) m = m ≡ note
IsOfReply Idle m = Unit {0}
IsOfReply Over m = Unit {0}
IsOfReply Stuck m = Unit {0}
IsOfReply Halted m = Unit {0}
IsOfReply Stray m = Unit {0}
IsOfReply Noted m = Unit {0}

-- the reply carries no message
abbrev pub IsBare : Reply → Type 0
IsBare r = (m : List ℕ) → IsOfReply r m
