-- What a request to interrupt is answered where no thread waits.
use Rattle.p9_word.specs.declared.answer.Answer.{Answer}
use Rattle.p9_word.specs.declared.answer.Answer.TheVariants.{Bad, Number}
use Rattle.p9_io.specs.declared.io_state.IoState.{IoState}
use Rattle.p9_io.specs.declared.io_state.IoState.TheVariants.{Unmade, Idle, Posted, Begun, Closed}

-- no thread was woken, and the ioproc is in use or it isn't
abbrev pub told_of_none : IoState → Answer
told_of_none Unmade = Bad
told_of_none Closed = Bad
told_of_none Idle = Number 0
told_of_none Posted = Number 0
told_of_none Begun = Number 0
