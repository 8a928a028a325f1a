use Rattle.p9_outside.proofs.Streams.{consumes_none, appends_none}
use Rattle.p9_outside.proofs.laws.no_bytes_move_nothing.Goals as goal

pub returns : goal.returns
returns c = λ bytes. (consumes_none bytes, appends_none bytes)
