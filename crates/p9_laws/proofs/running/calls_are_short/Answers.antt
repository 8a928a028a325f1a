use Rattle.p9_laws.proofs.IoLaws.{short_calls}
use Rattle.p9_laws.proofs.running.calls_are_short.Goals as goal

pub returns : goal.returns
returns c = short_calls
