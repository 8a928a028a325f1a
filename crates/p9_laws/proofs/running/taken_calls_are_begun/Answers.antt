use Rattle.p9_laws.proofs.IoLaws.{taken_begun}
use Rattle.p9_laws.proofs.running.taken_calls_are_begun.Goals as goal

pub returns : goal.returns
returns c = taken_begun
