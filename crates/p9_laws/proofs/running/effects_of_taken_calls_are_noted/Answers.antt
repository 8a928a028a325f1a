use Rattle.p9_laws.proofs.IoLaws.{taken_noted}
use Rattle.p9_laws.proofs.running.effects_of_taken_calls_are_noted.Goals as goal

pub returns : goal.returns
returns c = taken_noted
