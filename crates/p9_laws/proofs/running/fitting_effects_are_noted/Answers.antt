use Rattle.p9_laws.proofs.IoLaws.{fitting_noted}
use Rattle.p9_laws.proofs.running.fitting_effects_are_noted.Goals as goal

pub returns : goal.returns
returns c = fitting_noted
