use Rattle.p9_laws.proofs.RunLaws.{programs_go}
use Rattle.p9_laws.proofs.running.programs_go_on.Goals as goal

pub returns : goal.returns
returns c = programs_go
