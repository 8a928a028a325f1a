use Rattle.p9_laws.proofs.RunLaws.{lives_go}
use Rattle.p9_laws.proofs.running.lives_go_on.Goals as goal

pub returns : goal.returns
returns c = lives_go
