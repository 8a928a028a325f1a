use Rattle.p9_laws.proofs.RunLaws.{turns_run}
use Rattle.p9_laws.proofs.running.turns_make_run.Goals as goal

pub returns : goal.returns
returns c = turns_run
