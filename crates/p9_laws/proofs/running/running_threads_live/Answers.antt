use Rattle.p9_laws.proofs.RunLaws.{running_live}
use Rattle.p9_laws.proofs.running.running_threads_live.Goals as goal

pub returns : goal.returns
returns c = running_live
