use Rattle.p9_laws.proofs.RunLaws.{answered_run_on}
use Rattle.p9_laws.proofs.running.answered_threads_run_on.Goals as goal

pub returns : goal.returns
returns c = answered_run_on
