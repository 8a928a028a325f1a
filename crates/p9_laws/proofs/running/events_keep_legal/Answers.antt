use Rattle.p9_laws.proofs.RunLaws.{grown_legal}
use Rattle.p9_laws.proofs.running.events_keep_legal.Goals as goal

pub returns : goal.returns
returns c = grown_legal
