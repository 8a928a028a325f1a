use Rattle.p9_laws.proofs.EndLaws.{ends_over}
use Rattle.p9_laws.proofs.ending.runs_end.Goals as goal

pub returns : goal.returns
returns c = ends_over
