use Rattle.p9_laws.proofs.Lined.{lined_after}
use Rattle.p9_laws.proofs.stuck.lines_have_the_ready.Goals as goal

pub returns : goal.returns
returns c = lined_after
