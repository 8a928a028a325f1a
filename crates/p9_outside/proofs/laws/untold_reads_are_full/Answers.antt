use Rattle.p9_outside.proofs.FileRuns.{full_untold}
use Rattle.p9_outside.proofs.laws.untold_reads_are_full.Goals as goal

pub returns : goal.returns
returns c = full_untold
