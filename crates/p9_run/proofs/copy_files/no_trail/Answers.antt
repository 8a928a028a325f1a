use Rattle.p9_run.proofs.CopyRuns.{no_history}
use Rattle.std.proofs.Common.{refl}
use Rattle.p9_run.proofs.copy_files.no_trail.Goals as goal

pub returns-clause-trail : goal.returns-clause-trail
returns-clause-trail c = record { procs = refl; start = refl; history = rw c.new.ensures.items no_history }
