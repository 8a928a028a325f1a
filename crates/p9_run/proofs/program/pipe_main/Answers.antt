use Rattle.p9_run.proofs.Lifts.{called}
use Rattle.p9_run.proofs.program.pipe_main.Goals as goal

pub returns-clause-call : goal.returns-clause-call
returns-clause-call g c = called _ _ _ _ _ _ _ _ _ _ _ _ c.run_words-end.ensures.came c.run_words-end.ensures.counts c.tell-status.ensures
