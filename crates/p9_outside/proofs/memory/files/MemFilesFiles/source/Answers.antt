use Rattle.std.proofs.Common.{refl}
use Rattle.p9_outside.specs.declared.memory.plans.PathFail.TheVariants.{Source}
use Rattle.p9_outside.proofs.MemoryPlans.{told_spent}
use Rattle.p9_outside.proofs.memory.files.MemFilesFiles.source.Goals as goal

pub returns-clause-kept : goal.returns-clause-kept
returns-clause-kept c = told_spent _ _ _ _ _ Source refl refl c.spend.ensures.spent
