use Rattle.std.proofs.Common.{refl}
use Rattle.p9_outside.specs.declared.memory.plans.PathFail.TheVariants.{Sink}
use Rattle.p9_outside.proofs.MemoryPlans.{told_spent}
use Rattle.p9_outside.proofs.memory.files.MemFilesFiles.sink.Goals as goal

pub returns-then-spend-clause-kept : goal.returns-then-spend-clause-kept
returns-then-spend-clause-kept c = told_spent _ _ _ _ _ Sink refl refl c.spend.ensures.spent
