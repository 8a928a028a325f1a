use Rattle.std.proofs.Common.{sym, refl}
use Rattle.p9_outside.specs.declared.memory.plans.PathFail.TheVariants.{Close}
use Rattle.p9_outside.proofs.MemoryEntries.{found_still, puts}
use Rattle.p9_outside.proofs.MemoryPlans.{told_kept, told_spent}
use Rattle.p9_outside.proofs.memory.files.MemFilesFiles.close.Goals as goal

pub returns-in-Ok-clause-ok : goal.returns-in-Ok-clause-ok
returns-in-Ok-clause-ok c = rw (sym c.into_msg.ensures) (puts _ _ _ _ c.in-Ok.ensures.ok)

pub returns-then-spend-clause-kept : goal.returns-then-spend-clause-kept
returns-then-spend-clause-kept c = told_spent _ _ _ _ _ Close refl refl c.spend.ensures.spent

pub returns-in-Ok-clause-kept : goal.returns-in-Ok-clause-kept
returns-in-Ok-clause-kept c = told_kept _ _ _ _ _ (c.spend.ensures.kept c.if-spend.false) (found_still _ _ _ _ c.in-Ok.ensures.ok)
