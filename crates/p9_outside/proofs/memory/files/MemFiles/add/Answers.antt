use Rattle.p9_outside.proofs.MemoryEntries.{puts}
use Rattle.p9_outside.proofs.memory.files.MemFiles.add.Goals as goal

pub returns-in-Ok-clause-ok : goal.returns-in-Ok-clause-ok
returns-in-Ok-clause-ok c = puts _ _ _ _ c.in-Ok.ensures.ok
