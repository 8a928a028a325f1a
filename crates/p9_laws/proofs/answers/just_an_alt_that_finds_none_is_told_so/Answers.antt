use Rattle.p9_laws.proofs.Given.NoBlocks.{no_blocks_exactly}
use Rattle.p9_laws.proofs.answers.just_an_alt_that_finds_none_is_told_so.Goals as goal

pub returns : goal.returns
returns c = no_blocks_exactly
