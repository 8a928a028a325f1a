use Rattle.p9_laws.proofs.Given.NoBlocks.{no_blocks_caused}
use Rattle.p9_laws.proofs.answers.no_blocks_have_their_cause.Goals as goal

pub returns : goal.returns
returns c = no_blocks_caused
