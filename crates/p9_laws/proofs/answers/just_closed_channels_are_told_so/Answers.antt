use Rattle.p9_laws.proofs.Given.ClosedExactly.{closed_exactly}
use Rattle.p9_laws.proofs.answers.just_closed_channels_are_told_so.Goals as goal

pub returns : goal.returns
returns c = closed_exactly
