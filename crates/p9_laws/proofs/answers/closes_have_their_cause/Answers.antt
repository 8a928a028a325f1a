use Rattle.p9_laws.proofs.Given.ClosedExactly.{closed_told}
use Rattle.p9_laws.proofs.answers.closes_have_their_cause.Goals as goal

pub returns : goal.returns
returns c = closed_told
