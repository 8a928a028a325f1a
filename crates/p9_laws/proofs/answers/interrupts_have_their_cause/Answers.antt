use Rattle.p9_laws.proofs.Given.Interrupted.{interrupts_caused}
use Rattle.p9_laws.proofs.answers.interrupts_have_their_cause.Goals as goal

pub returns : goal.returns
returns c = interrupts_caused
