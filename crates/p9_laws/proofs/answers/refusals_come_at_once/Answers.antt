use Rattle.p9_laws.proofs.Given.Later.{turns_tell_later}
use Rattle.p9_laws.proofs.answers.refusals_come_at_once.Goals as goal

pub returns : goal.returns
returns c = turns_tell_later
