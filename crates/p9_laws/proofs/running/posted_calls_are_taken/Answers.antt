use Rattle.p9_laws.proofs.IoLaws.{take_replies}
use Rattle.p9_laws.proofs.running.posted_calls_are_taken.Goals as goal

pub returns : goal.returns
returns c = take_replies
