use Rattle.p9_laws.proofs.RunLaws.{call_replies}
use Rattle.p9_laws.proofs.running.running_calls_are_served.Goals as goal

pub returns : goal.returns
returns c = call_replies
