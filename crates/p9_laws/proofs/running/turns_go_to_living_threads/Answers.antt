use Rattle.p9_laws.proofs.RunLaws.{turn_replies}
use Rattle.p9_laws.proofs.running.turns_go_to_living_threads.Goals as goal

pub returns : goal.returns
returns c = turn_replies
