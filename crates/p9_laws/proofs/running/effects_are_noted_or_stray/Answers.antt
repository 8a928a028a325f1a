use Rattle.p9_laws.proofs.IoLaws.{did_replies}
use Rattle.p9_laws.proofs.running.effects_are_noted_or_stray.Goals as goal

pub returns : goal.returns
returns c = did_replies
