use Rattle.p9_laws.proofs.Sound.Histories.{state_sound}
use Rattle.p9_laws.proofs.soundness.states_are_sound.Goals as goal

pub returns : goal.returns
returns c = state_sound c.args.setup.now c.args.entries.now c.requires
