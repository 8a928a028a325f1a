use Rattle.p9_laws.proofs.Sound.Histories.{step_sound}
use Rattle.p9_laws.proofs.soundness.steps_keep_soundness.Goals as goal

pub returns : goal.returns
returns c = step_sound c.args.setup.now c.args.seat c.args.event.now
