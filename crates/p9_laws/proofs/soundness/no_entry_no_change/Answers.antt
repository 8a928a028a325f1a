use Rattle.p9_laws.proofs.Sound.Histories.{step_quiet}
use Rattle.p9_laws.proofs.soundness.no_entry_no_change.Goals as goal

pub returns : goal.returns
returns c = step_quiet c.args.setup.now c.args.seat c.args.event.now
