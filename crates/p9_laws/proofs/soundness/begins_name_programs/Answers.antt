use Rattle.p9_manual.specs.History.{state_after}
use Rattle.p9_laws.proofs.Sound.Histories.{state_sound, step_begins}
use Rattle.p9_laws.proofs.soundness.begins_name_programs.Goals as goal

pub returns : goal.returns
returns c =
    step_begins c.args.setup.now c.args.seat c.args.event.now (state_after c.args.setup.now c.args.entries.now)
    (state_sound c.args.setup.now c.args.entries.now c.requires)
