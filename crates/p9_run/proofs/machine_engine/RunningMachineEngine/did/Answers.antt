use Rattle.std.proofs.Common.{ap}
use Rattle.p9_machine.specs.Shown.{Shown}
use Rattle.p9_run.proofs.EngineSteps.{effect_noted}
use Rattle.p9_run.proofs.Running.{reply_runs}
use Rattle.p9_run.proofs.machine_engine.RunningMachineEngine.did.Goals as goal

pub returns-clause-entries : goal.returns-clause-entries
returns-clause-entries c =
    effect_noted _ _ _ _ _ _ (c.fitting_effects_are_noted.ensures _ _) c.requires (reply_runs c.args.self.now.machine _ _ _ c.args.self.now.running c.apply.ensures.reply) (ap (λ (m : Shown). m.entries) c.apply.ensures.machine)
