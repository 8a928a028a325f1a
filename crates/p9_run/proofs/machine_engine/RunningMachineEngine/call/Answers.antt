use Rattle.p9_run.proofs.EngineSteps.{called_lives}
use Rattle.p9_run.proofs.machine_engine.RunningMachineEngine.call.Goals as goal

pub returns-clause-living : goal.returns-clause-living
returns-clause-living c = called_lives _ _ _ _ _ _ (c.running_threads_live.ensures _ _) c.one_event.ensures.legal c.one_event.ensures.reply
