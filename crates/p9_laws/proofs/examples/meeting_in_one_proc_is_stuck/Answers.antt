use Rattle.std.proofs.Common.{refl}
use Rattle.p9_manual.specs.Step.{step, outcome, called, served}
use Rattle.p9_manual.specs.Locks.{lock_call}
use Rattle.p9_manual.specs.Next.{next_event}
use Rattle.p9_laws.proofs.examples.meeting_in_one_proc_is_stuck.Goals as goal

pub returns : goal.returns
unfolding step outcome called served lock_call next_event
returns c = (refl, refl, (refl, refl, (refl, refl, tt)))
