use Rattle.std.proofs.Common.{refl}
use Rattle.p9_manual.specs.Step.{step, outcome, called, served}
use Rattle.p9_manual.specs.Threads.{thread_call, asked}
use Rattle.p9_manual.specs.Ioprocs.{io_call, io_event}
use Rattle.p9_manual.specs.Next.{next_event}
use Rattle.p9_laws.proofs.examples.interrupting_a_call_is_legal.Goals as goal

pub returns : goal.returns
unfolding step outcome called served thread_call asked io_call io_event next_event
returns c = (refl, refl, (refl, refl, (refl, refl, (refl, refl, (refl, refl, (refl, refl, (refl, refl, (refl, refl, (refl, refl, (refl, refl, (refl, refl, tt)))))))))))
