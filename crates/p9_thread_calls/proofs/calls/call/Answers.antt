use Rattle.p9_thread_calls.proofs.Callers.{serves_call}
use Rattle.p9_thread_calls.proofs.calls.call.Goals as goal

pub returns-clause-serves : goal.returns-clause-serves
returns-clause-serves c = serves_call c.args.setup.now c.args.t c.args.request c.args.sched.now _ _ c.requires.runs c.asked.ensures.serves
