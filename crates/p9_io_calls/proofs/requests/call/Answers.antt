use Rattle.p9_manual.specs.Ioprocs.{io_call}
use Rattle.p9_io_calls.proofs.requests.call.Goals as goal

pub returns-in-IoRun-clause-served : goal.returns-in-IoRun-clause-served
unfolding io_call
returns-in-IoRun-clause-served c = λ setup s h. rw c.in-IoRun.is (c.post.ensures.served setup s h)

pub returns-in-IoInterrupt-clause-served : goal.returns-in-IoInterrupt-clause-served
unfolding io_call
returns-in-IoInterrupt-clause-served c = λ setup s h. rw c.in-IoInterrupt.is (c.interrupt.ensures.served setup s h)
