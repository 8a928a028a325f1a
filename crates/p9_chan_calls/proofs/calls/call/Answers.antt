use Rattle.p9_manual.specs.Chans.{chan_call}
use Rattle.p9_chan_calls.proofs.calls.call.Goals as goal

pub returns-in-ChanCreate-clause-serves : goal.returns-in-ChanCreate-clause-serves
unfolding chan_call
returns-in-ChanCreate-clause-serves c = λ setup s h. rw c.in-ChanCreate.is (c.create.ensures.serves setup c.args.sched.now c.args.generator.now s h.parts)

pub returns-in-ChanFree-clause-serves : goal.returns-in-ChanFree-clause-serves
unfolding chan_call
returns-in-ChanFree-clause-serves c = λ setup s h. rw c.in-ChanFree.is (c.free.ensures.serves setup c.args.sched.now c.args.generator.now s h.parts)

pub returns-in-ChanClose-clause-serves : goal.returns-in-ChanClose-clause-serves
unfolding chan_call
returns-in-ChanClose-clause-serves c = λ setup s h. rw c.in-ChanClose.is (c.close.ensures.serves setup c.args.at c.args.generator.now s h)

pub returns-in-ChanClosing-clause-serves : goal.returns-in-ChanClosing-clause-serves
unfolding chan_call
returns-in-ChanClosing-clause-serves c = λ setup s h. rw c.in-ChanClosing.is (c.closing.ensures.serves setup c.args.sched.now c.args.generator.now s h.parts)
