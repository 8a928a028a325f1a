use Rattle.std.proofs.Common.{inr}
use Rattle.p9_io_calls.proofs.Interrupted.{waits_there, serves_interrupted}
use Rattle.p9_io_calls.proofs.requests.interrupt.Goals as goal

pub ready-requires : goal.ready-requires
ready-requires c =
    let s = c.requires.1 in
    let stands = c.requires.2 in
    inr (rw (← stands.threads.threads) (waits_there c.requires.0 s c.args.k c.in-Some.t stands.sound (rw stands.ioprocs.ioprocs c.in-Some.ensures.thread)))

pub returns-in-Some-clause-served : goal.returns-in-Some-clause-served
returns-in-Some-clause-served c = λ setup s h.
    serves_interrupted setup s c.args.k c.in-Some.t c.args.sched.now c.ready.new.self c.args.io.now c.interrupt.new.self h c.in-Some.ensures.thread c.ready.ensures.stands (c.in-Some.ensures.stands s h.ioprocs)
