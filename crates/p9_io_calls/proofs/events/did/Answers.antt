use Rattle.p9_manual.specs.Ioprocs.{io_event}
use Rattle.p9_manual.specs.State.{by_id}
use Rattle.p9_io.proofs.Ready.{copy_at}
use Rattle.p9_io_calls.proofs.Answered.{told, serves_noted}
use Rattle.p9_io_calls.proofs.Calling.{caller_waits}
use Rattle.p9_io_calls.proofs.events.did.Goals as goal

pub finish-requires : goal.finish-requires
finish-requires c = copy_at c.args.io.now c.args.k c.requires.2.ioprocs.copies

pub answer_caller-requires : goal.answer_caller-requires
answer_caller-requires c =
    let s = c.requires.1 in
    let stands = c.requires.2 in
    let h = told c.args.effect.now c.in-Some.finished (by_id s.ioprocs c.args.k) (rw stands.ioprocs.ioprocs c.in-Some.ensures.finished) in
    rw (← stands.threads.threads) (caller_waits c.requires.0 s c.args.k c.in-Some.finished.caller h.call stands.sound h.is)

pub returns-in-Some-clause-served : goal.returns-in-Some-clause-served
unfolding io_event
returns-in-Some-clause-served c = λ setup s h.
    serves_noted setup s c.args.k c.args.effect.now c.in-Some.finished c.args.sched.now c.answer_caller.new.sched c.args.io.now c.finish.new.self h c.in-Some.ensures.finished c.answer_caller.ensures (c.in-Some.ensures.stands s h.ioprocs)
