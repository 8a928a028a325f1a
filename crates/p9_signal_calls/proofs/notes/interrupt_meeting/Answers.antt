use Rattle.p9_signal_calls.proofs.Posting.{met_made, wakes_none, wakes_one}
use Rattle.p9_signal_calls.proofs.notes.interrupt_meeting.Goals as goal

pub returns-in_default : goal.returns-in_default
returns-in_default c = wakes_none c.args.p c.args.sched.now c.args.alts.now c.args.locks.now c.requires (λ e. c.in_default.ensures.held e)

pub interrupt-requires : goal.interrupt-requires
interrupt-requires c = record { made = met_made c.args.p c.in-Some.t c.args.sched.now c.args.locks.now.waits (λ e. c.in-Some.ensures.held e) (λ e. c.in-Some.ensures.not_held e) }

pub returns : goal.returns
returns c =
    wakes_one c.args.p c.in-Some.t c.interrupt.result c.args.sched.now c.interrupt.new.sched c.args.alts.now c.interrupt.new.alts c.args.locks.now c.interrupt.new.locks c.requires (λ e. c.in-Some.ensures.held e) (λ e. c.in-Some.ensures.not_held e) c.interrupt.ensures.does
