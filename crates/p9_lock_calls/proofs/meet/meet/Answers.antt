use Rattle.std.proofs.Common.{sym, ◌∙◌}
use Rattle.p9_word.specs.declared.request.LockReq.TheVariants as ask
use Rattle.p9_word.specs.declared.request.Request.TheVariants.{Lock as LockRequest}
use Rattle.p9_lock_calls.proofs.Callers.{idle}
use Rattle.p9_lock_calls.proofs.Meeting.{met, met_none, partner_waits, tag_holds}
use Rattle.p9_lock_calls.proofs.meet.meet.Goals as goal

pub meet-requires-clause-idle : goal.meet-requires-clause-idle
meet-requires-clause-idle c = idle c.args.sched.now c.args.locks.now c.args.t c.requires.parts c.requires.runs

pub ready_holder-requires : goal.ready_holder-requires
ready_holder-requires c = partner_waits c.args.tag c.args.sched.now c.args.locks.now _ _ (sym c.meet.ensures.met ∙ c.in-Met.is) c.requires.parts

pub returns-in-Met-clause-serves : goal.returns-in-Met-clause-serves
returns-in-Met-clause-serves c =
    met c.args.t c.args.tag c.args.value c.args.sched.now c.ready_holder.new.self c.args.locks.now c.meet.new.self _ _ (sym c.meet.ensures.met ∙ c.in-Met.is) c.meet.ensures.after c.ready_holder.ensures.stands

pub returns-in-Waits-clause-serves : goal.returns-in-Waits-clause-serves
returns-in-Waits-clause-serves c =
    met_none c.args.t c.args.tag c.args.value c.args.sched.now c.wait_holding.new.self c.args.locks.now c.meet.new.self (sym c.meet.ensures.met ∙ c.in-Waits.is) c.meet.ensures.after (c.wait_holding.ensures.stands (LockRequest (ask.Rendezvous c.args.tag c.args.value)) (tag_holds c.args.tag c.args.value))
