use Rattle.std.proofs.Common.{refl, sym, subst}
use Rattle.p9_word.specs.declared.request.LockReq.TheVariants as ask
use Rattle.p9_word.specs.declared.trail.Reply.{Reply}
use Rattle.p9_lock_calls.specs.Serves.{ServesRequest}
use Rattle.p9_lock_calls.proofs.Counting.{no_raise, raised}
use Rattle.p9_lock_calls.proofs.refs.raise.Goals as goal

pub returns-then-not-is_ref-clause-serves : goal.returns-then-not-is_ref-clause-serves
returns-then-not-is_ref-clause-serves c = no_raise c.args.t c.args.k c.args.sched.now c.args.locks.now (λ h. let f = c.is_ref.ensures.1 h in cc)

pub returns-in-Some-clause-serves : goal.returns-in-Some-clause-serves
returns-in-Some-clause-serves c =
    let is = c.in-Some.ensures in
    subst (λ (y : Reply). ServesRequest c.args.t (ask.IncRef c.args.k) c.args.sched.now c.args.locks.now y c.args.sched.now c.incref.new.self) (sym c.number.ensures.is) (raised c.args.t c.args.k c.args.sched.now c.args.locks.now c.incref.new.self c.in-Some.value (c.if-not-is_ref.ensures.0 refl) is.value c.number.ensures.fits is.stands)
