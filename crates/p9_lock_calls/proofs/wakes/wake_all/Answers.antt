use Rattle.std.proofs.Common.{List, ℕ, get_or, subst, arith, inr}
use Rattle.std.proofs.lemmas.List.{take_all}
use Rattle.p9_manual.specs.LockCalls.{all_granted}
use Rattle.p9_sched.specs.Stands.{SchedFor}
use Rattle.p9_lock_calls.proofs.Waking.{next_waits, one_more, get_same}
use Rattle.p9_lock_calls.proofs.wakes.wake_all.Goals as goal

pub ready-requires : goal.ready-requires
ready-requires c = inr (next_waits c.args.sched.now c.loop-u.sched c.args.woken.now c.loop-u.u-index (get_or c.args.woken.now c.loop-u.u-index 0) (omega arith) (get_same c.args.woken.now c.loop-u.u-index 0 (omega arith)) c.loop-u.invariant)

pub loop-u-preserved : goal.loop-u-preserved
loop-u-preserved c =
    let x = get_or c.args.woken.now c.loop-u.u-index 0 in
    let same = get_same c.args.woken.now c.loop-u.u-index 0 (omega arith) in
    let waits = next_waits c.args.sched.now c.loop-u.sched c.args.woken.now c.loop-u.u-index x (omega arith) same c.loop-u.invariant in
    one_more c.args.sched.now c.loop-u.sched c.ready.new.self c.args.woken.now c.loop-u.u-index x (omega arith) same c.ready.ensures.ready (c.ready.ensures.wakes waits) c.loop-u.invariant

pub returns-clause-woken : goal.returns-clause-woken
returns-clause-woken c = λ places s beside h. subst (λ (ts : List ℕ). SchedFor places c.loop-u.sched (all_granted ts s)) (take_all c.loop-u.u-index c.args.woken.now (omega arith)) (c.loop-u.invariant.stands places s beside h)

pub returns-clause-runs : goal.returns-clause-runs
returns-clause-runs c = c.loop-u.invariant.runs
