use Rattle.std.proofs.Common.{List, sym, subst, arith}
use Rattle.std.proofs.lemmas.List.{take_all}
use Rattle.p9_alt.specs.declared.offer.Wake.{Wake}
use Rattle.p9_sched.specs.Stands.{Tracks}
use Rattle.p9_chan_calls.specs.Wakes.{IsFailure, pairs_of, all_readied}
use Rattle.p9_chan_calls.proofs.Waken.{one_more}
use Rattle.p9_chan_calls.proofs.wakes.wake_all.Goals as goal

pub copy_failure-requires : goal.copy_failure-requires
copy_failure-requires c =
    subst (λ (w : Wake). IsFailure w.answer) (sym c.wake-item.is) (c.requires.failed c.loop-wake.wake-index c.wake-item.result (omega arith))

pub loop-wake-preserved : goal.loop-wake-preserved
loop-wake-preserved c =
    one_more c.args.sched.now c.loop-wake.sched c.ready.new.self c.args.wakes.now c.loop-wake.wake-index c.wake-item.result c.copy_failure.result (omega arith) (sym c.wake-item.is) c.copy_failure.ensures c.ready.ensures.ready c.ready.ensures.stands c.loop-wake.invariant

pub returns : goal.returns
returns c =
    subst (λ (ws : List Wake). Tracks (all_readied (pairs_of ws)) c.args.sched.now c.loop-wake.sched) (take_all c.loop-wake.wake-index c.args.wakes.now (omega arith)) c.loop-wake.invariant.stands
