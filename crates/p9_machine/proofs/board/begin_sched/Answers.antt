use Rattle.std.proofs.Common.{take}
use Rattle.p9_machine.proofs.Beginning.{none_stand, one_more, place_of_first, few_first, first_state, first_stand}
use Rattle.p9_machine.proofs.board.begin_sched.Goals as goal

pub loop-thread-init : goal.loop-thread-init
loop-thread-init c = none_stand c.args.setup.now c.in_ok-sched.sched c.in_ok-sched.ensures

pub add_first-requires-clause-place : goal.add_first-requires-clause-place
add_first-requires-clause-place c =
    place_of_first c.args.setup.now c.as_slice-thread-items.result.now c.loop-thread.thread-index (take c.loop-thread.thread-index c.as_slice-thread-items.result.now) c.loop-thread.sched c.thread-item.result c.as_slice-thread-items.ensures c.loop-thread-test.true c.thread-item.is c.requires c.loop-thread.invariant

pub add_first-requires-clause-few : goal.add_first-requires-clause-few
add_first-requires-clause-few c =
    few_first c.args.setup.now c.as_slice-thread-items.result.now c.loop-thread.thread-index c.loop-thread.sched c.as_slice-thread-items.ensures c.loop-thread-test.true c.requires c.loop-thread.invariant

pub loop-thread-preserved : goal.loop-thread-preserved
loop-thread-preserved c =
    let ys = take c.loop-thread.thread-index c.as_slice-thread-items.result.now in
    let s = first_state c.args.setup.now ys in
    one_more c.args.setup.now c.as_slice-thread-items.result.now c.loop-thread.thread-index c.thread-item.result c.add_first.new.sched c.loop-thread-test.true c.thread-item.is
    (c.in_ok-add_first.ensures c.args.setup.now.places s (first_stand c.args.setup.now ys) c.loop-thread.invariant)
