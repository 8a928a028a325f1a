use Rattle.std.proofs.Common.{sym, ◌∙◌, arith}
use Rattle.p9_lock.proofs.Sleepers.{wake_step, wake_end, sleepers_few}
use Rattle.p9_lock.proofs.waits.wake_all.Goals as goal

pub overflow_add-count : goal.overflow_add-count
overflow_add-count c =
    let step = wake_step c.args.r c.args.q c.loop-count.waits.items c.wake.new.waits.items (sym c.loop-count-test.ensures.woken) c.wake.ensures.waits in
    let few = sleepers_few c.args.r c.args.waits.now.items in
    let inv = c.loop-count.invariant.count in
    let all = c.args.waits.now.ok in
    let h = c.requires in
    omega (arith, step.1)

pub loop-count-smaller : goal.loop-count-smaller
loop-count-smaller c =
    let step = wake_step c.args.r c.args.q c.loop-count.waits.items c.wake.new.waits.items (sym c.loop-count-test.ensures.woken) c.wake.ensures.waits in
    omega (arith, step.1)

pub loop-count-preserved : goal.loop-count-preserved
loop-count-preserved c =
    let step = wake_step c.args.r c.args.q c.loop-count.waits.items c.wake.new.waits.items (sym c.loop-count-test.ensures.woken) c.wake.ensures.waits in
    record {
      waits = step.0 ∙ c.loop-count.invariant.waits;
      count = (let inv = c.loop-count.invariant.count in omega (arith, step.1));
      len = c.wake.ensures.len ∙ c.loop-count.invariant.len;
      capacity = c.wake.ensures.capacity ∙ c.loop-count.invariant.capacity;
    }

pub returns-clause-count : goal.returns-clause-count
returns-clause-count c =
    let step = wake_end c.args.r c.args.q c.loop-count.waits.items c.wake.new.waits.items (sym c.loop-count-test.ensures.woken) c.wake.ensures.waits in
    let inv = c.loop-count.invariant.count in
    omega (arith, step.1)

pub returns-clause-waits : goal.returns-clause-waits
returns-clause-waits c =
    let step = wake_end c.args.r c.args.q c.loop-count.waits.items c.wake.new.waits.items (sym c.loop-count-test.ensures.woken) c.wake.ensures.waits in
    step.0 ∙ c.loop-count.invariant.waits
