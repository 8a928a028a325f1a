use Rattle.std.proofs.Common.{arith, ◌≤◌}
use Rattle.p9_alt.specs.Exchange.{zeros_for}
use Rattle.p9_alt.proofs.Numbers.{bounded_more, bounded_all}
use Rattle.p9_alt.proofs.ready.most_zeros.Goals as goal
use Rattle.p9_alt.proofs.ready.most_zeros.Goals.{then-most-zeros, else-most-zeros}

pub loop-e-preserved : goal.loop-e-preserved
loop-e-preserved c = λ waits.
    let f = zeros_for c.args.chans.now.chans waits in
    let needs = c.zeros_for-zeros.ensures waits in
    let more : c.loop-e.most ≤ c.if-most-zeros.most = elim c.if-most-zeros.branch [ then-most-zeros w ↦ omega arith | else-most-zeros w ↦ omega arith ] in
    let this : f c.e-item.result ≤ c.if-most-zeros.most = elim c.if-most-zeros.branch [ then-most-zeros w ↦ omega arith | else-most-zeros w ↦ omega arith ] in
    bounded_more f c.args.entries.now c.loop-e.e-index c.loop-e.most c.if-most-zeros.most c.e-item.result c.loop-e-test.true c.e-item.is more this (c.loop-e.invariant waits)

pub returns : goal.returns
returns c = λ waits.
    bounded_all (zeros_for c.args.chans.now.chans waits) c.args.entries.now c.loop-e.e-index c.loop-e.most c.loop-e-test.false (c.loop-e.invariant waits)
