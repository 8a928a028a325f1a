use Rattle.std.proofs.Common.{arith}
use Rattle.p9_manual.specs.ReadyEntries.{is_ready}
use Rattle.p9_alt.specs.Exchange.{others}
use Rattle.p9_alt.proofs.Numbers.{count_yes, count_no}
use Rattle.p9_alt.proofs.ready.ready_count.Goals as goal
use Rattle.p9_alt.proofs.ready.ready_count.Goals.{then-is_ready, else-is_ready}
use Rattle.std.proofs.Common.{sym, ◌∙◌}

pub loop-e-preserved : goal.loop-e-preserved
loop-e-preserved c =
    let p = is_ready c.args.chans.now.chans (others c.args.tid c.args.waits.now) in
    elim c.if-is_ready.branch [
      | then-is_ready w ↦
          let h = count_yes p c.args.entries.now c.loop-e.e-index c.e-item.result c.loop-e-test.true c.e-item.is (sym c.is_ready.ensures ∙ w.if-is_ready.true) in
          (omega arith, omega arith)
      | else-is_ready w ↦
          let h = count_no p c.args.entries.now c.loop-e.e-index c.e-item.result c.loop-e-test.true c.e-item.is (sym c.is_ready.ensures ∙ w.if-is_ready.false) in
          (omega arith, omega arith)
    ]
