use Rattle.std.proofs.Common.{sym, ◌∙◌}
use Rattle.p9_manual.specs.ReadyEntries.{is_ready}
use Rattle.p9_alt.proofs.Numbers.{ready_step, ready_skip}
use Rattle.p9_alt.proofs.ready.ready_at.Goals as goal
use Rattle.p9_alt.proofs.ready.ready_at.Goals.{then-is_idle_ready+else-left-eq0, else-is_idle_ready}

pub loop-i-preserved : goal.loop-i-preserved
loop-i-preserved c =
    let p = is_ready c.args.chans.now.chans c.args.waits.now in
    elim c.if-is_idle_ready.branch [
      | then-is_idle_ready+else-left-eq0 w ↦
          let h = ready_step p c.args.entries.now c.loop-i.i c.loop-i.left c.index-entries-i.result c.loop-i-test.true c.index-entries-i.is (sym c.is_idle_ready.ensures ∙ w.if-is_idle_ready.true) w.if-left-eq0.false c.loop-i.invariant.within in
          rw w.left-is (record { number = c.loop-i.invariant.number ∙ h.0; within = h.1 })
      | else-is_idle_ready w ↦
          let h = ready_skip p c.args.entries.now c.loop-i.i c.loop-i.left c.index-entries-i.result c.loop-i-test.true c.index-entries-i.is (sym c.is_idle_ready.ensures ∙ w.if-is_idle_ready.false) c.loop-i.invariant.within in
          rw w.left-is (record { number = c.loop-i.invariant.number ∙ h.0; within = h.1 })
    ]
