use Rattle.std.proofs.Common.{◌∙◌, add-one, sym, arith, refl}
use Rattle.p9_sched.specs.Stored.{row_ended}
use Rattle.p9_sched.proofs.Lists.{from_more, from_end}
use Rattle.p9_sched.proofs.rows.end_each.Goals as goal

pub loop-row-preserved : goal.loop-row-preserved
loop-row-preserved c =
    rw add-one (from_more row_ended c.loop-row.rows c.loop-row.row-index _ c.row-item.result (omega arith) refl ∙ c.loop-row.invariant)

pub returns : goal.returns
returns c =
    sym (from_end row_ended c.loop-row.row-index c.loop-row.rows (omega arith)) ∙ c.loop-row.invariant
