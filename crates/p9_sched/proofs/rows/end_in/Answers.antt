use Rattle.std.proofs.Common.{◌∙◌, add-one, sym, arith}
use Rattle.p9_sched.specs.Stored.{row_ended_in}
use Rattle.p9_sched.proofs.Lists.{from_more, from_end}
use Rattle.p9_sched.proofs.rows.end_in.Goals as goal

pub loop-row-preserved : goal.loop-row-preserved
loop-row-preserved c =
    rw add-one (from_more (row_ended_in c.args.p) c.loop-row.rows c.loop-row.row-index c.end_if_in.new.row c.row-item.result (omega arith) c.end_if_in.ensures ∙ c.loop-row.invariant)

pub returns : goal.returns
returns c =
    sym (from_end (row_ended_in c.args.p) c.loop-row.row-index c.loop-row.rows (omega arith)) ∙ c.loop-row.invariant
