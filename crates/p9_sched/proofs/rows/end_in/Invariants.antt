use Rattle.std.proofs.Common.{◌≡◌, map}
use Rattle.p9_sched.specs.Stored.{row_ended_in}
use Rattle.p9_sched.proofs.Lists.{from}
use Rattle.p9_sched.proofs.rows.end_in.Given as goal

abbrev pub invariant-loop-row : goal.invariant-loop-row
invariant-loop-row l = from (row_ended_in l.fn.p) l.row-index l.rows ≡ map (row_ended_in l.fn.p) l.fn.rows
