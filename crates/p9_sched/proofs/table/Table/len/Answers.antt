use Rattle.std.proofs.Common.{arith}
use Rattle.p9_sched.proofs.Seen.{seen_length}
use Rattle.p9_sched.proofs.table.Table.len.Goals as goal

pub returns : goal.returns
returns c =
    let n = seen_length c.self.inside c.args.self.now c.self.view_is in
    omega (arith, c.self.inside.rows.ok.0)
