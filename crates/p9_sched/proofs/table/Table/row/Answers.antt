use Rattle.std.proofs.Common.{refl, arith}
use Rattle.p9_sched.proofs.Seen.{seen_length, seen_row}
use Rattle.p9_sched.proofs.table.Table.row.Goals as goal

pub index-requires : goal.index-requires
index-requires c =
    let n = seen_length c.self.inside c.args.self.now c.self.view_is in
    omega (arith, c.self.inside.rows.ok.0)

pub returns : goal.returns
returns c =
    rw (seen_row c.self.inside c.args.self.now c.args.t c.index.result.now c.self.view_is c.requires c.index.ensures) refl
