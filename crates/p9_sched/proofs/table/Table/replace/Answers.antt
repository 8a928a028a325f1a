use Rattle.std.proofs.Common.{sym, ap, Some, refl, arith}
use Rattle.p9_manual.specs.State.{at_place, placed}
use Rattle.p9_sched.specs.Stored.{Stored}
use Rattle.p9_sched.proofs.Seen.{seen_length, seen_row, seen_set}
use Rattle.p9_sched.proofs.table.Table.replace.Goals as goal

pub index_mut-row-requires : goal.index_mut-row-requires
index_mut-row-requires c =
    let n = seen_length c.self.inside c.args.self.now c.self.view_is in
    omega (arith, c.self.inside.rows.ok.0)

pub returns-clause-was : goal.returns-clause-was
returns-clause-was c =
    rw (seen_row c.self.inside c.args.self.now c.args.t c.index_mut-row.result.now c.self.view_is c.requires c.index_mut-row.ensures.value) (ap Some (sym c.replace.ensures.value))

pub returns-clause-table : goal.returns-clause-table
returns-clause-table c =
    let at = c.index_mut-row.ensures.value in
    let made = c.replace.ensures.after in
    let e = seen_set c.self.inside c.args.self.now (at_place c.args.place) c.args.t c.index_mut-row.result.now (record c.index_mut-row.result.now { place = c.replace.new.dest }) c.self.view_is c.requires (λ u. rw (made, ← at) refl) in
    rw e (ap (λ (w : Stored). record { threads = placed c.args.t c.args.place c.args.self.now.threads; rooms = w.rooms }) c.self.view_is)
