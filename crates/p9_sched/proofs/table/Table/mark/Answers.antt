use Rattle.std.proofs.Common.{ap, true, refl, arith, ◌-◌}
use Rattle.p9_manual.specs.Interrupt.{with_mark}
use Rattle.p9_manual.specs.State.{changed}
use Rattle.p9_sched.specs.Stored.{Stored}
use Rattle.p9_sched.proofs.Seen.{seen_length, seen_set}
use Rattle.p9_sched.proofs.table.Table.mark.Goals as goal

pub index_mut-row-requires : goal.index_mut-row-requires
index_mut-row-requires c =
    let n = seen_length c.self.inside c.args.self.now c.self.view_is in
    omega (arith, c.self.inside.rows.ok.0)

pub returns : goal.returns
returns c =
    let at = c.index_mut-row.ensures.value in
    let e = seen_set c.self.inside c.args.self.now with_mark c.args.t c.index_mut-row.result.now (record c.index_mut-row.result.now { marked = true }) c.self.view_is c.requires (λ u. rw (← at) refl) in
    rw e (ap (λ (w : Stored). record { threads = changed with_mark c.args.self.now.threads (c.args.t - 1); rooms = w.rooms }) c.self.view_is)
