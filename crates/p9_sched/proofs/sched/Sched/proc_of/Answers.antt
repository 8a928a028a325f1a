use Rattle.std.proofs.Common.{subst}
use Rattle.p9_manual.specs.State.{by_id}
use Rattle.p9_sched.specs.Schedule.{IsPlace}
use Rattle.p9_sched.proofs.Lists.{item_at}
use Rattle.p9_sched.proofs.Views.{made_id, row_proc, seen_proc, seen_place}
use Rattle.p9_sched.proofs.sched.Sched.proc_of.Goals as goal

pub returns-clause-place : goal.returns-clause-place
returns-clause-place c =
    let at = item_at c.self.inside.table.threads c.args.t (made_id c.self.inside c.args.self.now c.args.t c.self.view_is c.requires) in
    let mine = row_proc (by_id c.self.inside.table.threads c.args.t) at.0 c.row.result.now at.1 c.row.ensures in
    subst (λ p. IsPlace p c.args.self.now) (seen_proc c.self.inside c.args.self.now c.args.t c.row.result.now.proc_no at.0 c.self.view_is at.1 mine) (seen_place c.self.inside c.args.self.now c.args.t at.0 c.self.view_is at.1 c.self.invariant)
