use Rattle.std.proofs.Common.{◌≡◌, false, true, MatchOption, subst}
use Rattle.std.specs.List.{list_any}
use Rattle.p9_manual.specs.Places.{runs_in, runs_there}
use Rattle.p9_manual.specs.State.{by_id}
use Rattle.p9_sched.specs.Schedule.{Schedule}
use Rattle.p9_sched.proofs.Lists.{item_at}
use Rattle.p9_sched.proofs.Nexts.{runner}
use Rattle.p9_sched.proofs.Views.{place_id}
use Rattle.p9_sched.proofs.sched.Sched.running.Goals as goal

pub returns : goal.returns
returns c =
    let at = item_at c.self.inside.lanes c.args.p (place_id c.self.inside c.args.self.now c.args.p c.self.view_is c.requires) in
    subst (λ (v : Schedule). MatchOption c.running.result (list_any (runs_in c.args.p) v.threads ≡ false) (λ t. runs_there c.args.p (by_id v.threads t) ≡ true)) c.self.view_is (runner c.args.p c.self.inside.table.threads c.self.inside.lanes c.self.inside.table.rooms.thread at.0 c.running.result at.1 c.running.ensures c.self.invariant)
