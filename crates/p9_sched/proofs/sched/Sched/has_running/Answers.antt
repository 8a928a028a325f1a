use Rattle.std.proofs.Common.{ap, ◌∙◌}
use Rattle.std.specs.List.{list_any}
use Rattle.p9_manual.specs.Places.{runs}
use Rattle.p9_sched.specs.Schedule.{Schedule}
use Rattle.p9_sched.proofs.Anywhere.{any_runs}
use Rattle.p9_sched.proofs.sched.Sched.has_running.Goals as goal

pub returns : goal.returns
returns c =
    c.any_running.ensures ∙ (any_runs c.self.inside.table.threads c.self.inside.lanes c.self.inside.table.rooms.thread c.self.invariant ∙ ap (λ (v : Schedule). list_any runs v.threads) c.self.view_is)
