use Rattle.std.proofs.Common.{ap, ◌∙◌}
use Rattle.std.specs.List.{list_any}
use Rattle.p9_manual.specs.Places.{lives}
use Rattle.p9_sched.specs.Schedule.{Schedule}
use Rattle.p9_sched.proofs.Anywhere.{any_lives}
use Rattle.p9_sched.proofs.sched.Sched.has_living.Goals as goal

pub returns : goal.returns
returns c =
    c.any_living.ensures ∙ (any_lives c.self.inside.table.threads c.self.inside.lanes c.self.inside.table.rooms.thread c.self.invariant ∙ ap (λ (v : Schedule). list_any lives v.threads) c.self.view_is)
