use Rattle.std.proofs.Common.{ap, refl, ◌∙◌}
use Rattle.std.specs.List.{list_any}
use Rattle.p9_sched.specs.Kept.{shown}
use Rattle.p9_sched.specs.Schedule.{Schedule}
use Rattle.p9_sched.specs.Turns.{can_run}
use Rattle.p9_sched.proofs.Anywhere.{any_ready}
use Rattle.p9_sched.proofs.sched.Sched.has_ready.Goals as goal

pub returns : goal.returns
returns c =
    c.any_ready.ensures ∙ (any_ready (shown c.self.inside) c.self.inside.table.threads c.self.inside.lanes c.self.inside.table.rooms.thread refl c.self.invariant ∙ ap (λ (v : Schedule). list_any (can_run v) v.threads) c.self.view_is)
