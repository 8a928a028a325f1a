use Rattle.p9_sched.specs.Lined.{joined}
use Rattle.p9_sched.proofs.Lists.{set_view}
use Rattle.p9_sched.proofs.lanes.Lanes.join.Goals as goal

pub returns : goal.returns
returns c =
    set_view (joined c.args.t) c.self.inside.all.items c.args.self.now c.args.p c.index_mut-lane.result.now c.join.new.self c.self.view_is c.requires.place.from c.requires.place.to c.index_mut-lane.ensures.value c.join.ensures
