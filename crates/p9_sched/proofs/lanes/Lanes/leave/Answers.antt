use Rattle.p9_sched.specs.Lined.{left}
use Rattle.p9_sched.proofs.Lists.{set_view}
use Rattle.p9_sched.proofs.lanes.Lanes.leave.Goals as goal

pub returns : goal.returns
returns c =
    set_view (left c.args.t) c.self.inside.all.items c.args.self.now c.args.p c.index_mut-lane.result.now c.leave.new.self c.self.view_is c.requires.place.from c.requires.place.to c.index_mut-lane.ensures.value c.leave.ensures
