use Rattle.p9_sched.specs.Lined.{started}
use Rattle.p9_sched.proofs.Lists.{set_view}
use Rattle.p9_sched.proofs.lanes.Lanes.start.Goals as goal

pub returns-clause-lanes : goal.returns-clause-lanes
returns-clause-lanes c =
    set_view (started c.start.result) c.self.inside.all.items c.args.self.now c.args.p c.index_mut-lane.result.now c.start.new.self c.self.view_is c.requires.from c.requires.to c.index_mut-lane.ensures.value c.start.ensures.lane
