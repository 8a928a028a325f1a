use Rattle.p9_sched.specs.Lined.{cleared}
use Rattle.p9_sched.proofs.Lists.{set_view}
use Rattle.p9_sched.proofs.lanes.Lanes.clear_one.Goals as goal

pub returns : goal.returns
returns c =
    set_view cleared c.self.inside.all.items c.args.self.now c.args.p c.index_mut-lane.result.now c.clear.new.self c.self.view_is c.requires.from c.requires.to c.index_mut-lane.ensures.value c.clear.ensures
