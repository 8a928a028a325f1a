use Rattle.p9_sched.specs.Lined.{holding}
use Rattle.p9_sched.proofs.Lists.{set_view}
use Rattle.p9_sched.proofs.lanes.Lanes.set_held.Goals as goal

pub returns : goal.returns
returns c =
    set_view (holding c.args.held) c.self.inside.all.items c.args.self.now c.args.p c.index_mut-lane.result.now c.set_held.new.self c.self.view_is c.requires.from c.requires.to c.index_mut-lane.ensures.value c.set_held.ensures
