use Rattle.p9_sched.specs.Lined.{queued_first}
use Rattle.p9_sched.proofs.Lists.{set_view}
use Rattle.p9_sched.proofs.lanes.Lanes.queue_first.Goals as goal

pub returns : goal.returns
returns c =
    set_view (queued_first c.args.t) c.self.inside.all.items c.args.self.now c.args.p c.index_mut-lane.result.now c.queue_first.new.self c.self.view_is c.requires.place.from c.requires.place.to c.index_mut-lane.ensures.value c.queue_first.ensures
