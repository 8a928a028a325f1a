use Rattle.p9_sched.specs.Lined.{worded}
use Rattle.p9_sched.proofs.Lists.{set_view}
use Rattle.p9_sched.proofs.lanes.Lanes.set_word.Goals as goal

pub returns : goal.returns
returns c =
    set_view (worded c.args.word) c.self.inside.all.items c.args.self.now c.args.p c.index_mut-lane.result.now c.set_word.new.self c.self.view_is c.requires.from c.requires.to c.index_mut-lane.ensures.value c.set_word.ensures
