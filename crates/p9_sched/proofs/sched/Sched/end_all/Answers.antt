use Rattle.p9_sched.proofs.Sound.{ended_all}
use Rattle.p9_sched.proofs.Views.{ended_view}
use Rattle.p9_sched.proofs.Tracks.{tracks_all_ended}
use Rattle.p9_sched.proofs.sched.Sched.end_all.Goals as goal

pub invariant_of-self : goal.invariant_of-self
invariant_of-self c =
    rw (c.end_all.ensures, c.clear.ensures) (ended_all c.self.inside.table.threads c.self.inside.lanes c.self.inside.table.rooms.thread c.self.invariant)

pub returns-clause-ended : goal.returns-clause-ended
returns-clause-ended c = rw (c.end_all.ensures, c.clear.ensures) (ended_view c.self.inside c.args.self.now c.self.view_is)

pub returns-clause-stands : goal.returns-clause-stands
returns-clause-stands c = tracks_all_ended c.args.self.now _ (returns-clause-ended c)
