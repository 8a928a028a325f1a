use Rattle.p9_sched.proofs.Sound.{ended_proc}
use Rattle.p9_sched.proofs.Views.{place_id, proc_ended_view}
use Rattle.p9_sched.proofs.Tracks.{tracks_proc_ended}
use Rattle.p9_sched.proofs.sched.Sched.end_proc.Goals as goal

pub clear_one-requires : goal.clear_one-requires
clear_one-requires c = place_id c.self.inside c.args.self.now c.args.p c.self.view_is c.requires

pub invariant_of-self : goal.invariant_of-self
invariant_of-self c =
    rw (c.end_proc.ensures, c.clear_one.ensures) (ended_proc c.self.inside.table.threads c.self.inside.lanes c.self.inside.table.rooms.thread c.args.p c.requires.from c.self.invariant)

pub returns-clause-ended : goal.returns-clause-ended
returns-clause-ended c = rw (c.end_proc.ensures, c.clear_one.ensures) (proc_ended_view c.self.inside c.args.self.now c.args.p c.self.view_is)

pub returns-clause-stands : goal.returns-clause-stands
returns-clause-stands c = tracks_proc_ended c.args.p c.requires.from c.args.self.now _ (returns-clause-ended c)
