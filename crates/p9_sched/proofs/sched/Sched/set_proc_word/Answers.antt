use Rattle.p9_sched.proofs.Sound.{reworded}
use Rattle.p9_sched.proofs.Views.{worded_view}
use Rattle.p9_sched.proofs.Tracks.{tracks_worded}
use Rattle.p9_sched.proofs.sched.Sched.set_proc_word.Goals as goal

pub invariant_of-self : goal.invariant_of-self
invariant_of-self c =
    rw c.set_word.ensures (reworded c.self.inside.table.threads c.self.inside.lanes c.self.inside.table.rooms.thread c.args.p c.args.word c.requires.from c.self.invariant)

pub returns-clause-word : goal.returns-clause-word
returns-clause-word c = rw c.set_word.ensures (worded_view c.self.inside c.args.self.now c.args.p c.args.word c.self.view_is)

pub returns-clause-stands : goal.returns-clause-stands
returns-clause-stands c = tracks_worded c.args.p c.args.word c.args.self.now _ (returns-clause-word c)
