use Rattle.std.proofs.Common.{false}
use Rattle.p9_sched.proofs.Sound.{held_sound}
use Rattle.p9_sched.proofs.Views.{holding_view}
use Rattle.p9_sched.proofs.sched.Sched.release.Goals as goal

pub invariant_of-self : goal.invariant_of-self
invariant_of-self c =
    rw c.set_held.ensures (held_sound c.self.inside.table.threads c.self.inside.lanes c.self.inside.table.rooms.thread c.args.p false c.requires.from c.self.invariant)

pub returns : goal.returns
returns c = rw c.set_held.ensures (holding_view c.self.inside c.args.self.now c.args.p false c.self.view_is)
