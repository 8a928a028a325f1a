use Rattle.std.proofs.Common.{refl, ap, false}
use Rattle.p9_manual.specs.Threads.{with_name}
use Rattle.p9_sched.proofs.Lists.{item_at}
use Rattle.p9_sched.proofs.Sound.{valued}
use Rattle.p9_sched.proofs.Views.{made_id}
use Rattle.p9_sched.specs.Schedule.{Schedule, with_name_of}
use Rattle.p9_sched.proofs.Tracks.{tracks_changed}
use Rattle.p9_sched.proofs.sched.Sched.set_name.Goals as goal

pub invariant_of-self : goal.invariant_of-self
invariant_of-self c =
    let at = item_at c.self.inside.table.threads c.args.t (made_id c.self.inside c.args.self.now c.args.t c.self.view_is c.requires.made) in
    rw c.set_name.ensures (valued c.self.inside.table.threads c.self.inside.lanes c.self.inside.table.rooms.thread c.args.t at.0 (with_name c.args.name) at.1 refl (λ q. record { lives = refl; runs = refl; ready = refl }) c.self.invariant)

pub returns-clause-stands : goal.returns-clause-stands
returns-clause-stands c =
    tracks_changed (with_name c.args.name) (record { same = λ x. refl }) c.args.t (record c.args.self.now.rooms { name = false }) c.args.self.now _ (rw c.set_name.ensures (ap (λ (v : Schedule). with_name_of c.args.t c.args.name v) c.self.view_is))
