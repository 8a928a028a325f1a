use Rattle.std.proofs.Common.{refl, ap}
use Rattle.p9_manual.specs.Interrupt.{with_mark}
use Rattle.p9_sched.specs.Marks.{with_mark_of}
use Rattle.p9_sched.proofs.Lists.{item_at}
use Rattle.p9_sched.proofs.Sound.{valued}
use Rattle.p9_sched.proofs.Views.{made_id}
use Rattle.p9_sched.specs.Schedule.{Schedule}
use Rattle.p9_sched.proofs.Tracks.{tracks_marked}
use Rattle.p9_sched.proofs.sched.Sched.mark.Goals as goal

pub invariant_of-self : goal.invariant_of-self
invariant_of-self c =
    let at = item_at c.self.inside.table.threads c.args.t (made_id c.self.inside c.args.self.now c.args.t c.self.view_is c.requires) in
    rw c.mark.ensures (valued c.self.inside.table.threads c.self.inside.lanes c.self.inside.table.rooms.thread c.args.t at.0 with_mark at.1 refl (λ q. record { lives = refl; runs = refl; ready = refl }) c.self.invariant)

pub returns-clause-stands : goal.returns-clause-stands
returns-clause-stands c lives =
    tracks_marked c.args.t c.args.self.now _ (rw c.mark.ensures (ap (λ (v : Schedule). with_mark_of c.args.t v) c.self.view_is)) lives
