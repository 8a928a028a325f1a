use Rattle.std.proofs.Common.{◌≡◌, ◌∙◌, length, inr, false, ap, sym, arith}
use Rattle.p9_manual.specs.State.{by_id}
use Rattle.p9_sched.specs.Holding.{with_held}
use Rattle.p9_sched.specs.Schedule.{Schedule, proc_of}
use Rattle.p9_sched.proofs.Lists.{length-changed}
use Rattle.p9_sched.proofs.Tracks.{tracks_holder}
use Rattle.p9_sched.proofs.Views.{away_here, row_proc, seen_proc}
use Rattle.p9_sched.proofs.sched.Sched.ready_holder.Goals as goal

pub release-requires : goal.release-requires
release-requires c =
    let a = away_here c.self.inside c.args.self.now c.args.t c.self.view_is (inr c.requires) in
    let mine = row_proc (by_id c.self.inside.table.threads c.args.t) a.thread c.row.result.now a.there c.row.ensures in
    let pid = seen_proc c.self.inside c.args.self.now c.args.t c.row.result.now.proc_no a.thread c.self.view_is a.there mine in
    let place = c.ready_first.ensures.place in
    let from = place.from in
    let to = place.to in
    let long : length c.ready_first.new.self.lines ≡ length c.args.self.now.lines = ap (λ (v : Schedule). length v.lines) c.ready_first.ensures.ready ∙ length-changed _ c.args.self.now.lines _ in
    record { from = omega arith; to = omega arith }

pub returns-clause-ready : goal.returns-clause-ready
returns-clause-ready c =
    let a = away_here c.self.inside c.args.self.now c.args.t c.self.view_is (inr c.requires) in
    let mine = row_proc (by_id c.self.inside.table.threads c.args.t) a.thread c.row.result.now a.there c.row.ensures in
    let pid = seen_proc c.self.inside c.args.self.now c.args.t c.row.result.now.proc_no a.thread c.self.view_is a.there mine in
    c.release.ensures ∙ (ap (λ p. with_held p false c.ready_first.new.self) (sym pid) ∙ ap (with_held (proc_of (by_id c.args.self.now.threads c.args.t)) false) c.ready_first.ensures.ready)

pub returns-clause-stands : goal.returns-clause-stands
returns-clause-stands c = tracks_holder c.args.t c.args.answer c.args.self.now _ (returns-clause-ready c) c.ready_first.ensures.place
