use Rattle.std.proofs.Common.{◌∙◌, inl, true, ap, sym}
use Rattle.p9_manual.specs.State.{by_id}
use Rattle.p9_sched.specs.Holding.{with_held}
use Rattle.p9_sched.specs.Schedule.{proc_of}
use Rattle.p9_sched.proofs.Tracks.{tracks_holding}
use Rattle.p9_sched.proofs.Views.{away_here, row_proc, seen_proc, seen_place, seen_holds}
use Rattle.p9_sched.proofs.sched.Sched.wait_holding.Goals as goal

pub returns-clause-waits : goal.returns-clause-waits
returns-clause-waits c =
    let a = away_here c.self.inside c.args.self.now c.args.t c.self.view_is (inl c.requires) in
    let mine = row_proc (by_id c.self.inside.table.threads c.args.t) a.thread c.row.result.now a.there c.row.ensures in
    let pid = seen_proc c.self.inside c.args.self.now c.args.t c.row.result.now.proc_no a.thread c.self.view_is a.there mine in
    c.hold.ensures ∙ (ap (λ p. with_held p true c.wait.new.self) (sym pid) ∙ ap (with_held (proc_of (by_id c.args.self.now.threads c.args.t)) true) c.wait.ensures.waits)

pub returns-clause-stands : goal.returns-clause-stands
returns-clause-stands c =
    let a = away_here c.self.inside c.args.self.now c.args.t c.self.view_is (inl c.requires) in
    let place = seen_place c.self.inside c.args.self.now c.args.t a.thread c.self.view_is a.there c.self.invariant in
    λ request holding. tracks_holding c.args.t request holding c.args.self.now _ (returns-clause-waits c) place (seen_holds c.self.inside c.args.self.now c.self.view_is)
