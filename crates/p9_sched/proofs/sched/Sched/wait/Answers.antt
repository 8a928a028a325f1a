use Rattle.std.proofs.Common.{refl, inl}
use Rattle.p9_manual.specs.declared.state.Place.TheVariants.{Waiting}
use Rattle.p9_manual.specs.State.{by_id, placed}
use Rattle.p9_sched.specs.Lined.{stopped}
use Rattle.p9_sched.proofs.Keeping.{stopped_lane}
use Rattle.p9_sched.proofs.Lists.{id_of}
use Rattle.p9_sched.proofs.Sound.{moved, proc_is}
use Rattle.p9_sched.proofs.Views.{away_here, row_proc, stayed_view}
use Rattle.p9_sched.proofs.Tracks.{tracks_waiting}
use Rattle.p9_sched.proofs.sched.Sched.wait.Goals as goal

pub row-requires : goal.row-requires
row-requires c =
    let a = away_here c.self.inside c.args.self.now c.args.t c.self.view_is (inl c.requires) in
    id_of c.self.inside.table.threads c.args.t a.thread a.there

pub stop-requires : goal.stop-requires
stop-requires c =
    let a = away_here c.self.inside c.args.self.now c.args.t c.self.view_is (inl c.requires) in
    let mine = row_proc (by_id c.self.inside.table.threads c.args.t) a.thread c.row.result.now a.there c.row.ensures in
    proc_is c.self.inside.table.threads c.self.inside.lanes c.self.inside.table.rooms.thread c.args.t c.row.result.now.proc_no a.thread a.there mine c.self.invariant

pub invariant_of-self : goal.invariant_of-self
invariant_of-self c =
    let a = away_here c.self.inside c.args.self.now c.args.t c.self.view_is (inl c.requires) in
    let mine = row_proc (by_id c.self.inside.table.threads c.args.t) a.thread c.row.result.now a.there c.row.ensures in
    let p = c.row.result.now.proc_no in
    let more = c.self.inside.table.rooms.thread in
    rw (c.put.ensures, c.stop.ensures) (moved c.self.inside.table.threads c.self.inside.lanes more c.args.t p a.thread Waiting (stopped c.args.t) a.there mine (λ l _. stopped_lane p c.self.inside.table.threads more l c.args.t a.thread a.there mine a.off_line a.alive) c.self.invariant)

pub returns-clause-waits : goal.returns-clause-waits
returns-clause-waits c =
    let p = c.row.result.now.proc_no in
    rw (c.put.ensures, c.stop.ensures) (stayed_view c.self.inside c.args.self.now (placed c.args.t Waiting) (stopped c.args.t) p c.self.view_is (λ l. refl) (λ l. refl) (λ l. refl))

pub returns-clause-stands : goal.returns-clause-stands
returns-clause-stands c = λ request beside. tracks_waiting c.args.t request beside c.args.self.now _ (returns-clause-waits c)
