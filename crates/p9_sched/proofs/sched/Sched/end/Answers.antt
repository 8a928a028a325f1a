use Rattle.std.proofs.Common.{refl}
use Rattle.p9_manual.specs.declared.state.Place.TheVariants.{Ended}
use Rattle.p9_manual.specs.State.{by_id, placed}
use Rattle.p9_sched.specs.Lined.{left}
use Rattle.p9_sched.specs.Schedule.{without}
use Rattle.p9_sched.proofs.Keeping.{left_lane}
use Rattle.p9_sched.proofs.Lists.{id_of}
use Rattle.p9_sched.proofs.Sound.{moved, proc_is, line_off}
use Rattle.p9_sched.proofs.Views.{alive_here, row_proc, seen_proc, seen_place, moved_view}
use Rattle.p9_sched.proofs.Tracks.{tracks_ended}
use Rattle.p9_sched.proofs.sched.Sched.end.Goals as goal

pub row-requires : goal.row-requires
row-requires c =
    let a = alive_here c.self.inside c.args.self.now c.args.t c.self.view_is c.requires in
    id_of c.self.inside.table.threads c.args.t a.thread a.there

pub leave-requires-clause-place : goal.leave-requires-clause-place
leave-requires-clause-place c =
    let a = alive_here c.self.inside c.args.self.now c.args.t c.self.view_is c.requires in
    let mine = row_proc (by_id c.self.inside.table.threads c.args.t) a.thread c.row.result.now a.there c.row.ensures in
    proc_is c.self.inside.table.threads c.self.inside.lanes c.self.inside.table.rooms.thread c.args.t c.row.result.now.proc_no a.thread a.there mine c.self.invariant

pub leave-requires-clause-line : goal.leave-requires-clause-line
leave-requires-clause-line c =
    line_off c.self.inside.table.threads c.self.inside.lanes c.self.inside.table.rooms.thread c.args.t c.row.result.now.proc_no c.self.invariant

pub invariant_of-self : goal.invariant_of-self
invariant_of-self c =
    let a = alive_here c.self.inside c.args.self.now c.args.t c.self.view_is c.requires in
    let mine = row_proc (by_id c.self.inside.table.threads c.args.t) a.thread c.row.result.now a.there c.row.ensures in
    let p = c.row.result.now.proc_no in
    let more = c.self.inside.table.rooms.thread in
    rw (c.put.ensures, c.leave.ensures) (moved c.self.inside.table.threads c.self.inside.lanes more c.args.t p a.thread Ended (left c.args.t) a.there mine (λ l _. left_lane p c.self.inside.table.threads more l c.args.t a.thread a.there mine a.alive) c.self.invariant)

pub returns-clause-ended : goal.returns-clause-ended
returns-clause-ended c =
    let a = alive_here c.self.inside c.args.self.now c.args.t c.self.view_is c.requires in
    let mine = row_proc (by_id c.self.inside.table.threads c.args.t) a.thread c.row.result.now a.there c.row.ensures in
    let p = c.row.result.now.proc_no in
    let pid = seen_proc c.self.inside c.args.self.now c.args.t p a.thread c.self.view_is a.there mine in
    rw (pid, c.put.ensures, c.leave.ensures) (moved_view c.self.inside c.args.self.now (placed c.args.t Ended) (left c.args.t) (without c.args.t) p c.self.view_is (λ l. refl) (λ l. refl) (λ l. refl))

pub returns-clause-place : goal.returns-clause-place
returns-clause-place c =
    let a = alive_here c.self.inside c.args.self.now c.args.t c.self.view_is c.requires in
    seen_place c.self.inside c.args.self.now c.args.t a.thread c.self.view_is a.there c.self.invariant

pub returns-clause-stands : goal.returns-clause-stands
returns-clause-stands c = tracks_ended c.args.t c.args.self.now _ (returns-clause-ended c) (returns-clause-place c)
