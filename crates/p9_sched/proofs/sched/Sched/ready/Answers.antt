use Rattle.std.proofs.Common.{refl}
use Rattle.p9_manual.specs.declared.state.Place.TheVariants.{Ready}
use Rattle.p9_manual.specs.State.{by_id, placed}
use Rattle.p9_sched.specs.Lined.{queued}
use Rattle.p9_sched.specs.Schedule.{with_last}
use Rattle.p9_sched.proofs.Keeping.{queued_lane}
use Rattle.p9_sched.proofs.Lists.{id_of}
use Rattle.p9_sched.proofs.Sound.{moved, proc_is, room_for}
use Rattle.p9_sched.proofs.Views.{away_here, row_proc, seen_proc, seen_place, moved_view}
use Rattle.p9_sched.proofs.Tracks.{tracks_beside, tracks_readied}
use Rattle.p9_sched.proofs.sched.Sched.ready.Goals as goal

pub row-requires : goal.row-requires
row-requires c =
    let a = away_here c.self.inside c.args.self.now c.args.t c.self.view_is c.requires in
    id_of c.self.inside.table.threads c.args.t a.thread a.there

pub queue-requires-clause-place : goal.queue-requires-clause-place
queue-requires-clause-place c =
    let a = away_here c.self.inside c.args.self.now c.args.t c.self.view_is c.requires in
    let mine = row_proc (by_id c.self.inside.table.threads c.args.t) a.thread c.row.result.now a.there c.row.ensures in
    proc_is c.self.inside.table.threads c.self.inside.lanes c.self.inside.table.rooms.thread c.args.t c.row.result.now.proc_no a.thread a.there mine c.self.invariant

pub queue-requires-clause-room : goal.queue-requires-clause-room
queue-requires-clause-room c =
    let a = away_here c.self.inside c.args.self.now c.args.t c.self.view_is c.requires in
    let mine = row_proc (by_id c.self.inside.table.threads c.args.t) a.thread c.row.result.now a.there c.row.ensures in
    room_for c.self.inside.table.threads c.self.inside.lanes c.self.inside.table.rooms.thread c.args.t c.row.result.now.proc_no a.thread a.there mine a.off_line a.alive c.self.invariant

pub invariant_of-self : goal.invariant_of-self
invariant_of-self c =
    let a = away_here c.self.inside c.args.self.now c.args.t c.self.view_is c.requires in
    let mine = row_proc (by_id c.self.inside.table.threads c.args.t) a.thread c.row.result.now a.there c.row.ensures in
    let p = c.row.result.now.proc_no in
    let more = c.self.inside.table.rooms.thread in
    rw (c.put.ensures, c.queue.ensures) (moved c.self.inside.table.threads c.self.inside.lanes more c.args.t p a.thread (Ready c.args.answer) (queued c.args.t) a.there mine (λ l _. queued_lane p c.self.inside.table.threads more l c.args.t a.thread c.args.answer a.there mine a.off_line a.alive) c.self.invariant)

pub returns-clause-ready : goal.returns-clause-ready
returns-clause-ready c =
    let a = away_here c.self.inside c.args.self.now c.args.t c.self.view_is c.requires in
    let mine = row_proc (by_id c.self.inside.table.threads c.args.t) a.thread c.row.result.now a.there c.row.ensures in
    let p = c.row.result.now.proc_no in
    let pid = seen_proc c.self.inside c.args.self.now c.args.t p a.thread c.self.view_is a.there mine in
    rw (pid, c.put.ensures, c.queue.ensures) (moved_view c.self.inside c.args.self.now (placed c.args.t (Ready c.args.answer)) (queued c.args.t) (with_last c.args.t) p c.self.view_is (λ l. refl) (λ l. refl) (λ l. refl))

pub returns-clause-place : goal.returns-clause-place
returns-clause-place c =
    let a = away_here c.self.inside c.args.self.now c.args.t c.self.view_is c.requires in
    seen_place c.self.inside c.args.self.now c.args.t a.thread c.self.view_is a.there c.self.invariant

pub returns-clause-stands : goal.returns-clause-stands
returns-clause-stands c = tracks_readied c.args.t c.args.answer c.args.self.now _ (returns-clause-ready c) (returns-clause-place c)

pub returns-clause-wakes : goal.returns-clause-wakes
returns-clause-wakes c _ = tracks_beside c.args.t c.args.answer c.args.self.now _ (returns-clause-ready c) (returns-clause-place c)
