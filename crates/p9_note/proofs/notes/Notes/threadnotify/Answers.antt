use Rattle.p9_note.specs.ProcNotes.{after_notify}
use Rattle.p9_note.proofs.Changes.{set_view}
use Rattle.p9_manual.specs.NoteCalls.{notify_in}
use Rattle.p9_manual.specs.State.{State, by_id, changed}
use Rattle.p9_note.proofs.Standing.{notify_stands, tracked}
use Rattle.std.proofs.Common.{◌-◌}
use Rattle.p9_note.proofs.notes.Notes.threadnotify.Goals as goal

pub returns-clause-after : goal.returns-clause-after
returns-clause-after c =
    set_view (after_notify c.args.on c.args.id c.args.prefix) c.self.inside.procs.items c.args.self.now c.args.p c.index_mut-inbox.result.now c.notify.new.self c.self.view_is c.requires.place.from c.requires.place.to c.index_mut-inbox.ensures.value c.notify.ensures.after

pub returns-clause-stands : goal.returns-clause-stands
returns-clause-stands c =
    let old = c.args.self.now in
    tracked (λ (s : State). (notify_in c.args.p c.args.on c.args.id c.args.prefix s (by_id s.procs c.args.p)).state) old (changed (after_notify c.args.on c.args.id c.args.prefix) old (c.args.p - 1)) _ (returns-clause-after c)
    (notify_stands c.args.p c.args.on c.args.id c.args.prefix old c.requires.place.from)
