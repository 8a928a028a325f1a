use Rattle.p9_note.specs.ProcNotes.{after_post}
use Rattle.p9_note.proofs.Changes.{set_view}
use Rattle.p9_manual.specs.NoteCalls.{with_note, with_proc}
use Rattle.p9_manual.specs.State.{changed}
use Rattle.p9_note.proofs.Standing.{post_stands, tracked}
use Rattle.std.proofs.Common.{◌-◌}
use Rattle.p9_note.proofs.notes.Notes.post.Goals as goal

pub returns-clause-after : goal.returns-clause-after
returns-clause-after c =
    set_view (after_post c.args.note) c.self.inside.procs.items c.args.self.now c.args.p c.index_mut-inbox.result.now c.post.new.self c.self.view_is c.requires.place.from c.requires.place.to c.index_mut-inbox.ensures.value c.post.ensures

pub returns-clause-stands : goal.returns-clause-stands
returns-clause-stands c =
    let old = c.args.self.now in
    tracked (with_proc (with_note c.args.note) c.args.p) old (changed (after_post c.args.note) old (c.args.p - 1)) _ (returns-clause-after c) (post_stands c.args.note c.args.p old)
