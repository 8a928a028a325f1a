use Rattle.p9_note.specs.ProcNotes.{cleared}
use Rattle.p9_note.proofs.Changes.{set_view}
use Rattle.p9_manual.specs.Ends.{with_no_note}
use Rattle.p9_manual.specs.NoteCalls.{with_proc}
use Rattle.p9_manual.specs.State.{changed}
use Rattle.p9_note.proofs.Standing.{clear_stands, tracked}
use Rattle.std.proofs.Common.{◌-◌}
use Rattle.p9_note.proofs.notes.Notes.clear.Goals as goal

pub returns-clause-after : goal.returns-clause-after
returns-clause-after c =
    set_view (cleared) c.self.inside.procs.items c.args.self.now c.args.p c.index_mut-inbox.result.now c.clear.new.self c.self.view_is c.requires.from c.requires.to c.index_mut-inbox.ensures.value c.clear.ensures

pub returns-clause-stands : goal.returns-clause-stands
returns-clause-stands c =
    let old = c.args.self.now in
    tracked (with_proc with_no_note c.args.p) old (changed cleared old (c.args.p - 1)) _ (returns-clause-after c) (clear_stands c.args.p old)
