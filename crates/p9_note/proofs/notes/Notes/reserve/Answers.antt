use Rattle.std.proofs.Common.{arith}
use Rattle.std.proofs.lemmas.Grind.{common_steps}
use Rattle.p9_note.specs.ProcNotes.{with_room}
use Rattle.p9_note.proofs.Changes.{on_ok, set_view}
use Rattle.p9_note.proofs.Standing.{reserve_stands}
use Rattle.p9_note.proofs.notes.Notes.reserve.Goals as goal

pub returns-clause-ok : goal.returns-clause-ok
returns-clause-ok c =
    on_ok c.reserve.result
    (set_view with_room c.self.inside.procs.items c.args.self.now c.args.p c.index_mut-inbox.result.now c.reserve.new.self c.self.view_is c.requires.from c.requires.to c.index_mut-inbox.ensures.value)
    c.reserve.ensures.ok

pub returns-clause-stands : goal.returns-clause-stands
returns-clause-stands c = reserve_stands c.reserve.result c.args.p c.args.self.now _ (returns-clause-ok c) (grind (arith, common_steps))
