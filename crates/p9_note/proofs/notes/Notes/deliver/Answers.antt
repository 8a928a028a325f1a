use Rattle.p9_note.specs.ProcNotes.{after_delivery}
use Rattle.p9_note.proofs.Changes.{set_view}
use Rattle.p9_manual.specs.NoteCalls.{with_pending, with_proc}
use Rattle.p9_note.proofs.Standing.{deliver_stands, told_at}
use Rattle.p9_note.specs.For.{NotesFor}
use Rattle.std.proofs.Common.{◌∙◌, sym, subst}
use Rattle.p9_note.proofs.notes.Notes.deliver.Goals as goal

pub returns-clause-after : goal.returns-clause-after
returns-clause-after c =
    set_view (after_delivery) c.self.inside.procs.items c.args.self.now c.args.p c.index_mut-inbox.result.now c.deliver.new.self c.self.view_is c.requires.from c.requires.to c.index_mut-inbox.ensures.value c.deliver.ensures.after

pub returns-clause-told_for : goal.returns-clause-told_for
returns-clause-told_for c = λ places s n. c.deliver.ensures.told ∙ told_at c.args.p c.index_mut-inbox.result.now c.self.inside.procs.items c.args.self.now places s c.self.view_is c.requires.from c.requires.to c.index_mut-inbox.ensures.value n

pub returns-clause-stands : goal.returns-clause-stands
returns-clause-stands c =
    λ places s d n e. subst (λ zs. NotesFor places zs (with_proc (with_pending d.pending) c.args.p s)) (sym (returns-clause-after c)) (deliver_stands c.args.p c.args.self.now places s d c.requires.from n e)
