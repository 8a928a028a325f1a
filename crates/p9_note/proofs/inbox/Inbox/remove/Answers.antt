use Rattle.std.proofs.Common.{false, is_some, sym, ap, ◌∙◌}
use Rattle.std.proofs.lemmas.List.Quantifiers.{position-Some}
use Rattle.p9_manual.specs.Notes.{has_id, removed}
use Rattle.p9_note.specs.Kept.{shown}
use Rattle.p9_note.specs.ProcNotes.{ProcNotes, if_done}
use Rattle.p9_note.proofs.Picked.{none_removed, removed_at}
use Rattle.p9_note.proofs.inbox.Inbox.remove.Goals as goal

pub returns-in-Some-clause-done : goal.returns-in-Some-clause-done
returns-in-Some-clause-done c =
    let hs = c.self.inside.handlers.items in
    let at = position-Some (has_id c.args.id) hs c.in-Some.i c.remove.result (rw (← c.deref.ensures.value) (sym c.in-Some.ensures)) in
    ap is_some (sym (removed_at c.args.id hs c.in-Some.i c.remove.result at.0 at.1 at.2))
    ∙ ap (λ (x : ProcNotes). is_some (removed c.args.id x.handlers)) c.self.view_is

pub returns-in-Some-clause-after : goal.returns-in-Some-clause-after
returns-in-Some-clause-after c =
    let hs = c.self.inside.handlers.items in
    let at = position-Some (has_id c.args.id) hs c.in-Some.i c.remove.result (rw (← c.deref.ensures.value) (sym c.in-Some.ensures)) in
    ap (λ zs. record (shown c.self.inside) { handlers = zs }) c.remove.ensures.items
    ∙ ap (λ o. if_done false o (shown c.self.inside)) (sym (removed_at c.args.id hs c.in-Some.i c.remove.result at.0 at.1 at.2))
    ∙ ap (λ (x : ProcNotes). if_done false (removed c.args.id x.handlers) x) c.self.view_is

pub returns-in-None-clause-done : goal.returns-in-None-clause-done
returns-in-None-clause-done c =
    let hs = c.self.inside.handlers.items in
    ap is_some (sym (none_removed c.args.id hs (rw (← c.deref.ensures.value) (sym c.in-None.ensures))))
    ∙ ap (λ (x : ProcNotes). is_some (removed c.args.id x.handlers)) c.self.view_is

pub returns-in-None-clause-after : goal.returns-in-None-clause-after
returns-in-None-clause-after c =
    let hs = c.self.inside.handlers.items in
    sym c.self.view_is
    ∙ (ap (λ o. if_done false o (shown c.self.inside)) (sym (none_removed c.args.id hs (rw (← c.deref.ensures.value) (sym c.in-None.ensures))))
    ∙ ap (λ (x : ProcNotes). if_done false (removed c.args.id x.handlers) x) c.self.view_is)
