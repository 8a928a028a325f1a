use Rattle.std.proofs.Common.{ap, sym, ◌∙◌, Some}
use Rattle.std.proofs.lemmas.List.Quantifiers.{position-Some}
use Rattle.p9_manual.specs.Queues.{waits_for}
use Rattle.p9_lock.proofs.Firsts.{found_at, removed_at, none_found, all_stay}
use Rattle.p9_lock.proofs.waits.first_out.Goals as goal

pub returns-in-Some-clause-first : goal.returns-in-Some-clause-first
returns-in-Some-clause-first c =
    let p = waits_for c.args.what in
    let ws = c.args.waits.now.items in
    let at = position-Some p ws c.in-Some.i c.remove.result (rw (← c.deref.ensures.value) (sym c.in-Some.ensures)) in
    ap Some c.remove.ensures.value ∙ sym (found_at p ws c.in-Some.i c.remove.result at.0 at.1 at.2)

pub returns-in-Some-clause-waits : goal.returns-in-Some-clause-waits
returns-in-Some-clause-waits c =
    let p = waits_for c.args.what in
    let ws = c.args.waits.now.items in
    let at = position-Some p ws c.in-Some.i c.remove.result (rw (← c.deref.ensures.value) (sym c.in-Some.ensures)) in
    c.remove.ensures.items ∙ removed_at p ws c.in-Some.i c.remove.result at.0 at.1 at.2

pub returns-in-None-clause-first : goal.returns-in-None-clause-first
returns-in-None-clause-first c =
    sym (none_found (waits_for c.args.what) c.args.waits.now.items (rw (← c.deref.ensures.value) (sym c.in-None.ensures)))

pub returns-in-None-clause-waits : goal.returns-in-None-clause-waits
returns-in-None-clause-waits c =
    sym (all_stay (waits_for c.args.what) c.args.waits.now.items (rw (← c.deref.ensures.value) (sym c.in-None.ensures)))
