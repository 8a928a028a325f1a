use Rattle.std.proofs.Common.{sym, ◌∙◌}
use Rattle.std.proofs.lemmas.List.Quantifiers.{position-Some}
use Rattle.p9_lock.specs.Kept.{reads}
use Rattle.p9_lock.proofs.Firsts.{removed_at, all_stay}
use Rattle.p9_lock.proofs.readers.remove_first.Goals as goal

pub returns-in-Some-clause-readers : goal.returns-in-Some-clause-readers
returns-in-Some-clause-readers c =
    let p = reads c.args.t c.args.k in
    let rs = c.args.readers.now.items in
    let at = position-Some p rs c.in-Some.i c.remove.result (rw (← c.deref.ensures.value) (sym c.in-Some.ensures)) in
    c.remove.ensures.items ∙ removed_at p rs c.in-Some.i c.remove.result at.0 at.1 at.2

pub returns-in_default-clause-readers : goal.returns-in_default-clause-readers
returns-in_default-clause-readers c =
    sym (all_stay (reads c.args.t c.args.k) c.args.readers.now.items (rw (← c.deref.ensures.value) (sym c.place_of.ensures ∙ c.in_default.is)))
