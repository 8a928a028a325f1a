use Rattle.std.proofs.Common.{sym, ap, ◌∙◌}
use Rattle.p9_manual.specs.Told.{kept_bytes}
use Rattle.p9_word.specs.declared.alt.Slot.{Slot}
use Rattle.p9_alt.specs.Sides.{entry_test}
use Rattle.p9_alt.proofs.Numbers.{slot_at, slot_past}
use Rattle.p9_alt.proofs.answers.kept_at.Goals as goal

pub returns-in-Some : goal.returns-in-Some
returns-in-Some c =
    let e = slot_at (entry_test c.args.side c.args.c) c.args.entries.now c.first_number.result c.in-Some.e.now c.first_number.ensures.number c.in-Some.ensures.lookup.0 c.in-Some.ensures.lookup.1 in
    c.kept.ensures ∙ ap (λ (s : Slot). kept_bytes s c.args.value) (sym e)

pub returns-in-None : goal.returns-in-None
returns-in-None c =
    let e = slot_past (entry_test c.args.side c.args.c) c.args.entries.now c.first_number.result c.first_number.ensures.number c.in-None.ensures.lookup.0 in
    c.new.ensures ∙ ap (λ (s : Slot). kept_bytes s c.args.value) (sym e)
