use Rattle.std.proofs.Common.{◌≡◌, sym, ap, ◌∙◌, arith, List}
use Rattle.p9_word.specs.declared.alt.AltEntry.{AltEntry}
use Rattle.p9_word.specs.declared.alt.Slot.{Slot}
use Rattle.std.specs.Prelude.{Some, slice_get}
use Rattle.p9_manual.specs.Told.{sent_bytes}
use Rattle.p9_manual.specs.AltEntries.{sends_to, first_number}
use Rattle.p9_alt.proofs.Numbers.{first_within, slot_there}
use Rattle.p9_alt.proofs.entries.value_out.Goals as goal

pub entry_out-entry-requires : goal.entry_out-entry-requires
entry_out-entry-requires c =
    let same = ap (λ (es : List AltEntry). first_number (sends_to c.args.c) es) c.as_slice.ensures in
    let lt = first_within (sends_to c.args.c) c.args.w.now.entries c.requires.sends in
    omega (arith, same, c.first_number-i.ensures.number)

pub value_of-requires : goal.value_of-requires
value_of-requires c =
    let same = ap (λ (es : List AltEntry). first_number (sends_to c.args.c) es) c.as_slice.ensures in
    let here : slice_get c.args.w.now.entries (first_number (sends_to c.args.c) c.args.w.now.entries) ≡ Some c.entry_out-entry.result = rw (← same, ← c.first_number-i.ensures.number) c.entry_out-entry.ensures in
    let e = slot_there (sends_to c.args.c) c.args.w.now.entries c.entry_out-entry.result here in
    rw (← e) c.requires.zeros

pub returns : goal.returns
returns c =
    let same = ap (λ (es : List AltEntry). first_number (sends_to c.args.c) es) c.as_slice.ensures in
    let here : slice_get c.args.w.now.entries (first_number (sends_to c.args.c) c.args.w.now.entries) ≡ Some c.entry_out-entry.result = rw (← same, ← c.first_number-i.ensures.number) c.entry_out-entry.ensures in
    let e = slot_there (sends_to c.args.c) c.args.w.now.entries c.entry_out-entry.result here in
    c.value_of.ensures ∙ ap (λ (s : Slot). sent_bytes c.args.elsize s) (sym e)
