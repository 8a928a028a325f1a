use Rattle.std.proofs.Common.{◌≡◌, ℕ, ◌-◌, List, Result, Ok, Err, OnOk, ap, ◌∙◌}
use Rattle.p9_manual.specs.State.{by_id, changed}
use Rattle.p9_note.specs.ProcNotes.{IsPlace, ProcNotes, notes_in, with_room}
use Rattle.p9_signal_calls.specs.Memory.{HasRoom}
use Rattle.p9_signal_calls.proofs.Lists.{by_id_changed_same, by_id_some}
use Rattle.p9_signal_calls.proofs.memory.room_at.Goals as goal

taken : {T E : Type 0} (r : Result T E) (p : ℕ) (old new : List ProcNotes) → IsPlace p old → OnOk r (new ≡ changed with_room old (p - 1)) → OnOk r (HasRoom p new)
taken (Ok x) p old new place e =
    let found = by_id_some old p place.from place.to in
    λ there. ap (λ xs. (notes_in (by_id xs p)).room) e ∙ ap (λ o. (notes_in o).room) (by_id_changed_same with_room old p found.0 found.1)
taken (Err x) p old new place e = e

pub returns-then-is_place-clause-memory : goal.returns-then-is_place-clause-memory
returns-then-is_place-clause-memory c = taken c.reserve.result c.args.p c.args.notes.now c.reserve.new.self (c.is_place.ensures.0 c.if-is_place.true) c.reserve.ensures.ok
