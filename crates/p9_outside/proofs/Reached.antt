-- What a list of services comes to.
use Rattle.std.proofs.Common.{[], ◌∷◌, refl, subst}
use Rattle.p9_word.specs.declared.io_call.IoCall.{IoCall}
use Rattle.p9_word.specs.declared.io_call.Effect.{Effect}
use Rattle.p9_outside.specs.Reached.{LeadOn}

pub lead_on : {D : Type 0} (serves : D → IoCall → Effect → D → Type 0) → LeadOn serves
lead_on {D} serves first middle last [] call effect before step = (last, subst (λ (d : D). serves d call effect last) before step, refl)
lead_on serves first middle last (s ∷ services) call effect before step = (before.0, before.1, lead_on serves before.0 middle last services call effect before.2 step)
