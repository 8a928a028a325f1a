-- A device that has made a list of services.
use Rattle.std.specs.Prelude.{◌≡◌, List, [], ◌∷◌, ◌++◌}
use Rattle.p9_word.specs.declared.io_call.IoCall.{IoCall}
use Rattle.p9_word.specs.declared.io_call.Effect.{Effect}

-- from one state to another by one service for each of these calls and effects
abbrev pub Reached : {D : Type 0} → (D → IoCall → Effect → D → Type 0) → D → List (IoCall × Effect) → D → Type 0
Reached serves first [] last = last ≡ first
Reached {D} serves first (s ∷ services) last = (next : D) × serves first s.0 s.1 next × Reached serves next services last

-- one service more leads on from the state that was reached
abbrev pub LeadOn : {D : Type 0} → (D → IoCall → Effect → D → Type 0) → Type 0
LeadOn {D} serves =
    (first middle last : D) (services : List (IoCall × Effect)) (call : IoCall) (effect : Effect) → Reached serves first services middle → serves middle call effect last → Reached serves first (services ++ (call, effect) ∷ []) last
