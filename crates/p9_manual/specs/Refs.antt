-- The requests on Refs, which count. lock(2).
use Rattle.std.specs.Prelude.{ℕ, ◌+◌, ◌-◌, ◌==◌, Option, Some, None, if◌then◌else◌}
use Rattle.p9_word.specs.declared.answer.Answer.TheVariants.{Number}
use Rattle.p9_manual.specs.Holds.{Holds}
use Rattle.p9_manual.specs.State.{State, Outcome, changed, bad, now}

-- the greatest value of a Ref
abbrev pub greatest : ℕ
greatest = 18446744073709551615

-- Ref k has this value
abbrev pub with_value : ℕ → ℕ → Holds → Holds
with_value k value h = record h { refs = changed (λ _. value) h.refs (k - 1) }

-- the state, where Ref k has this value
abbrev pub with_ref : ℕ → ℕ → State → State
with_ref k value s = record s { holds = with_value k value s.holds }

-- a Ref is raised by 1, unless it has the greatest value. Here and below k names one of the setup's, or none
abbrev pub raise : ℕ → State → Option ℕ → Outcome
raise k s None = bad s
raise k s (Some value) = if value == greatest then bad s else now (Number (value + 1)) (with_ref k (value + 1) s)

-- a Ref is lowered by 1, unless its value is 0
abbrev pub lower : ℕ → State → Option ℕ → Outcome
lower k s None = bad s
lower k s (Some value) = if value == 0 then bad s else now (Number (value - 1)) (with_ref k (value - 1) s)
