-- Values by their numbers, as bodies by the number of their thread.
use Rattle.std.specs.Prelude.{ℕ, List, Option, Some, None, slice_get}

-- what stands at a number, where there is a value
abbrev pub flat : {B : Type 0} → Option (Option B) → Option B
flat None = None
flat (Some o) = o

-- the value at number n, if there is one
abbrev pub value_at : {B : Type 0} → List (Option B) → ℕ → Option B
value_at values n = flat (slice_get values n)
