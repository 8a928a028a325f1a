-- The test of two numbers that differ.
use Rattle.std.proofs.Common.{◌≡◌, ◌≢◌, ℕ, true, false}
use Rattle.std.specs.Prelude.{◌==◌, ◌⊎◌}
use mathlib.Core.Logic.{inl, inr}
use Rattle.std.proofs.lemmas.Bool.Decides.{eqb_tells}

differing : (t u : ℕ) → t ≢ u → (((t == u) ≡ true) × (t ≡ u)) ⊎ (((t == u) ≡ false) × (t ≢ u)) → (t == u) ≡ false
differing t u ne (inl same) = absurd (ne same.1)
differing t u ne (inr differs) = differs.0

pub other_number : (t u : ℕ) → t ≢ u → (t == u) ≡ false
other_number t u ne = differing t u ne (eqb_tells t u)
