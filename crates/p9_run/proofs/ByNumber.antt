use Rattle.std.proofs.Common.{◌≡◌, ℕ, zero, suc, List, [], ◌∷◌, ◌++◌, Option, Some, None, refl, ◌<◌, length, arith}
use Rattle.p9_run.specs.ByNumber.{value_at}

pub value_at-push_none : {B : Type 0} (xs : List (Option B)) (u : ℕ) → value_at (xs ++ None ∷ []) u ≡ value_at xs u
value_at-push_none [] zero = refl
value_at-push_none [] (suc u) = refl
value_at-push_none (x ∷ xs) zero = refl
value_at-push_none (x ∷ xs) (suc u) = value_at-push_none xs u

pub value_within : {B : Type 0} (xs : List (Option B)) (t : ℕ) (b : B) → Some b ≡ value_at xs t → t < length xs
value_within [] t b here = cc here
value_within (x ∷ xs) zero b here = omega arith
value_within (x ∷ xs) (suc t) b here = let h : t < length xs = value_within xs t b here in omega (arith, h)
