-- An item of a list by its number, and the list with another item there.
use Rattle.std.proofs.Common.{◌≡◌, ℕ, zero, suc, ◌-◌, ◌<◌, true, List, [], ◌∷◌, IsSome, set, refl, ap, arith, rules, tests}
use Rattle.std.specs.Prelude.{slice_get, nat_lt}
use Rattle.p9_manual.specs.State.{by_id, changed}

pub above_zero : (k : ℕ) → nat_lt 0 (suc k) ≡ true
above_zero k = search (rules, tests)

-- what has a number is found at its place
pub by_id_get : {A : Type 0} (xs : List A) (k : ℕ) → 0 < k → by_id xs k ≡ slice_get xs (k - 1)
by_id_get xs zero lt = absurd (omega arith)
by_id_get xs (suc k) lt = rw (above_zero k) refl

-- and its number is not 0
pub is_above : {A : Type 0} (xs : List A) (k : ℕ) → IsSome (by_id xs k) → 0 < k
is_above xs zero h = absurd (cc h)
is_above xs (suc k) h = omega arith

pub set_changed : {A : Type 0} (xs : List A) (i : ℕ) (y : A) → set xs i y ≡ changed (λ _. y) xs i
set_changed [] i y = refl
set_changed (x ∷ xs) zero y = refl
set_changed (x ∷ xs) (suc i) y = ap (λ zs. x ∷ zs) (set_changed xs i y)
