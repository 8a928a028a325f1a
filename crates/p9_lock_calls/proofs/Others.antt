-- Two numbers are the same or not, and what stands in a list where another item is changed.
use Rattle.std.proofs.Common.{◌≡◌, ◌≢◌, ℕ, zero, suc, ◌-◌, ◌≤◌, true, false, List, [], ◌∷◌, Some, refl, ap, arith, rules, tests}
use Rattle.std.specs.Prelude.{◌==◌, slice_get, nat_lt}
use Rattle.p9_manual.specs.State.{by_id, changed}

-- two numbers are the same or not
pub data CasesEq (a b : ℕ) : Type 0 where
  Same : a ≡ b → CasesEq a b
  Other : a ≢ b → CasesEq a b

cases_suc : (a b : ℕ) → CasesEq a b → CasesEq (suc a) (suc b)
cases_suc a b (Same e) = Same (ap suc e)
cases_suc a b (Other n) = Other (λ e. n (omega arith))

pub cases_eq : (a b : ℕ) → CasesEq a b
cases_eq zero zero = Same refl
cases_eq zero (suc b) = Other (λ e. omega arith)
cases_eq (suc a) zero = Other (λ e. omega arith)
cases_eq (suc a) (suc b) = cases_suc a b (cases_eq a b)

pub eq_same : (a : ℕ) → (a == a) ≡ true
eq_same a = search (rules, tests)

pub eq_other : (a b : ℕ) → a ≢ b → (a == b) ≡ false
eq_other a b n = search (rules, tests)

get_other : {A : Type 0} (f : A → A) (xs : List A) (i j : ℕ) → i ≢ j → slice_get (changed f xs i) j ≡ slice_get xs j
get_other f [] i j n = refl
get_other f (x ∷ xs) zero zero n = absurd (n refl)
get_other f (x ∷ xs) zero (suc j) n = refl
get_other f (x ∷ xs) (suc i) zero n = refl
get_other f (x ∷ xs) (suc i) (suc j) n = get_other f xs i j (λ e. n (ap suc e))

by_id_is : {A : Type 0} (xs : List A) (p : ℕ) → 1 ≤ p → by_id xs p ≡ slice_get xs (p - 1)
by_id_is xs zero h = absurd (omega arith)
by_id_is xs (suc p) h = let b : nat_lt 0 (suc p) ≡ true = search (rules, tests) in rw b refl

-- each other item, by its id
pub by_id_other : {A : Type 0} (f : A → A) (xs : List A) (t u : ℕ) (x : A) → by_id xs t ≡ Some x → u ≢ t → by_id (changed f xs (t - 1)) u ≡ by_id xs u
by_id_other f xs zero u x e ne = cc
by_id_other f xs (suc t) zero x e ne = refl
by_id_other f xs (suc t) (suc u) x e ne =
    rw (by_id_is (changed f xs (suc t - 1)) (suc u) (omega arith), by_id_is xs (suc u) (omega arith)) (get_other f xs (suc t - 1) (suc u - 1) (λ h. ne (omega arith)))
