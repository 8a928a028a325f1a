-- What a change at one number, or one item more, does to a list.
use Rattle.std.proofs.Common.{◌≡◌, ℕ, zero, suc, ◌-◌, ◌<◌, ◌≤◌, List, [], ◌∷◌, ◌++◌, length, replicate, get_or, set, refl, ap, ◌∙◌, arith, Result, Ok, Err, OnOk}
use Rattle.p9_manual.specs.State.{changed}

set_changed : {A : Type 0} (f : A → A) → (xs : List A) (i : ℕ) (y d : A) → i < length xs → y ≡ f (get_or xs i d) → set xs i y ≡ changed f xs i
set_changed f [] i y d lt e = absurd (omega arith)
set_changed f (x ∷ xs) zero y d lt e = ap (λ z. z ∷ xs) e
set_changed f (x ∷ xs) (suc i) y d lt e = ap (λ zs. x ∷ zs) (set_changed f xs i y d (omega arith) e)

-- item p, which is x, becomes y
pub set_view : {A : Type 0} (f : A → A) → (xs vs : List A) (p : ℕ) (x y : A) → xs ≡ vs → 1 ≤ p → p ≤ length vs → x ≡ get_or xs (p - 1) x → y ≡ f x → set xs (p - 1) y ≡ changed f vs (p - 1)
set_view f xs vs p x y e one le at made =
    let len : length xs ≡ length vs = ap length e in
    set_changed f xs (p - 1) y x (omega arith) (made ∙ ap f at) ∙ ap (λ zs. changed f zs (p - 1)) e

more : {A : Type 0} (n : ℕ) (x : A) → replicate n x ++ x ∷ [] ≡ replicate (suc n) x
more zero x = refl
more (suc n) x = ap (λ zs. x ∷ zs) (more n x)

-- what follows on success
pub on_ok : {T E P Q : Type 0} (r : Result T E) → (P → Q) → OnOk r P → OnOk r Q
on_ok (Ok v) f h = f h
on_ok (Err e) f h = h
