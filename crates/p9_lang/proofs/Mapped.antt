-- A list whose items are changed one after another.
use Rattle.std.proofs.Common.{◌≡◌, ℕ, zero, suc, ◌+◌, ◌<◌, List, [], ◌∷◌, ◌++◌, length, map, take, drop, set, Some, refl, ap, ◌∙◌, arith}
use Rattle.std.specs.Prelude.{slice_get}

some_is : {A : Type 0} (x y : A) → Some x ≡ Some y → x ≡ y
some_is x y e = cc

set_one : {A : Type 0} (f : A → A) (xs : List A) (i : ℕ) (x : A) → i < length xs → slice_get (map f (take i xs) ++ drop i xs) i ≡ Some x → set (map f (take i xs) ++ drop i xs) i (f x) ≡ map f (take (suc i) xs) ++ drop (suc i) xs
set_one f [] i x lt e = absurd (omega arith)
set_one f (y ∷ ys) zero x lt e = rw (some_is y x e) refl
set_one f (y ∷ ys) (suc i) x lt e = ap (λ zs. f y ∷ zs) (set_one f ys i x (omega arith) e)

-- one item more
pub mapped_one : {A : Type 0} (f : A → A) (xs ys zs : List A) (i : ℕ) (x v : A) → i < length xs → ys ≡ map f (take i xs) ++ drop i xs → slice_get ys i ≡ Some x → v ≡ f x → zs ≡ set ys i v → zs ≡ map f (take (i + 1) xs) ++ drop (i + 1) xs
mapped_one f xs ys zs i x v lt e g h k =
    let g2 : slice_get (map f (take i xs) ++ drop i xs) i ≡ Some x = rw e at g in
    let n : i + 1 ≡ suc i = omega arith in
    k ∙ rw (e, h, n) (set_one f xs i x lt g2)

-- the changed list is as long as it was
pub mapped_length : {A : Type 0} (f : A → A) (xs : List A) (i : ℕ) → length (map f (take i xs) ++ drop i xs) ≡ length xs
mapped_length f [] zero = refl
mapped_length f [] (suc i) = refl
mapped_length f (x ∷ xs) zero = refl
mapped_length f (x ∷ xs) (suc i) = ap suc (mapped_length f xs i)
