-- Names by the vectors that have their bytes.
use Rattle.std.proofs.Common.{Vec, Global, ◌≡◌, ℕ, Bool, true, false, cond, List, [], ◌∷◌, ◌++◌, map, refl, ap, ◌∙◌}
use Rattle.std.specs.Prelude.{bytes_eq, position, not}
use Rattle.std.specs.List.{prefix_len, list_any}
use Rattle.std.proofs.lemmas.List.{length-map, map_push}

module _ {A B : Type 0} (f : A → B) (p : B → Bool) where
  prefix-map : (xs : List A) → prefix_len p (map f xs) ≡ prefix_len (λ x. p (f x)) xs
  prefix-map [] = refl
  prefix-map (x ∷ xs) = rw (prefix-map xs) refl

  pub any-map : (xs : List A) → list_any p (map f xs) ≡ list_any (λ x. p (f x)) xs
  any-map [] = refl
  any-map (x ∷ xs) = rw (any-map xs) refl

module _ {A B : Type 0} (f : A → B) (p : B → Bool) where
  pub position-map : (xs : List A) → position p (map f xs) ≡ position (λ x. p (f x)) xs
  position-map xs = rw (prefix-map f (λ x. not (p x)) xs, length-map xs f) refl

lacking : {A : Type 0} (b : Bool) (x y : A) → b ≡ false → cond b x y ≡ y
lacking true x y e = absurd (cc)
lacking false x y e = refl

abbrev items : Vec ℕ Global → List ℕ
items v = v.items

module _ (name : Vec ℕ Global) (old new : List (Vec ℕ Global)) where
  pub is_put : list_any (λ v. bytes_eq name.items v.items) old ≡ false
      → new ≡ cond (list_any (λ v. bytes_eq name.items v.items) old) old (old ++ name ∷ []) → map items new ≡ map items old ++ name.items ∷ []
  is_put none e = ap (map items) (e ∙ lacking _ _ _ none) ∙ map_push items old name

pub still_none : (name bytes : List ℕ) (old : List (Vec ℕ Global)) (names : List (List ℕ)) → name ≡ bytes → map items old ≡ names
    → list_any (λ n. bytes_eq bytes n) names ≡ false → list_any (λ v. bytes_eq name v.items) old ≡ false
still_none name bytes old names e is none = rw (e, ← any-map items (λ n. bytes_eq bytes n) old, is) none
