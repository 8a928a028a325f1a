-- How often a test passes in a list, where the list is picked from, added to or changed at an index.
use Rattle.std.proofs.Common.{◌≡◌, ℕ, zero, suc, ◌+◌, ◌≤◌, Bool, true, false, not, cond, ◌||◌, List, [], ◌∷◌, ◌++◌, map, Option, Some, None, refl, subst, arith}
use Rattle.std.specs.Prelude.{slice_get, All}
use Rattle.std.specs.List.{filter, find, list_any}
use Rattle.std.proofs.lemmas.List.Elements.{All-head, All-tail}
use Rattle.std.proofs.lemmas.Option.{some_pair_parts}
use Rattle.p9_manual.specs.State.{changed, each_from, pick, behind}

abbrev pub tally : {A : Type 0} → (A → Bool) → List A → ℕ
tally p [] = 0
tally p (x ∷ xs) = cond (p x) 1 0 + tally p xs

filter_same : {A : Type 0} (p : A → Bool) (b : Bool) (x : A) (rest : List A) → p x ≡ b → tally p rest ≡ 0 → tally p (cond (not b) (x ∷ rest) rest) ≡ 0
filter_same p true x rest e h = h
filter_same p false x rest e h = rw (e, h) refl

-- what is filtered out is gone
pub tally-filtered_out : {A : Type 0} (p : A → Bool) → (xs : List A) → tally p (filter (λ x. not (p x)) xs) ≡ 0
tally-filtered_out p [] = refl
tally-filtered_out p (x ∷ xs) = filter_same p (p x) x (filter (λ y. not (p y)) xs) refl (tally-filtered_out p xs)

not_both : (c : Bool) → (c ≡ true → true ≡ false) → c ≡ false
not_both true h = let e = h refl in cc
not_both false h = refl

keep_other : {A : Type 0} (q : A → Bool) (b : Bool) (x : A) (rest xs : List A) → (q x ≡ true → b ≡ false) → tally q rest ≡ tally q xs → tally q (cond (not b) (x ∷ rest) rest) ≡ cond (q x) 1 0 + tally q xs
keep_other q true x rest xs h e = let n = not_both (q x) h in rw n (omega (arith, e))
keep_other q false x rest xs h e = rw e refl

-- and what isn't is kept
pub tally-filtered_other : {A : Type 0} (p q : A → Bool) → ((x : A) → q x ≡ true → p x ≡ false) → (xs : List A) → tally q (filter (λ x. not (p x)) xs) ≡ tally q xs
tally-filtered_other p q h [] = refl
tally-filtered_other p q h (x ∷ xs) = keep_other q (p x) x (filter (λ y. not (p y)) xs) xs (h x) (tally-filtered_other p q h xs)

behind_step : {A : Type 0} (p : A → Bool) (q : A → Bool) (b : Bool) (x y : A) (xs rest : List A) (r : Option (A × List A)) → ((z : A) (others : List A) → r ≡ Some (z, others) → tally q xs ≡ cond (q z) 1 0 + tally q others) → cond b (Some (x, xs)) (behind x r) ≡ Some (y, rest) → cond (q x) 1 0 + tally q xs ≡ cond (q y) 1 0 + tally q rest
behind_step p q true x y xs rest r h e = let parts = some_pair_parts x y xs rest e in rw (parts.0, parts.1) refl
behind_step p q false x y xs rest None h e = cc
behind_step p q false x y xs rest (Some found) h e =
    let parts = some_pair_parts found.0 y (x ∷ found.1) rest e in
    let a : found.0 ≡ y = parts.0 in
    let b : x ∷ found.1 ≡ rest = parts.1 in
    let k = h found.0 found.1 refl in
    rw (← a, ← b) (omega (arith, k))

-- what is picked, and the others
pub tally_pick : {A : Type 0} (p q : A → Bool) → (xs : List A) (y : A) (rest : List A) → pick p xs ≡ Some (y, rest) → tally q xs ≡ cond (q y) 1 0 + tally q rest
tally_pick p q [] y rest e = cc
tally_pick p q (x ∷ xs) y rest e = behind_step p q (p x) x y xs rest (pick p xs) (tally_pick p q xs) e

passes_step : {A : Type 0} (p : A → Bool) (b : Bool) (x y : A) (xs rest : List A) (r : Option (A × List A)) → p x ≡ b → ((z : A) (others : List A) → r ≡ Some (z, others) → p z ≡ true) → cond b (Some (x, xs)) (behind x r) ≡ Some (y, rest) → p y ≡ true
passes_step p true x y xs rest r t h e = let a = (some_pair_parts x y xs rest e).0 in rw (← a) t
passes_step p false x y xs rest None t h e = cc
passes_step p false x y xs rest (Some found) t h e = let a : found.0 ≡ y = (some_pair_parts found.0 y (x ∷ found.1) rest e).0 in rw (← a) (h found.0 found.1 refl)

-- what is picked passes
pub pick_passes : {A : Type 0} (p : A → Bool) → (xs : List A) (y : A) (rest : List A) → pick p xs ≡ Some (y, rest) → p y ≡ true
pick_passes p [] y rest e = cc
pick_passes p (x ∷ xs) y rest e = passes_step p (p x) x y xs rest (pick p xs) refl (pick_passes p xs) e

pub tally-append : {A : Type 0} (q : A → Bool) → (xs ys : List A) → tally q (xs ++ ys) ≡ tally q xs + tally q ys
tally-append q [] ys = omega arith
tally-append q (x ∷ xs) ys = omega (arith, tally-append q xs ys)

-- one more at the end
pub tally-push : {A : Type 0} (q : A → Bool) (b : Bool) (xs : List A) (y : A) → q y ≡ b → tally q (xs ++ y ∷ []) ≡ tally q xs + cond b 1 0
tally-push q b xs y h = let a = tally-append q xs (y ∷ []) in rw (a, h) (omega arith)

one_of : (b c : Bool) → (b ≡ true → c ≡ true) → cond b 1 0 ≤ cond c 1 0
one_of true true h = omega arith
one_of true false h = let e = h refl in cc
one_of false true h = omega arith
one_of false false h = omega arith

-- an item that passes only if the one before did
pub tally-changed : {A : Type 0} (q : A → Bool) (f : A → A) → (xs : List A) (i : ℕ) (x : A) → slice_get xs i ≡ Some x → (q (f x) ≡ true → q x ≡ true) → tally q (changed f xs i) ≤ tally q xs
tally-changed q f [] i x at h = omega arith
tally-changed q f (y ∷ xs) zero x at h =
    let same : y ≡ x = cc in
    let k = one_of (q (f x)) (q x) h in
    rw same (omega (arith, k))
tally-changed q f (y ∷ xs) (suc i) x at h = omega (arith, tally-changed q f xs i x at h)

-- an item put at an index
pub tally-put : {A : Type 0} (q : A → Bool) (y : A) → (xs : List A) (i : ℕ) → tally q (changed (λ _. y) xs i) ≤ tally q xs + cond (q y) 1 0
tally-put q y [] i = omega arith
tally-put q y (x ∷ xs) zero = omega arith
tally-put q y (x ∷ xs) (suc i) = omega (arith, tally-put q y xs i)

-- what passes is counted
pub tally-at : {A : Type 0} (q : A → Bool) → (xs : List A) (i : ℕ) (x : A) → slice_get xs i ≡ Some x → q x ≡ true → 1 ≤ tally q xs
tally-at q [] i x at h = cc
tally-at q (y ∷ xs) zero x at h = let same : y ≡ x = cc in rw (same, h) (omega arith)
tally-at q (y ∷ xs) (suc i) x at h = let k = tally-at q xs i x at h in omega (arith, k)

pub tally-map : {A : Type 0} (q : A → Bool) (f : A → A) → ((x : A) → q (f x) ≡ true → q x ≡ true) → (xs : List A) → tally q (map f xs) ≤ tally q xs
tally-map q f h [] = omega arith
tally-map q f h (x ∷ xs) = let k = one_of (q (f x)) (q x) (h x) in omega (arith, k, tally-map q f h xs)

-- items that pass only if the ones before did, each changed by its id
pub tally-each_from : {A : Type 0} (q : A → Bool) (f : ℕ → A → A) → ((k : ℕ) (x : A) → q (f k x) ≡ true → q x ≡ true) → (n : ℕ) (xs : List A) → tally q (each_from f n xs) ≤ tally q xs
tally-each_from q f h n [] = omega arith
tally-each_from q f h n (x ∷ xs) = let k = one_of (q (f n x)) (q x) (h n x) in omega (arith, k, tally-each_from q f h (suc n) xs)

-- an item at an index that passes only if the one before did, if there is one
pub tally-changed_there : {A : Type 0} (q : A → Bool) (f : A → A) → ((x : A) → q (f x) ≡ true → q x ≡ true) → (xs : List A) (i : ℕ) → tally q (changed f xs i) ≤ tally q xs
tally-changed_there q f h [] i = omega arith
tally-changed_there q f h (x ∷ xs) zero = let k = one_of (q (f x)) (q x) (h x) in omega (arith, k)
tally-changed_there q f h (x ∷ xs) (suc i) = omega (arith, tally-changed_there q f h xs i)

none_step : (b c : Bool) (n : ℕ) → (b || c) ≡ false → (c ≡ false → n ≡ 0) → cond b 1 0 + n ≡ 0
none_step true c n h k = cc
none_step false c n h k = let z = k h in omega arith

pub tally_none : {A : Type 0} (q : A → Bool) → (xs : List A) → list_any q xs ≡ false → tally q xs ≡ 0
tally_none q [] h = refl
tally_none q (x ∷ xs) h = none_step (q x) (list_any q xs) (tally q xs) h (tally_none q xs)

any_step : (b c : Bool) (n : ℕ) → cond b 1 0 + n ≡ 0 → (n ≡ 0 → c ≡ false) → (b || c) ≡ false
any_step true c n h k = absurd (omega arith)
any_step false c n h k = k (omega arith)

pub none_tally : {A : Type 0} (q : A → Bool) → (xs : List A) → tally q xs ≡ 0 → list_any q xs ≡ false
none_tally q [] h = refl
none_tally q (x ∷ xs) h = any_step (q x) (list_any q xs) (tally q xs) h (none_tally q xs)

-- an item put in the place of another one
pub tally-put_exact : {A : Type 0} (q : A → Bool) (y : A) → (xs : List A) (i : ℕ) (x : A) → slice_get xs i ≡ Some x → tally q (changed (λ _. y) xs i) + cond (q x) 1 0 ≡ tally q xs + cond (q y) 1 0
tally-put_exact q y [] i x at = cc
tally-put_exact q y (z ∷ xs) zero x at = let same : z ≡ x = cc in rw same (omega arith)
tally-put_exact q y (z ∷ xs) (suc i) x at = omega (arith, tally-put_exact q y xs i x at)

-- a stronger test passes no more often
pub tally-le : {A : Type 0} (q p : A → Bool) → ((x : A) → q x ≡ true → p x ≡ true) → (xs : List A) → tally q xs ≤ tally p xs
tally-le q p h [] = omega arith
tally-le q p h (x ∷ xs) = let k = one_of (q x) (p x) (h x) in omega (arith, k, tally-le q p h xs)

pub tally-map_same : {A : Type 0} (q : A → Bool) (f : A → A) → ((x : A) → q (f x) ≡ q x) → (xs : List A) → tally q (map f xs) ≡ tally q xs
tally-map_same q f h [] = refl
tally-map_same q f h (x ∷ xs) = rw (h x, tally-map_same q f h xs) refl

fewer_step : {A : Type 0} (q : A → Bool) (b : Bool) (x : A) (rest xs : List A) → tally q rest ≤ tally q xs → tally q (cond b (x ∷ rest) rest) ≤ cond (q x) 1 0 + tally q xs
fewer_step q true x rest xs h = omega (arith, h)
fewer_step q false x rest xs h = omega (arith, h)

-- what is filtered passes no more often
pub tally-filtered_fewer : {A : Type 0} (q p : A → Bool) → (xs : List A) → tally q (filter p xs) ≤ tally q xs
tally-filtered_fewer q p [] = omega arith
tally-filtered_fewer q p (x ∷ xs) = fewer_step q (p x) x (filter p xs) xs (tally-filtered_fewer q p xs)

-- none pass: neither the first one nor the others
pub none_first : (b : Bool) (n : ℕ) → cond b 1 0 + n ≡ 0 → (b ≡ false) × (n ≡ 0)
none_first true n h = absurd (omega arith)
none_first false n h = (refl, omega arith)

found_step : {A : Type 0} (P : A → Type 0) (b : Bool) (x w : A) (o : Option A) → P x → cond b (Some x) o ≡ Some w → (o ≡ Some w → P w) → P w
found_step P true x w o h e later = let same : x ≡ w = cc in subst P same h
found_step P false x w o h e later = later e

-- what holds of each item holds of the one that is found
pub found_holds : {A : Type 0} (P : A → Type 0) (p : A → Bool) (w : A) → (xs : List A) → All P xs → find p xs ≡ Some w → P w
found_holds P p w [] h e = cc
found_holds P p w (x ∷ xs) h e = found_step P (p x) x w (find p xs) (All-head P x xs h) e (found_holds P p w xs (All-tail P x xs h))
