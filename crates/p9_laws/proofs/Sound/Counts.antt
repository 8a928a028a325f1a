-- Counts over lists that are picked from, filtered, searched and added to.
use Rattle.std.proofs.Common.{◌≡◌, ℕ, zero, suc, ◌+◌, ◌≤◌, Bool, true, false, not, cond, ◌||◌, List, [], ◌∷◌, ◌++◌, Option, Some, None, refl, ap, subst, arith}
use Rattle.std.specs.Prelude.{All, slice_get}
use Rattle.std.specs.List.{filter, find, list_any, AllByRecursion}
use Rattle.std.proofs.lemmas.Option.{some_pair_parts}
use Rattle.std.proofs.lemmas.List.Elements.{All-from_recursion, recursion_from_All}
use Rattle.p9_manual.specs.Standing.{times}
use Rattle.p9_manual.specs.State.{changed, pick, behind}

keep_step : {A : Type 0} (b : Bool) (x : A) (xs rest : List A) (n : ℕ) → cond b 1 0 + n ≡ 0 → (n ≡ 0 → rest ≡ xs) → cond (not b) (x ∷ rest) rest ≡ x ∷ xs
keep_step true x xs rest n h k = absurd (omega arith)
keep_step false x xs rest n h k = ap (λ ys. x ∷ ys) (k (omega arith))

-- what passes nowhere is kept whole
pub filter_none : {A : Type 0} (p : A → Bool) → (xs : List A) → times p xs ≡ 0 → filter (λ x. not (p x)) xs ≡ xs
filter_none p [] h = refl
filter_none p (x ∷ xs) h = keep_step (p x) x xs (filter (λ y. not (p y)) xs) (times p xs) h (filter_none p xs)

behind_step : {A : Type 0} (p : A → Bool) (q : A → Bool) (b : Bool) (x y : A) (xs rest : List A) (r : Option (A × List A)) → ((z : A) (others : List A) → r ≡ Some (z, others) → times q xs ≡ cond (q z) 1 0 + times q others) → cond b (Some (x, xs)) (behind x r) ≡ Some (y, rest) → cond (q x) 1 0 + times q xs ≡ cond (q y) 1 0 + times q rest
behind_step p q true x y xs rest r h e = let parts = some_pair_parts x y xs rest e in rw (parts.0, parts.1) refl
behind_step p q false x y xs rest None h e = cc
behind_step p q false x y xs rest (Some found) h e =
    let parts = some_pair_parts found.0 y (x ∷ found.1) rest e in
    let a : found.0 ≡ y = parts.0 in
    let b : x ∷ found.1 ≡ rest = parts.1 in
    let k = h found.0 found.1 refl in
    rw (← a, ← b) (omega (arith, k))

-- what is picked, and the others
pub times_pick : {A : Type 0} (p q : A → Bool) → (xs : List A) (y : A) (rest : List A) → pick p xs ≡ Some (y, rest) → times q xs ≡ cond (q y) 1 0 + times q rest
times_pick p q [] y rest e = cc
times_pick p q (x ∷ xs) y rest e = behind_step p q (p x) x y xs rest (pick p xs) (times_pick p q xs) e

passes_step : {A : Type 0} (p : A → Bool) (b : Bool) (x y : A) (xs rest : List A) (r : Option (A × List A)) → p x ≡ b → ((z : A) (others : List A) → r ≡ Some (z, others) → p z ≡ true) → cond b (Some (x, xs)) (behind x r) ≡ Some (y, rest) → p y ≡ true
passes_step p true x y xs rest r t h e = let a = (some_pair_parts x y xs rest e).0 in rw (← a) t
passes_step p false x y xs rest None t h e = cc
passes_step p false x y xs rest (Some found) t h e = let a : found.0 ≡ y = (some_pair_parts found.0 y (x ∷ found.1) rest e).0 in rw (← a) (h found.0 found.1 refl)

-- what is picked passes
pub pick_passes : {A : Type 0} (p : A → Bool) → (xs : List A) (y : A) (rest : List A) → pick p xs ≡ Some (y, rest) → p y ≡ true
pick_passes p [] y rest e = cc
pick_passes p (x ∷ xs) y rest e = passes_step p (p x) x y xs rest (pick p xs) refl (pick_passes p xs) e

every_changed : {A : Type 0} (P : A → Type 0) (f : A → A) → ((x : A) → P x → P (f x)) → (xs : List A) (i : ℕ) → AllByRecursion P xs → AllByRecursion P (changed f xs i)
every_changed P f k [] i h = tt
every_changed P f k (x ∷ xs) zero h = (k x h.0, h.1)
every_changed P f k (x ∷ xs) (suc i) h = (h.0, every_changed P f k xs i h.1)

-- what holds of all holds of the one at an index
pub held_at : {A : Type 0} (P : A → Type 0) → (xs : List A) (i : ℕ) (x : A) → AllByRecursion P xs → slice_get xs i ≡ Some x → P x
held_at P [] i x h e = cc
held_at P (y ∷ ys) zero x h e = let same : y ≡ x = cc in subst P same h.0
held_at P (y ∷ ys) (suc i) x h e = held_at P ys i x h.1 e

every_changed_at : {A : Type 0} (P : A → Type 0) (f : A → A) → (xs : List A) (i : ℕ) → ((x : A) → slice_get xs i ≡ Some x → P (f x)) → AllByRecursion P xs → AllByRecursion P (changed f xs i)
every_changed_at P f [] i k h = tt
every_changed_at P f (x ∷ xs) zero k h = (k x refl, h.1)
every_changed_at P f (x ∷ xs) (suc i) k h = (h.0, every_changed_at P f xs i k h.1)

-- what holds of all, and of the one that was changed, holds of all then
pub All-changed_at : {A : Type 0} (P : A → Type 0) (f : A → A) (xs : List A) (i : ℕ) → ((x : A) → slice_get xs i ≡ Some x → P (f x)) → All P xs → All P (changed f xs i)
All-changed_at P f xs i k h = All-from_recursion P (changed f xs i) (every_changed_at P f xs i k (recursion_from_All P xs h))

-- what f keeps holds of all after one was changed by f
pub All-changed : {A : Type 0} (P : A → Type 0) (f : A → A) → ((x : A) → P x → P (f x)) → (xs : List A) (i : ℕ) → All P xs → All P (changed f xs i)
All-changed P f k xs i h = All-from_recursion P (changed f xs i) (every_changed P f k xs i (recursion_from_All P xs h))

pub times-append : {A : Type 0} (q : A → Bool) → (xs ys : List A) → times q (xs ++ ys) ≡ times q xs + times q ys
times-append q [] ys = omega arith
times-append q (x ∷ xs) ys = omega (arith, times-append q xs ys)

-- one more at the end, of which it is known whether it passes
pub times-push : {A : Type 0} (q : A → Bool) (b : Bool) (xs : List A) (y : A) → q y ≡ b → times q (xs ++ y ∷ []) ≡ times q xs + cond b 1 0
times-push q b xs y h = let a = times-append q xs (y ∷ []) in rw (a, h) (omega arith)

split_step : {A : Type 0} (q : A → Bool) (b : Bool) (w : A) (fs gs ws : List A) → times q fs + times q gs ≡ times q ws → times q (cond b (w ∷ fs) fs) + times q (cond (not b) (w ∷ gs) gs) ≡ cond (q w) 1 0 + times q ws
split_step q true w fs gs ws e = omega arith
split_step q false w fs gs ws e = omega arith

-- those that pass p and the others
pub times_parts : {A : Type 0} (q p : A → Bool) → (ws : List A) → times q (filter p ws) + times q (filter (λ w. not (p w)) ws) ≡ times q ws
times_parts q p [] = refl
times_parts q p (w ∷ ws) = split_step q (p w) w (filter p ws) (filter (λ x. not (p x)) ws) ws (times_parts q p ws)

cleared_step : {A : Type 0} (q : A → Bool) (b : Bool) (w : A) (ws : List A) → q w ≡ b → times q ws ≡ 0 → times q (cond (not b) (w ∷ ws) ws) ≡ 0
cleared_step q true w ws h e = e
cleared_step q false w ws h e = rw h (omega arith)

-- none passes of those that do not pass
pub cleared : {A : Type 0} (q : A → Bool) → (ws : List A) → times q (filter (λ w. not (q w)) ws) ≡ 0
cleared q [] = refl
cleared q (w ∷ ws) = cleared_step q (q w) w (filter (λ x. not (q x)) ws) refl (cleared q ws)

kept_step : {A : Type 0} (q : A → Bool) (b : Bool) (w : A) (fs ws : List A) → (b ≡ true → q w ≡ false) → times q fs ≡ times q ws → times q (cond (not b) (w ∷ fs) fs) ≡ cond (q w) 1 0 + times q ws
kept_step q true w fs ws h e = rw (h refl) (omega arith)
kept_step q false w fs ws h e = omega arith

-- as many pass of a list without some of which none passes
pub all_kept : {A : Type 0} (q p : A → Bool) → ((w : A) → p w ≡ true → q w ≡ false) → (ws : List A) → times q (filter (λ w. not (p w)) ws) ≡ times q ws
all_kept q p h [] = refl
all_kept q p h (w ∷ ws) = kept_step q (p w) w (filter (λ x. not (p x)) ws) ws (h w) (all_kept q p h ws)

left_step : {A : Type 0} (q : A → Bool) (b c d : Bool) (w : A) (fs ws : List A) → q w ≡ c → (c ≡ true → d ≡ b) → times q fs ≡ cond b 0 (times q ws) → times q (cond (not d) (w ∷ fs) fs) ≡ cond b 0 (cond c 1 0 + times q ws)
left_step q true c true w fs ws h k e = e
left_step q true true false w fs ws h k e = let f = k refl in cc
left_step q true false false w fs ws h k e = rw h (omega (arith, e))
left_step q false true true w fs ws h k e = let f = k refl in cc
left_step q false false true w fs ws h k e = omega (arith, e)
left_step q false c false w fs ws h k e = rw (h, e) refl

-- how many pass without some, among whom are all or none of those that pass
pub times_left : {A : Type 0} (q p : A → Bool) (b : Bool) → ((w : A) → q w ≡ true → p w ≡ b) → (ws : List A) → times q (filter (λ w. not (p w)) ws) ≡ cond b 0 (times q ws)
times_left q p true h [] = refl
times_left q p false h [] = refl
times_left q p b h (w ∷ ws) = left_step q b (q w) (p w) w (filter (λ x. not (p x)) ws) ws refl (h w) (times_left q p b h ws)

none_step : (b c : Bool) (n : ℕ) → (b || c) ≡ false → (c ≡ false → n ≡ 0) → cond b 1 0 + n ≡ 0
none_step true c n h k = cc
none_step false c n h k = let z = k h in omega arith

pub times_none : {A : Type 0} (q : A → Bool) → (xs : List A) → list_any q xs ≡ false → times q xs ≡ 0
times_none q [] h = refl
times_none q (x ∷ xs) h = none_step (q x) (list_any q xs) (times q xs) h (times_none q xs)

any_step : (b c : Bool) (n : ℕ) → (c ≡ true → 1 ≤ n) → (b || c) ≡ true → 1 ≤ cond b 1 0 + n
any_step true c n k h = omega arith
any_step false c n k h = let some = k h in omega (arith, some)

pub any_counts : {A : Type 0} (q : A → Bool) → (xs : List A) → list_any q xs ≡ true → 1 ≤ times q xs
any_counts q [] h = cc
any_counts q (x ∷ xs) h = any_step (q x) (list_any q xs) (times q xs) (any_counts q xs) h

found_step : {A : Type 0} (p q : A → Bool) (b : Bool) (x y : A) (r : Option A) (n : ℕ) → p x ≡ b → q y ≡ true → (r ≡ Some y → (p y ≡ true) × (1 ≤ n)) → cond b (Some x) r ≡ Some y → (p y ≡ true) × (1 ≤ cond (q x) 1 0 + n)
found_step p q true x y r n h t k e = let same : x ≡ y = cc in (rw (← same) h, rw (same, t) (omega arith))
found_step p q false x y r n h t k e = let found = k e in (found.0, omega (arith, found.1))

-- the first item that passes does, and it is one of the items
pub found_counts : {A : Type 0} (p q : A → Bool) → (xs : List A) (y : A) → q y ≡ true → find p xs ≡ Some y → (p y ≡ true) × (1 ≤ times q xs)
found_counts p q [] y t e = cc
found_counts p q (x ∷ xs) y t e = found_step p q (p x) x y (find p xs) (times q xs) refl t (found_counts p q xs y t) e

none_found_step : {A : Type 0} (b : Bool) (x : A) (r : Option A) (n : ℕ) → (r ≡ None → n ≡ 0) → cond b (Some x) r ≡ None → cond b 1 0 + n ≡ 0
none_found_step true x r n h e = cc
none_found_step false x r n h e = let z = h e in omega arith

-- where none is found none passes
pub none_found : {A : Type 0} (p : A → Bool) → (xs : List A) → find p xs ≡ None → times p xs ≡ 0
none_found p [] e = refl
none_found p (x ∷ xs) e = none_found_step (p x) x (find p xs) (times p xs) (none_found p xs) e

one_fewer : (a b : Bool) → (a ≡ true → b ≡ true) → cond a 1 0 ≤ cond b 1 0
one_fewer true b h = rw (h refl) (omega arith)
one_fewer false b h = omega arith

-- no more pass a test than a weaker one
pub times_fewer : {A : Type 0} (q p : A → Bool) → ((x : A) → q x ≡ true → p x ≡ true) → (xs : List A) → times q xs ≤ times p xs
times_fewer q p h [] = omega arith
times_fewer q p h (x ∷ xs) = let one = one_fewer (q x) (p x) (h x) in omega (arith, one, times_fewer q p h xs)
