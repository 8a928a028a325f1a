-- Counts over lists that are filtered and added to, and items by their ids, where one is changed.
use Rattle.std.proofs.Common.{◌≡◌, ◌≢◌, ℕ, zero, suc, ◌+◌, ◌-◌, ◌≤◌, Bool, true, false, not, cond, ◌||◌, eqb, ltb, List, [], ◌∷◌, ◌++◌, length, Some, refl, ap, sym, ◌∙◌, arith, rules, tests}
use Rattle.std.specs.Prelude.{slice_get, option_map}
use Rattle.std.specs.List.{filter, list_any}
use Rattle.p9_manual.specs.Standing.{times}
use Rattle.p9_manual.specs.State.{by_id, changed}

pub eqb_same : (t : ℕ) → eqb t t ≡ true
eqb_same t = search (rules, tests)

pub eqb_other : (t u : ℕ) → u ≢ t → eqb t u ≡ false
eqb_other t u ne = search (rules, tests)

pub eqb_equal : (t u : ℕ) → eqb t u ≡ true → t ≡ u
eqb_equal t u h = search (rules, tests)

keep_step : {A : Type 0} (b : Bool) (x : A) (xs rest : List A) (n : ℕ) → cond b 1 0 + n ≡ 0 → (n ≡ 0 → rest ≡ xs) → cond (not b) (x ∷ rest) rest ≡ x ∷ xs
keep_step true x xs rest n h k = absurd (omega arith)
keep_step false x xs rest n h k = ap (λ ys. x ∷ ys) (k (omega arith))

-- what passes nowhere is kept whole
pub none_out : {A : Type 0} (p : A → Bool) → (xs : List A) → times p xs ≡ 0 → filter (λ x. not (p x)) xs ≡ xs
none_out p [] h = refl
none_out p (x ∷ xs) h = keep_step (p x) x xs (filter (λ y. not (p y)) xs) (times p xs) h (none_out p xs)

pub times_append : {A : Type 0} (q : A → Bool) → (xs ys : List A) → times q (xs ++ ys) ≡ times q xs + times q ys
times_append q [] ys = omega arith
times_append q (x ∷ xs) ys = omega (arith, times_append q xs ys)

any_step : {A : Type 0} (p : A → Bool) (b : Bool) (xs : List A) → (list_any p xs ≡ false → times p xs ≡ 0) → (b || list_any p xs) ≡ false → cond b 1 0 + times p xs ≡ 0
any_step p true xs k h = absurd (cc h)
any_step p false xs k h = let n = k h in omega (arith, n)

-- none passes
pub none_times : {A : Type 0} (p : A → Bool) → (xs : List A) → list_any p xs ≡ false → times p xs ≡ 0
none_times p [] h = refl
none_times p (x ∷ xs) h = any_step p (p x) xs (none_times p xs) h

some_step : {A : Type 0} (p : A → Bool) (b : Bool) (xs : List A) → (list_any p xs ≡ true → 1 ≤ times p xs) → (b || list_any p xs) ≡ true → 1 ≤ cond b 1 0 + times p xs
some_step p true xs k h = omega arith
some_step p false xs k h = let n = k h in omega (arith, n)

-- one passes
pub some_times : {A : Type 0} (p : A → Bool) → (xs : List A) → list_any p xs ≡ true → 1 ≤ times p xs
some_times p [] h = absurd (cc h)
some_times p (x ∷ xs) h = some_step p (p x) xs (some_times p xs) h

fewer_step : {A : Type 0} (q : A → Bool) (b : Bool) (x : A) (fs xs : List A) → times q fs ≤ times q xs → times q (cond b (x ∷ fs) fs) ≤ cond (q x) 1 0 + times q xs
fewer_step q true x fs xs h = omega arith
fewer_step q false x fs xs h = omega arith

-- no more pass where some are taken out
pub fewer : {A : Type 0} (p q : A → Bool) → (xs : List A) → times q (filter p xs) ≤ times q xs
fewer p q [] = omega arith
fewer p q (x ∷ xs) = fewer_step q (p x) x (filter p xs) xs (fewer p q xs)

cleared_step : {A : Type 0} (q : A → Bool) (b : Bool) (x : A) (fs : List A) → q x ≡ b → times q fs ≡ 0 → times q (cond (not b) (x ∷ fs) fs) ≡ 0
cleared_step q true x fs e h = h
cleared_step q false x fs e h = rw e (omega (arith, h))

-- none is left of those that are taken out
pub cleared : {A : Type 0} (q : A → Bool) → (xs : List A) → times q (filter (λ x. not (q x)) xs) ≡ 0
cleared q [] = refl
cleared q (x ∷ xs) = cleared_step q (q x) x (filter (λ y. not (q y)) xs) refl (cleared q xs)

kept_step : {A : Type 0} (p q : A → Bool) (b : Bool) (x : A) (fs xs : List A) → q x ≡ b → (q x ≡ true → p x ≡ false) → times p fs ≡ times p xs → times p (cond (not b) (x ∷ fs) fs) ≡ cond (p x) 1 0 + times p xs
kept_step p q true x fs xs e k h = let z = k e in rw z (omega (arith, h))
kept_step p q false x fs xs e k h = omega (arith, h)

-- as many of the others are left
pub all_kept : {A : Type 0} (p q : A → Bool) → ((x : A) → q x ≡ true → p x ≡ false) → (xs : List A) → times p (filter (λ x. not (q x)) xs) ≡ times p xs
all_kept p q k [] = refl
all_kept p q k (x ∷ xs) = kept_step p q (q x) x (filter (λ y. not (q y)) xs) xs refl (k x) (all_kept p q k xs)

-- as many pass two tests that agree
pub times_same : {A : Type 0} (q p : A → Bool) → ((x : A) → q x ≡ p x) → (xs : List A) → times q xs ≡ times p xs
times_same q p h [] = refl
times_same q p h (x ∷ xs) = rw (h x, times_same q p h xs) refl

pub by_id_suc : {A : Type 0} (xs : List A) (i : ℕ) → by_id xs (suc i) ≡ slice_get xs i
by_id_suc xs i = let n : suc i - 1 ≡ i = omega arith in let b : ltb 0 (suc i) ≡ true = search (rules, tests) in rw (b, n) refl

changed_suc : {A : Type 0} (f : A → A) (xs : List A) (i : ℕ) → changed f xs (suc i - 1) ≡ changed f xs i
changed_suc f xs i = let n : suc i - 1 ≡ i = omega arith in rw n refl

get_changed_same : {A : Type 0} (f : A → A) → (xs : List A) (i : ℕ) → slice_get (changed f xs i) i ≡ option_map f (slice_get xs i)
get_changed_same f [] i = refl
get_changed_same f (x ∷ xs) zero = refl
get_changed_same f (x ∷ xs) (suc i) = get_changed_same f xs i

get_changed_other : {A : Type 0} (f : A → A) → (xs : List A) (i j : ℕ) → j ≢ i → slice_get (changed f xs i) j ≡ slice_get xs j
get_changed_other f [] i j ne = refl
get_changed_other f (x ∷ xs) zero zero ne = absurd (ne refl)
get_changed_other f (x ∷ xs) zero (suc j) ne = refl
get_changed_other f (x ∷ xs) (suc i) zero ne = refl
get_changed_other f (x ∷ xs) (suc i) (suc j) ne = get_changed_other f xs i j (λ e. ne (ap suc e))

-- the item that was changed
pub by_id_changed_same : {A : Type 0} (f : A → A) → (xs : List A) (k : ℕ) (x : A) → by_id xs k ≡ Some x → by_id (changed f xs (k - 1)) k ≡ Some (f x)
by_id_changed_same f xs zero x e = cc
by_id_changed_same f xs (suc k) x e = rw (changed_suc, by_id_suc, get_changed_same, sym (by_id_suc xs k), e) refl

-- and each other one
pub by_id_changed_other : {A : Type 0} (f : A → A) → (xs : List A) (k j : ℕ) (x : A) → by_id xs k ≡ Some x → j ≢ k → by_id (changed f xs (k - 1)) j ≡ by_id xs j
by_id_changed_other f xs zero j x e ne = cc
by_id_changed_other f xs (suc k) zero x e ne = refl
by_id_changed_other f xs (suc k) (suc j) x e ne = rw (changed_suc, by_id_suc (changed f xs k) j, by_id_suc xs j, get_changed_other f xs k j (λ same. ne (ap suc same))) refl

-- as many items
pub length_changed : {A : Type 0} (f : A → A) → (xs : List A) (i : ℕ) → length (changed f xs i) ≡ length xs
length_changed f [] i = refl
length_changed f (x ∷ xs) zero = refl
length_changed f (x ∷ xs) (suc i) = ap suc (length_changed f xs i)

get_some : {A : Type 0} (xs : List A) (i : ℕ) → i + 1 ≤ length xs → (x : A) × (slice_get xs i ≡ Some x)
get_some [] i h = absurd (omega arith)
get_some (x ∷ xs) zero h = (x, refl)
get_some (x ∷ xs) (suc i) h = get_some xs i (omega arith)

-- an item is there where its id is within the list
pub by_id_some : {A : Type 0} (xs : List A) (k : ℕ) → 1 ≤ k → k ≤ length xs → (x : A) × (by_id xs k ≡ Some x)
by_id_some xs zero a b = absurd (omega arith)
by_id_some xs (suc i) a b = let k = get_some xs i (omega arith) in (k.0, by_id_suc xs i ∙ k.1)

get_within : {A : Type 0} (xs : List A) (i : ℕ) (x : A) → slice_get xs i ≡ Some x → i + 1 ≤ length xs
get_within [] i x e = absurd (cc e)
get_within (y ∷ ys) zero x e = omega arith
get_within (y ∷ ys) (suc i) x e = let le = get_within ys i x e in omega (arith, le)

-- and its id is within the list where it is there
pub by_id_within : {A : Type 0} (xs : List A) (k : ℕ) (x : A) → by_id xs k ≡ Some x → (1 ≤ k) × (k ≤ length xs)
by_id_within xs zero x e = absurd (cc e)
by_id_within xs (suc i) x e = let le = get_within xs i x (sym (by_id_suc xs i) ∙ e) in (omega arith, omega (arith, le))
