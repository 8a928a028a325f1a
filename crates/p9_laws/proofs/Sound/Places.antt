-- Items by their ids, and the place of a thread, after one was changed.
use Rattle.std.proofs.Common.{◌≡◌, ◌≢◌, ℕ, zero, suc, ◌+◌, ◌-◌, Bool, true, false, cond, ltb, List, [], ◌∷◌, ◌++◌, length, map, Option, Some, None, refl, ap, sym, ◌∙◌, add-one, arith, rules, tests}
use Rattle.std.specs.Prelude.{slice_get, option_map}
use Rattle.std.proofs.lemmas.Option.{slice_get-map}
use Rattle.p9_manual.specs.declared.state.Place.{Place}
use Rattle.p9_manual.specs.declared.state.Place.TheVariants.{Running, Ended}
use Rattle.p9_manual.specs.declared.state.Thread.{Thread}
use Rattle.p9_manual.specs.State.{by_id, changed, placed, at_place}
use Rattle.p9_manual.specs.Standing.{place_of, place_in}

pub by_id-suc : {A : Type 0} (xs : List A) (i : ℕ) → by_id xs (suc i) ≡ slice_get xs i
by_id-suc xs i = let n : suc i - 1 ≡ i = omega arith in let b : ltb 0 (suc i) ≡ true = search (rules, tests) in rw (b, n) refl

changed-suc : {A : Type 0} (f : A → A) (xs : List A) (i : ℕ) → changed f xs (suc i - 1) ≡ changed f xs i
changed-suc f xs i = let n : suc i - 1 ≡ i = omega arith in rw n refl

slice_get-changed_same : {A : Type 0} (f : A → A) → (xs : List A) (i : ℕ) → slice_get (changed f xs i) i ≡ option_map f (slice_get xs i)
slice_get-changed_same f [] i = refl
slice_get-changed_same f (x ∷ xs) zero = refl
slice_get-changed_same f (x ∷ xs) (suc i) = slice_get-changed_same f xs i

slice_get-changed_other : {A : Type 0} (f : A → A) → (xs : List A) (i j : ℕ) → j ≢ i → slice_get (changed f xs i) j ≡ slice_get xs j
slice_get-changed_other f [] i j ne = refl
slice_get-changed_other f (x ∷ xs) zero zero ne = absurd (ne refl)
slice_get-changed_other f (x ∷ xs) zero (suc j) ne = refl
slice_get-changed_other f (x ∷ xs) (suc i) zero ne = refl
slice_get-changed_other f (x ∷ xs) (suc i) (suc j) ne = slice_get-changed_other f xs i j (λ e. ne (ap suc e))

-- the item that was changed
pub by_id-changed_same : {A : Type 0} (f : A → A) → (xs : List A) (k : ℕ) (x : A) → by_id xs k ≡ Some x → by_id (changed f xs (k - 1)) k ≡ Some (f x)
by_id-changed_same f xs zero x e = cc
by_id-changed_same f xs (suc k) x e = rw (changed-suc, by_id-suc, slice_get-changed_same, sym (by_id-suc xs k), e) refl

-- and each other one
pub by_id-changed_other : {A : Type 0} (f : A → A) → (xs : List A) (k j : ℕ) (x : A) → by_id xs k ≡ Some x → j ≢ k → by_id (changed f xs (k - 1)) j ≡ by_id xs j
by_id-changed_other f xs zero j x e ne = cc
by_id-changed_other f xs (suc k) zero x e ne = refl
by_id-changed_other f xs (suc k) (suc j) x e ne = rw (changed-suc, by_id-suc (changed f xs k) j, by_id-suc xs j, slice_get-changed_other f xs k j (λ same. ne (ap suc same))) refl

-- there is a thread t
abbrev pub IsMade : ℕ → List Thread → Type 0
IsMade t threads = (thread : Thread) × (by_id threads t ≡ Some thread)

some_from_place : (o : Option Thread) → place_in o ≢ Ended → (thread : Thread) × (o ≡ Some thread)
some_from_place None ne = absurd (ne refl)
some_from_place (Some thread) ne = (thread, refl)

pub made_from_place : (threads : List Thread) (t : ℕ) → place_of threads t ≢ Ended → IsMade t threads
made_from_place threads t ne = some_from_place (by_id threads t) ne

pub place_of-placed_same : (threads : List Thread) (t : ℕ) (place : Place) → IsMade t threads → place_of (placed t place threads) t ≡ place
place_of-placed_same threads t place made = ap place_in (by_id-changed_same (at_place place) threads t made.0 made.1)

pub place_of-placed_other : (threads : List Thread) (t u : ℕ) (place : Place) → IsMade t threads → u ≢ t → place_of (placed t place threads) u ≡ place_of threads u
place_of-placed_other threads t u place made ne = ap place_in (by_id-changed_other (at_place place) threads t u made.0 made.1 ne)

get_step : {A : Type 0} (b : Bool) (o : Option A) (x : A) → cond b o None ≡ Some x → o ≡ Some x
get_step true o x h = h
get_step false o x h = cc

-- the item with this id, from its index in the list
pub get_from_by_id : {A : Type 0} (xs : List A) (t : ℕ) (x : A) → by_id xs t ≡ Some x → slice_get xs (t - 1) ≡ Some x
get_from_by_id xs t x e = get_step (ltb 0 t) (slice_get xs (t - 1)) x e

by_id-map_step : {A B : Type 0} (f : A → B) (b : Bool) (o : Option A) (r : Option B) → r ≡ option_map f o → cond b r None ≡ option_map f (cond b o None)
by_id-map_step f true o r h = h
by_id-map_step f false o r h = refl

-- each item of a mapped list
pub by_id-map : {A B : Type 0} (f : A → B) (xs : List A) (k : ℕ) → by_id (map f xs) k ≡ option_map f (by_id xs k)
by_id-map f xs k = by_id-map_step f (ltb 0 k) (slice_get xs (k - 1)) (slice_get (map f xs) (k - 1)) (slice_get-map f xs (k - 1))

slice_get-push_same : {A : Type 0} (y : A) → (xs : List A) → slice_get (xs ++ y ∷ []) (length xs) ≡ Some y
slice_get-push_same y [] = refl
slice_get-push_same y (x ∷ xs) = slice_get-push_same y xs

slice_get-push_other : {A : Type 0} (y : A) → (xs : List A) (i : ℕ) → i ≢ length xs → slice_get (xs ++ y ∷ []) i ≡ slice_get xs i
slice_get-push_other y [] zero ne = absurd (ne refl)
slice_get-push_other y [] (suc i) ne = refl
slice_get-push_other y (x ∷ xs) zero ne = refl
slice_get-push_other y (x ∷ xs) (suc i) ne = slice_get-push_other y xs i (λ e. ne (ap suc e))

slice_get-past : {A : Type 0} → (xs : List A) → slice_get xs (length xs) ≡ None
slice_get-past [] = refl
slice_get-past (x ∷ xs) = slice_get-past xs

-- one more item has the next id
pub by_id-push_same : {A : Type 0} (y : A) (xs : List A) → by_id (xs ++ y ∷ []) (length xs + 1) ≡ Some y
by_id-push_same y xs = rw (add-one, by_id-suc) (slice_get-push_same y xs)

-- and the others are as before
pub by_id-push_other : {A : Type 0} (y : A) (xs : List A) (k : ℕ) → k ≢ length xs + 1 → by_id (xs ++ y ∷ []) k ≡ by_id xs k
by_id-push_other y xs zero ne = refl
by_id-push_other y xs (suc k) ne = rw (by_id-suc (xs ++ y ∷ []) k, by_id-suc xs k) (slice_get-push_other y xs k (λ e. ne (ap suc e ∙ sym (add-one (length xs)))))

-- nothing has that id before
pub by_id-past : {A : Type 0} (xs : List A) → by_id xs (length xs + 1) ≡ None
by_id-past xs = rw (add-one, by_id-suc) (slice_get-past xs)

-- a thread that runs was made before the next one
pub runs_before : (threads : List Thread) (t : ℕ) → place_of threads t ≡ Running → t ≢ length threads + 1
runs_before threads t runs e = let past = ap (place_of threads) e ∙ ap place_in (by_id-past threads) in cc
