-- Lists from which items are moved to the end, changed: what is counted, made of each or held by all.
use Rattle.std.proofs.Common.{◌≡◌, ℕ, ◌+◌, Bool, true, false, not, cond, List, [], ◌∷◌, ◌++◌, map, Some, refl, ap, subst, ◌∙◌, arith, append-nil}
use Rattle.std.specs.Prelude.{All}
use Rattle.std.specs.List.{filter, find, flat_map, AllByRecursion}
use Rattle.std.proofs.lemmas.List.Elements.{All-from_recursion, recursion_from_All, All-append, All-push, All-map, All-weaker, All-filter}
use Rattle.std.proofs.lemmas.List.Concat.{flat_map-append}
use Rattle.p9_manual.specs.Queues.{without_first}
use Rattle.p9_manual.specs.Standing.{times}
use Rattle.p9_laws.proofs.Sound.Counts.{times-append, times_parts}

times_step : {A : Type 0} (p g : A → Bool) (f : A → A) (b : Bool) (x w : A) (xs : List A) → p x ≡ b → ((y : A) → p y ≡ true → g (f y) ≡ g y) → cond b (Some x) (find p xs) ≡ Some w → (find p xs ≡ Some w → times g (without_first p xs ++ f w ∷ []) ≡ times g xs) → times g (cond b xs (x ∷ without_first p xs) ++ f w ∷ []) ≡ cond (g x) 1 0 + times g xs
times_step p g f true x w xs e h s k =
    let same : x ≡ w = cc in
    let a = times-append g xs (f x ∷ []) in
    let b = ap (λ c. cond {A = ℕ} c 1 0) (h x e) in
    subst (λ y. times g (xs ++ f y ∷ []) ≡ cond (g x) 1 0 + times g xs) same (omega (arith, a, b))
times_step p g f false x w xs e h s k = ap (λ n. cond (g x) 1 0 + n) (k s)

-- the first that passes moved to the end
pub first_times : {A : Type 0} (p g : A → Bool) (f : A → A) → ((y : A) → p y ≡ true → g (f y) ≡ g y) → (xs : List A) (w : A) → find p xs ≡ Some w → times g (without_first p xs ++ f w ∷ []) ≡ times g xs
first_times p g f h [] w s = cc
first_times p g f h (x ∷ xs) w s = times_step p g f (p x) x w xs refl h s (first_times p g f h xs w)

flat_step : {A B : Type 0} (p : A → Bool) (h : A → List B) (f : A → A) (b : Bool) (x w : A) (xs : List A) → p x ≡ b → ((y : A) → p y ≡ true → h y ≡ []) → ((y : A) → h (f y) ≡ []) → cond b (Some x) (find p xs) ≡ Some w → (find p xs ≡ Some w → flat_map h (without_first p xs ++ f w ∷ []) ≡ flat_map h xs) → flat_map h (cond b xs (x ∷ without_first p xs) ++ f w ∷ []) ≡ h x ++ flat_map h xs
flat_step p h f true x w xs e none moved s k = flat_map-append h xs (f w ∷ []) ∙ rw (moved w, none x e) (append-nil (flat_map h xs))
flat_step p h f false x w xs e none moved s k = ap (λ ys. h x ++ ys) (k s)

pub first_flat : {A B : Type 0} (p : A → Bool) (h : A → List B) (f : A → A) → ((y : A) → p y ≡ true → h y ≡ []) → ((y : A) → h (f y) ≡ []) → (xs : List A) (w : A) → find p xs ≡ Some w → flat_map h (without_first p xs ++ f w ∷ []) ≡ flat_map h xs
first_flat p h f none moved [] w s = cc
first_flat p h f none moved (x ∷ xs) w s = flat_step p h f (p x) x w xs refl none moved s (first_flat p h f none moved xs w)

every_step : {A : Type 0} (P : A → Type 0) (p : A → Bool) (b : Bool) (x w : A) (xs : List A) → P x → AllByRecursion P xs → cond b (Some x) (find p xs) ≡ Some w → (find p xs ≡ Some w → AllByRecursion P (without_first p xs) × P w) → AllByRecursion P (cond b xs (x ∷ without_first p xs)) × P w
every_step P p true x w xs here rest s k = let same : x ≡ w = cc in (rest, subst P same here)
every_step P p false x w xs here rest s k = let found = k s in ((here, found.0), found.1)

every_without : {A : Type 0} (P : A → Type 0) (p : A → Bool) → (xs : List A) (w : A) → AllByRecursion P xs → find p xs ≡ Some w → AllByRecursion P (without_first p xs) × P w
every_without P p [] w h s = cc
every_without P p (x ∷ xs) w h s = every_step P p (p x) x w xs h.0 h.1 s (every_without P p xs w h.1)

pub first_all : {A : Type 0} (P : A → Type 0) (p : A → Bool) (f : A → A) → ((y : A) → P y → P (f y)) → (xs : List A) (w : A) → find p xs ≡ Some w → All P xs → All P (without_first p xs ++ f w ∷ [])
first_all P p f k xs w s h =
    let found = every_without P p xs w (recursion_from_All P xs h) s in
    All-push P (without_first p xs) (f w) (All-from_recursion P (without_first p xs) found.0) (k w found.1)

mapped_step : {A : Type 0} (p g : A → Bool) (f : A → A) (b : Bool) (x : A) (fs : List A) → p x ≡ b → ((y : A) → p y ≡ true → g (f y) ≡ g y) → times g (map f fs) ≡ times g fs → times g (map f (cond b (x ∷ fs) fs)) ≡ times g (cond b (x ∷ fs) fs)
mapped_step p g f true x fs e h k = rw (h x e) (ap (λ n. cond (g x) 1 0 + n) k)
mapped_step p g f false x fs e h k = k

mapped_times : {A : Type 0} (p g : A → Bool) (f : A → A) → ((y : A) → p y ≡ true → g (f y) ≡ g y) → (xs : List A) → times g (map f (filter p xs)) ≡ times g (filter p xs)
mapped_times p g f h [] = refl
mapped_times p g f h (x ∷ xs) = mapped_step p g f (p x) x (filter p xs) refl h (mapped_times p g f h xs)

-- all that pass moved so
pub all_times : {A : Type 0} (p g : A → Bool) (f : A → A) → ((y : A) → p y ≡ true → g (f y) ≡ g y) → (xs : List A) → times g (filter (λ x. not (p x)) xs ++ map f (filter p xs)) ≡ times g xs
all_times p g f h xs =
    let a = times-append g (filter (λ x. not (p x)) xs) (map f (filter p xs)) in
    let b = mapped_times p g f h xs in
    let c = times_parts g p xs in
    omega (arith, a, b, c)

nothing_made : {A B : Type 0} (h : A → List B) (f : A → A) → ((y : A) → h (f y) ≡ []) → (xs : List A) → flat_map h (map f xs) ≡ []
nothing_made h f moved [] = refl
nothing_made h f moved (x ∷ xs) = rw (moved x) (nothing_made h f moved xs)

others_step : {A B : Type 0} (p : A → Bool) (h : A → List B) (b : Bool) (x : A) (fs xs : List A) → p x ≡ b → ((y : A) → p y ≡ true → h y ≡ []) → flat_map h fs ≡ flat_map h xs → flat_map h (cond (not b) (x ∷ fs) fs) ≡ h x ++ flat_map h xs
others_step p h true x fs xs e none k = rw (none x e) k
others_step p h false x fs xs e none k = ap (λ ys. h x ++ ys) k

others_flat : {A B : Type 0} (p : A → Bool) (h : A → List B) → ((y : A) → p y ≡ true → h y ≡ []) → (xs : List A) → flat_map h (filter (λ x. not (p x)) xs) ≡ flat_map h xs
others_flat p h none [] = refl
others_flat p h none (x ∷ xs) = others_step p h (p x) x (filter (λ y. not (p y)) xs) xs refl none (others_flat p h none xs)

pub all_flat : {A B : Type 0} (p : A → Bool) (h : A → List B) (f : A → A) → ((y : A) → p y ≡ true → h y ≡ []) → ((y : A) → h (f y) ≡ []) → (xs : List A) → flat_map h (filter (λ x. not (p x)) xs ++ map f (filter p xs)) ≡ flat_map h xs
all_flat p h f none moved xs =
    flat_map-append h (filter (λ x. not (p x)) xs) (map f (filter p xs))
    ∙ ap (λ ys. flat_map h (filter (λ x. not (p x)) xs) ++ ys) (nothing_made h f moved (filter p xs))
    ∙ append-nil (flat_map h (filter (λ x. not (p x)) xs)) ∙ others_flat p h none xs

pub all_all : {A : Type 0} (P : A → Type 0) (p : A → Bool) (f : A → A) → ((y : A) → P y → P (f y)) → (xs : List A) → All P xs → All P (filter (λ x. not (p x)) xs ++ map f (filter p xs))
all_all P p f k xs h =
    All-append P (filter (λ x. not (p x)) xs) (map f (filter p xs)) (All-filter (λ x. not (p x)) P xs h)
    (All-map P f (filter p xs) (All-weaker P (λ y. P (f y)) k (filter p xs) (All-filter p P xs h)))
