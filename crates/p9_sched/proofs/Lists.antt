-- What a change at one index of a list does to the list.
use Rattle.std.proofs.Common.{◌≡◌, ◌≢◌, ℕ, zero, suc, ◌+◌, ◌-◌, ◌<◌, ◌≤◌, ◌⊎◌, inl, inr, eqb, Bool, true, false, List, [], ◌∷◌, ◌++◌, length, map, replicate, add-one, get_or, set, Option, Some, None, refl, sym, ap, ◌∙◌, arith}
use Rattle.std.proofs.lemmas.Bool.{eqb-true, eqb-false, lt-ltb}
use Rattle.std.specs.Prelude.{option_map, slice_get, if◌then◌else◌}
use Rattle.p9_manual.specs.State.{by_id, changed}
use Rattle.p9_sched.specs.Stored.{HasId}

by_test : (b : Bool) (i k : ℕ) → eqb k i ≡ b → (k ≡ i) ⊎ (k ≢ i)
by_test true i k e = inl (eqb-true k i e)
by_test false i k e = inr (eqb-false k i e)

-- two numbers are the same or not
pub at_or_not : (i k : ℕ) → (k ≡ i) ⊎ (k ≢ i)
at_or_not i k = by_test (eqb k i) i k refl

pub set_changed : {A : Type 0} (f : A → A) → (xs : List A) (i : ℕ) (y d : A) → i < length xs → y ≡ f (get_or xs i d) → set xs i y ≡ changed f xs i
set_changed f [] i y d lt e = absurd (omega arith)
set_changed f (x ∷ xs) zero y d lt e = ap (λ z. z ∷ xs) e
set_changed f (x ∷ xs) (suc i) y d lt e = ap (λ zs. x ∷ zs) (set_changed f xs i y d (omega arith) e)

pub map_set_same : {A B : Type 0} (f : A → B) → (xs : List A) (i : ℕ) (y d : A) → i < length xs → f y ≡ f (get_or xs i d) → map f (set xs i y) ≡ map f xs
map_set_same f [] i y d lt e = absurd (omega arith)
map_set_same f (x ∷ xs) zero y d lt e = ap (λ z. z ∷ map f xs) e
map_set_same f (x ∷ xs) (suc i) y d lt e = ap (λ zs. f x ∷ zs) (map_set_same f xs i y d (omega arith) e)

pub map_push : {A B : Type 0} (f : A → B) → (xs : List A) (x : A) → map f (xs ++ x ∷ []) ≡ map f xs ++ f x ∷ []
map_push f [] x = refl
map_push f (y ∷ xs) x = ap (λ zs. f y ∷ zs) (map_push f xs x)

replicate_more : {A : Type 0} (n : ℕ) (x : A) → replicate n x ++ x ∷ [] ≡ replicate (suc n) x
replicate_more zero x = refl
replicate_more (suc n) x = ap (λ zs. x ∷ zs) (replicate_more n x)

pub push_map : {A B : Type 0} (f : A → B) → (xs : List A) (x : A) (n : ℕ) (y : B) → map f xs ≡ replicate n y → f x ≡ y → map f (xs ++ x ∷ []) ≡ replicate (n + 1) y
push_map f xs x n y e h = rw (map_push f xs x, e, h, add-one) (replicate_more n y)

-- g of each item from index i on
abbrev pub from : {A : Type 0} → (A → A) → ℕ → List A → List A
from g zero xs = map g xs
from g (suc i) [] = []
from g (suc i) (x ∷ xs) = x ∷ from g i xs

pub from_end : {A : Type 0} (g : A → A) → (i : ℕ) (xs : List A) → length xs ≤ i → from g i xs ≡ xs
from_end g zero [] le = refl
from_end g zero (x ∷ xs) le = absurd (omega arith)
from_end g (suc i) [] le = refl
from_end g (suc i) (x ∷ xs) le = ap (λ zs. x ∷ zs) (from_end g i xs (omega arith))

pub from_more : {A : Type 0} (g : A → A) → (xs : List A) (i : ℕ) (y d : A) → i < length xs → y ≡ g (get_or xs i d) → from g (suc i) (set xs i y) ≡ from g i xs
from_more g [] i y d lt e = absurd (omega arith)
from_more g (x ∷ xs) zero y d lt e = ap (λ z. z ∷ map g xs) e
from_more g (x ∷ xs) (suc i) y d lt e = ap (λ zs. x ∷ zs) (from_more g xs i y d (omega arith) e)

pub slice_get-within : {A : Type 0} → (xs : List A) (i : ℕ) (d : A) → i < length xs → slice_get xs i ≡ Some (get_or xs i d)
slice_get-within [] i d lt = absurd (omega arith)
slice_get-within (x ∷ xs) zero d lt = refl
slice_get-within (x ∷ xs) (suc i) d lt = slice_get-within xs i d (omega arith)

pub slice_get-set_same : {A : Type 0} → (xs : List A) (i : ℕ) (y : A) → i < length xs → slice_get (set xs i y) i ≡ Some y
slice_get-set_same [] i y lt = absurd (omega arith)
slice_get-set_same (x ∷ xs) zero y lt = refl
slice_get-set_same (x ∷ xs) (suc i) y lt = slice_get-set_same xs i y (omega arith)

pub slice_get-set_other : {A : Type 0} → (xs : List A) (i k : ℕ) (y : A) → k ≢ i → slice_get (set xs i y) k ≡ slice_get xs k
slice_get-set_other [] i k y ne = refl
slice_get-set_other (x ∷ xs) zero zero y ne = absurd (ne refl)
slice_get-set_other (x ∷ xs) zero (suc k) y ne = refl
slice_get-set_other (x ∷ xs) (suc i) zero y ne = refl
slice_get-set_other (x ∷ xs) (suc i) (suc k) y ne = slice_get-set_other xs i k y (λ e. ne (ap (λ (n : ℕ). suc n) e))

pub slice_get-past : {A : Type 0} → (xs : List A) (i : ℕ) → length xs ≤ i → slice_get xs i ≡ None
slice_get-past [] i le = refl
slice_get-past (x ∷ xs) zero le = absurd (omega arith)
slice_get-past (x ∷ xs) (suc i) le = slice_get-past xs i (omega arith)

pub slice_get-map : {A B : Type 0} (f : A → B) → (xs : List A) (i : ℕ) → slice_get (map f xs) i ≡ option_map f (slice_get xs i)
slice_get-map f [] i = refl
slice_get-map f (x ∷ xs) zero = refl
slice_get-map f (x ∷ xs) (suc i) = slice_get-map f xs i

-- a change of the item with id p, in a list that is seen as another
pub set_view : {A : Type 0} (f : A → A) → (xs vs : List A) (p : ℕ) (x y : A) → xs ≡ vs → 1 ≤ p → p ≤ length vs → x ≡ get_or xs (p - 1) x → y ≡ f x → set xs (p - 1) y ≡ changed f vs (p - 1)
set_view f xs vs p x y e one le at made =
    let len : length xs ≡ length vs = ap length e in
    set_changed f xs (p - 1) y x (omega arith) (made ∙ ap f at) ∙ ap (λ zs. changed f zs (p - 1)) e

pub by_id_at : {A : Type 0} → (xs : List A) (t : ℕ) → 1 ≤ t → by_id xs t ≡ slice_get xs (t - 1)
by_id_at xs t one = ap (λ b. if b then slice_get xs (t - 1) else None) (lt-ltb 0 t (omega arith))

by_id_none : {A : Type 0} → (xs : List A) (t : ℕ) → t ≡ 0 → by_id xs t ≡ None
by_id_none xs t e = rw e refl

some_within : {A : Type 0} → (xs : List A) (i : ℕ) (x : A) → slice_get xs i ≡ Some x → i < length xs
some_within [] i x e = cc
some_within (y ∷ xs) zero x e = omega arith
some_within (y ∷ xs) (suc i) x e = let h = some_within xs i x e in omega arith

-- an id of an item counts from 1
pub positive : {A : Type 0} → (xs : List A) (t : ℕ) (x : A) → by_id xs t ≡ Some x → 1 ≤ t
positive xs zero x e = cc
positive xs (suc t) x e = omega arith

-- what has an id is at its index
pub id_at : {A : Type 0} → (xs : List A) (t : ℕ) (x : A) → by_id xs t ≡ Some x → slice_get xs (t - 1) ≡ Some x
id_at xs t x e = sym (by_id_at xs t (positive xs t x e)) ∙ e

pub id_of : {A : Type 0} → (xs : List A) (t : ℕ) (x : A) → by_id xs t ≡ Some x → HasId t xs
id_of xs t x e =
    let one = positive xs t x e in
    let lt = some_within xs (t - 1) x (id_at xs t x e) in
    record { from = one; to = omega arith }

pub by_id-past : {A : Type 0} → (xs : List A) (t : ℕ) → length xs < t → by_id xs t ≡ None
by_id-past xs t lt = by_id_at xs t (omega arith) ∙ slice_get-past xs (t - 1) (omega arith)

pub length-changed : {A : Type 0} (f : A → A) → (xs : List A) (i : ℕ) → length (changed f xs i) ≡ length xs
length-changed f [] i = refl
length-changed f (x ∷ xs) zero = refl
length-changed f (x ∷ xs) (suc i) = ap (λ (n : ℕ). suc n) (length-changed f xs i)

slice_get-changed_same : {A : Type 0} (f : A → A) → (xs : List A) (i : ℕ) → slice_get (changed f xs i) i ≡ option_map f (slice_get xs i)
slice_get-changed_same f [] i = refl
slice_get-changed_same f (x ∷ xs) zero = refl
slice_get-changed_same f (x ∷ xs) (suc i) = slice_get-changed_same f xs i

slice_get-changed_other : {A : Type 0} (f : A → A) → (xs : List A) (i k : ℕ) → k ≢ i → slice_get (changed f xs i) k ≡ slice_get xs k
slice_get-changed_other f [] i k ne = refl
slice_get-changed_other f (x ∷ xs) zero zero ne = absurd (ne refl)
slice_get-changed_other f (x ∷ xs) zero (suc k) ne = refl
slice_get-changed_other f (x ∷ xs) (suc i) zero ne = refl
slice_get-changed_other f (x ∷ xs) (suc i) (suc k) ne = slice_get-changed_other f xs i k (λ e. ne (ap (λ (n : ℕ). suc n) e))

pub by_id-changed_same : {A : Type 0} (f : A → A) → (xs : List A) (t : ℕ) → 1 ≤ t → by_id (changed f xs (t - 1)) t ≡ option_map f (by_id xs t)
by_id-changed_same f xs t one =
    by_id_at (changed f xs (t - 1)) t one ∙ (slice_get-changed_same f xs (t - 1) ∙ ap (option_map f) (sym (by_id_at xs t one)))

other_by : {A : Type 0} (f : A → A) → (xs : List A) (t u : ℕ) → 1 ≤ t → u ≢ t → (u ≡ 0) ⊎ (u ≢ 0) → by_id (changed f xs (t - 1)) u ≡ by_id xs u
other_by f xs t u one ne (inl e) = by_id_none (changed f xs (t - 1)) u e ∙ sym (by_id_none xs u e)
other_by f xs t u one ne (inr off) =
    let far : u - 1 ≢ t - 1 = λ e. ne (omega arith) in
    by_id_at (changed f xs (t - 1)) u (omega arith) ∙ (slice_get-changed_other f xs (t - 1) (u - 1) far ∙ sym (by_id_at xs u (omega arith)))

pub by_id-changed_other : {A : Type 0} (f : A → A) → (xs : List A) (t u : ℕ) → 1 ≤ t → u ≢ t → by_id (changed f xs (t - 1)) u ≡ by_id xs u
by_id-changed_other f xs t u one ne = other_by f xs t u one ne (at_or_not 0 u)

slice_get-push_new : {A : Type 0} → (xs : List A) (x : A) → slice_get (xs ++ x ∷ []) (length xs) ≡ Some x
slice_get-push_new [] x = refl
slice_get-push_new (y ∷ xs) x = slice_get-push_new xs x

slice_get-push_other : {A : Type 0} → (xs : List A) (x : A) (k : ℕ) → k ≢ length xs → slice_get (xs ++ x ∷ []) k ≡ slice_get xs k
slice_get-push_other [] x zero ne = absurd (ne refl)
slice_get-push_other [] x (suc k) ne = refl
slice_get-push_other (y ∷ xs) x zero ne = refl
slice_get-push_other (y ∷ xs) x (suc k) ne = slice_get-push_other xs x k (λ e. ne (ap (λ (n : ℕ). suc n) e))

pub by_id-push_new : {A : Type 0} → (xs : List A) (x : A) (t : ℕ) → t ≡ length xs + 1 → by_id (xs ++ x ∷ []) t ≡ Some x
by_id-push_new xs x t e =
    let same : t - 1 ≡ length xs = omega arith in
    by_id_at (xs ++ x ∷ []) t (omega arith) ∙ (ap (slice_get (xs ++ x ∷ [])) same ∙ slice_get-push_new xs x)

push_by : {A : Type 0} → (xs : List A) (x : A) (u : ℕ) → u ≢ length xs + 1 → (u ≡ 0) ⊎ (u ≢ 0) → by_id (xs ++ x ∷ []) u ≡ by_id xs u
push_by xs x u ne (inl e) = by_id_none (xs ++ x ∷ []) u e ∙ sym (by_id_none xs u e)
push_by xs x u ne (inr off) =
    let far : u - 1 ≢ length xs = λ e. ne (omega arith) in
    by_id_at (xs ++ x ∷ []) u (omega arith) ∙ (slice_get-push_other xs x (u - 1) far ∙ sym (by_id_at xs u (omega arith)))

pub by_id-push_other : {A : Type 0} → (xs : List A) (x : A) (u : ℕ) → u ≢ length xs + 1 → by_id (xs ++ x ∷ []) u ≡ by_id xs u
by_id-push_other xs x u ne = push_by xs x u ne (at_or_not 0 u)

map_by : {A B : Type 0} (f : A → B) → (xs : List A) (u : ℕ) → (u ≡ 0) ⊎ (u ≢ 0) → by_id (map f xs) u ≡ option_map f (by_id xs u)
map_by f xs u (inl e) = by_id_none (map f xs) u e ∙ ap (option_map f) (sym (by_id_none xs u e))
map_by f xs u (inr off) =
    by_id_at (map f xs) u (omega arith) ∙ (slice_get-map f xs (u - 1) ∙ ap (option_map f) (sym (by_id_at xs u (omega arith))))

pub by_id-map : {A B : Type 0} (f : A → B) → (xs : List A) (u : ℕ) → by_id (map f xs) u ≡ option_map f (by_id xs u)
by_id-map f xs u = map_by f xs u (at_or_not 0 u)

-- a test that a change at one index leaves as it was, is as it was at each id
pub same_test : {A B : Type 0} (F : Option A → B) (g : A → A) → (xs : List A) (t : ℕ) (x : A) (u : ℕ) → by_id xs t ≡ Some x → F (Some (g x)) ≡ F (Some x) → (u ≡ t) ⊎ (u ≢ t) → F (by_id (changed g xs (t - 1)) u) ≡ F (by_id xs u)
same_test F g xs t x u at same (inl e) =
    rw (e, by_id-changed_same g xs t (positive xs t x at), at) same
same_test F g xs t x u at same (inr ne) = ap F (by_id-changed_other g xs t u (positive xs t x at) ne)

-- a change of items that f doesn't see
pub map-changed_same : {A B : Type 0} (f : A → B) (g : A → A) → ((x : A) → f (g x) ≡ f x) → (xs : List A) (i : ℕ) → map f (changed g xs i) ≡ map f xs
map-changed_same f g e [] i = refl
map-changed_same f g e (x ∷ xs) zero = ap (λ y. y ∷ map f xs) (e x)
map-changed_same f g e (x ∷ xs) (suc i) = ap (λ ys. f x ∷ ys) (map-changed_same f g e xs i)

pub map-changed : {A B : Type 0} (f : A → B) (g : A → A) (h : B → B) → ((x : A) → f (g x) ≡ h (f x)) → (xs : List A) (i : ℕ) → map f (changed g xs i) ≡ changed h (map f xs) i
map-changed f g h e [] i = refl
map-changed f g h e (x ∷ xs) zero = ap (λ y. y ∷ map f xs) (e x)
map-changed f g h e (x ∷ xs) (suc i) = ap (λ ys. f x ∷ ys) (map-changed f g h e xs i)

pub map-map : {A B C : Type 0} (f : B → C) (g : A → B) → (xs : List A) → map f (map g xs) ≡ map (λ x. f (g x)) xs
map-map f g [] = refl
map-map f g (x ∷ xs) = ap (λ ys. f (g x) ∷ ys) (map-map f g xs)

some_at : {A : Type 0} → (xs : List A) (i : ℕ) → i < length xs → (x : A) × (slice_get xs i ≡ Some x)
some_at [] i lt = absurd (omega arith)
some_at (x ∷ xs) zero lt = (x, refl)
some_at (x ∷ xs) (suc i) lt = some_at xs i (omega arith)

-- what stands at an id
pub item_at : {A : Type 0} → (xs : List A) (t : ℕ) → HasId t xs → (x : A) × (by_id xs t ≡ Some x)
item_at xs t id =
    let from = id.from in
    let to = id.to in
    let found = some_at xs (t - 1) (omega arith) in
    (found.0, by_id_at xs t from ∙ found.1)

pub changed_none : {A : Type 0} (f : A → A) → ((x : A) → f x ≡ x) → (xs : List A) (i : ℕ) → changed f xs i ≡ xs
changed_none f e [] i = refl
changed_none f e (x ∷ xs) zero = ap (λ y. y ∷ xs) (e x)
changed_none f e (x ∷ xs) (suc i) = ap (λ ys. x ∷ ys) (changed_none f e xs i)

-- changes that agree on the item at the index
pub changed_alike : {A : Type 0} (f g : A → A) → (xs : List A) (i : ℕ) (x : A) → slice_get xs i ≡ Some x → f x ≡ g x → changed f xs i ≡ changed g xs i
changed_alike f g [] i x at e = refl
changed_alike f g (y ∷ xs) zero x at e =
    let same : y ≡ x = cc in
    rw same (ap (λ z. z ∷ xs) e)
changed_alike f g (y ∷ xs) (suc i) x at e = ap (λ zs. y ∷ zs) (changed_alike f g xs i x at e)
