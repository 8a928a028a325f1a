-- What a change at one desk, or at all, does to what the desks show.
use Rattle.std.proofs.Common.{◌≡◌, ℕ, zero, suc, ◌+◌, ◌-◌, ◌<◌, ◌≤◌, Bool, true, false, List, [], ◌∷◌, ◌++◌, length, map, replicate, add-one, set, get_or, Option, Some, None, IsSome, refl, sym, ap, ◌∙◌, arith, rules, tests}
use Rattle.std.specs.Prelude.{slice_get, option_map, nat_lt, OnSome, IfNone, OnOk, OnErr, Result, Ok, Err}
use Rattle.p9_word.specs.declared.io_call.IoCall.{IoCall}
use Rattle.p9_manual.specs.declared.state.Ioproc.{Ioproc}
use Rattle.p9_manual.specs.declared.state.Ioproc.TheVariants.{Unmade, Idle, Posted, Begun, Closed}
use Rattle.p9_manual.specs.State.{by_id, changed}
use Rattle.p9_io.specs.declared.desk.Desk.{Desk}
use Rattle.p9_io.specs.Calls.{begun_call, begun_weight, begun_count, posted_call}
use Rattle.p9_io.specs.Desks.{Desks, with_ioproc, posted, prepared, with_begun, interrupted, lent}
use Rattle.p9_io.specs.Kept.{ioprocs_of, rooms_of, prepared_of, shown_of}
use Rattle.p9_io.specs.Room.{begun, without_caller}
use Rattle.p9_io.proofs.Counts.{count_changed, count_fewer}

-- an item that was read stands at its index
pub at_read : {A : Type 0} (xs : List A) (i : ℕ) (x d : A) → i < length xs → x ≡ get_or xs i d → slice_get xs i ≡ Some x
at_read [] i x d lt e = absurd (omega arith)
at_read {A} (y ∷ xs) zero x d lt e = ap (λ (z : A). Some z) (sym e)
at_read (y ∷ xs) (suc i) x d lt e = at_read xs i x d (omega arith) e

-- f of the items, where one is set
pub map_set : {A B : Type 0} (f : A → B) → (xs : List A) (i : ℕ) (y d : A) (b : B) → slice_get xs i ≡ Some d → f y ≡ b → map f (set xs i y) ≡ changed (λ _. b) (map f xs) i
map_set f [] i y d b at e = absurd (cc at)
map_set f (x ∷ xs) zero y d b at e = ap (λ z. z ∷ map f xs) e
map_set f (x ∷ xs) (suc i) y d b at e = ap (λ zs. f x ∷ zs) (map_set f xs i y d b at e)

pub map_get_set : {A B : Type 0} (f : A → B) → (xs : List A) (i : ℕ) (y d : A) (b : B) → slice_get xs i ≡ Some d → f y ≡ b → slice_get (map f (set xs i y)) i ≡ Some b
map_get_set f [] i y d b at e = absurd (cc at)
map_get_set {A} {B} f (x ∷ xs) zero y d b at e = ap (λ (z : B). Some z) e
map_get_set f (x ∷ xs) (suc i) y d b at e = map_get_set f xs i y d b at e

-- where f of it stays
pub map_set_same : {A B : Type 0} (f : A → B) → (xs : List A) (i : ℕ) (y d : A) → slice_get xs i ≡ Some d → f y ≡ f d → map f (set xs i y) ≡ map f xs
map_set_same f [] i y d at e = absurd (cc at)
map_set_same {A} f (x ∷ xs) zero y d at e = ap (λ z. z ∷ map f xs) (e ∙ ap f (sym (some_is x d at)))
  where
    some_is : (x y : A) → Some x ≡ Some y → x ≡ y
    some_is x y e = cc
map_set_same f (x ∷ xs) (suc i) y d at e = ap (λ zs. f x ∷ zs) (map_set_same f xs i y d at e)

pub slice_get-map : {A B : Type 0} (f : A → B) → (xs : List A) (i : ℕ) (x : A) → slice_get xs i ≡ Some x → slice_get (map f xs) i ≡ Some (f x)
slice_get-map f [] i x e = absurd (cc e)
slice_get-map {A} f (y ∷ xs) zero x e = ap (λ (o : Option A). option_map f o) e
slice_get-map f (y ∷ xs) (suc i) x e = slice_get-map f xs i x e

above_zero : (k : ℕ) → nat_lt 0 (suc k) ≡ true
above_zero k = search (rules, tests)

pub by_id_at : {A : Type 0} (xs : List A) (k : ℕ) (x : A) → IsSome (by_id xs k) → slice_get xs (k - 1) ≡ Some x → by_id xs k ≡ Some x
by_id_at xs zero x h e = absurd (cc h)
by_id_at xs (suc k) x h e = rw (above_zero k) e

-- both ways to find an ioproc find the same one
pub by_id_is : {A : Type 0} (xs : List A) (k : ℕ) (x y : A) → by_id xs k ≡ Some x → slice_get xs (k - 1) ≡ Some y → y ≡ x
by_id_is xs zero x y h e = absurd (cc h)
by_id_is {A} xs (suc k) x y h e = let same : slice_get xs (suc k - 1) ≡ Some x = rw (above_zero k) at h in cc

pub shown_is : (xs : List Desk) (d : Desks) → ioprocs_of xs ≡ d.ioprocs → rooms_of xs ≡ d.rooms → prepared_of xs ≡ d.prepared → shown_of xs ≡ d
shown_is xs d a b c = rw (a, b, c) refl

-- an ioproc stands otherwise
pub shown_put : (k : ℕ) (io : Ioproc) (xs : List Desk) (y d : Desk) → slice_get xs (k - 1) ≡ Some d → y.ioproc ≡ io → y.is_here ≡ d.is_here → y.is_prepared ≡ d.is_prepared → shown_of (set xs (k - 1) y) ≡ with_ioproc k io (shown_of xs)
shown_put k io xs y d at a b c =
    shown_is _ _ (map_set (λ (x : Desk). x.ioproc) xs (k - 1) y d io at a) (map_set_same (λ (x : Desk). x.is_here) xs (k - 1) y d at b) (map_set_same (λ (x : Desk). x.is_prepared) xs (k - 1) y d at c)

-- nothing that is seen changes
pub shown_same : (i : ℕ) (xs : List Desk) (y d : Desk) → slice_get xs i ≡ Some d → y.ioproc ≡ d.ioproc → y.is_here ≡ d.is_here → y.is_prepared ≡ d.is_prepared → shown_of (set xs i y) ≡ shown_of xs
shown_same i xs y d at a b c =
    shown_is _ _ (map_set_same (λ (x : Desk). x.ioproc) xs i y d at a) (map_set_same (λ (x : Desk). x.is_here) xs i y d at b) (map_set_same (λ (x : Desk). x.is_prepared) xs i y d at c)

pub shown_posted : (k t : ℕ) (call : IoCall) (xs : List Desk) (y d : Desk) → slice_get xs (k - 1) ≡ Some d → y.ioproc ≡ Posted t call → y.is_here ≡ d.is_here → y.is_prepared ≡ false → shown_of (set xs (k - 1) y) ≡ posted k t call (shown_of xs)
shown_posted k t call xs y d at a b c =
    shown_is _ _ (map_set (λ (x : Desk). x.ioproc) xs (k - 1) y d (Posted t call) at a) (map_set_same (λ (x : Desk). x.is_here) xs (k - 1) y d at b) (map_set (λ (x : Desk). x.is_prepared) xs (k - 1) y d false at c)

pub shown_prepared : (k : ℕ) (xs : List Desk) (y d : Desk) → slice_get xs (k - 1) ≡ Some d → y.ioproc ≡ d.ioproc → y.is_here ≡ d.is_here → y.is_prepared ≡ true → shown_of (set xs (k - 1) y) ≡ prepared k (shown_of xs)
shown_prepared k xs y d at a b c =
    shown_is _ _ (map_set_same (λ (x : Desk). x.ioproc) xs (k - 1) y d at a) (map_set_same (λ (x : Desk). x.is_here) xs (k - 1) y d at b) (map_set (λ (x : Desk). x.is_prepared) xs (k - 1) y d true at c)

pub shown_lent : (k : ℕ) (xs : List Desk) (y d : Desk) → slice_get xs (k - 1) ≡ Some d → y.ioproc ≡ d.ioproc → y.is_here ≡ false → y.is_prepared ≡ d.is_prepared → shown_of (set xs (k - 1) y) ≡ lent k (shown_of xs)
shown_lent k xs y d at a b c =
    shown_is _ _ (map_set_same (λ (x : Desk). x.ioproc) xs (k - 1) y d at a) (map_set (λ (x : Desk). x.is_here) xs (k - 1) y d false at b) (map_set_same (λ (x : Desk). x.is_prepared) xs (k - 1) y d at c)

-- the count where an ioproc stands otherwise
pub count_set : (i : ℕ) (io : Ioproc) (xs : List Desk) (y d : Desk) → slice_get xs i ≡ Some d → y.ioproc ≡ io → begun_count (ioprocs_of (set xs i y)) + begun_weight d.ioproc ≡ begun_count (ioprocs_of xs) + begun_weight io
count_set i io xs y d at e =
    ap (λ (ios : List Ioproc). begun_count ios + begun_weight d.ioproc) (map_set (λ (x : Desk). x.ioproc) xs i y d io at e) ∙ count_changed (ioprocs_of xs) i d.ioproc io (slice_get-map (λ (x : Desk). x.ioproc) xs i d at)

-- it is the same where neither has a begun call
pub count_resting : (k : ℕ) (old io : Ioproc) (xs : List Desk) (y d : Desk) → by_id (ioprocs_of xs) k ≡ Some old → begun_weight old ≡ 0 → begun_weight io ≡ 0 → slice_get xs (k - 1) ≡ Some d → y.ioproc ≡ io → begun_count (ioprocs_of (set xs (k - 1) y)) ≡ begun_count (ioprocs_of xs)
count_resting k old io xs y d found none rests at e =
    let same : d.ioproc ≡ old = by_id_is (ioprocs_of xs) k old d.ioproc found (slice_get-map (λ (x : Desk). x.ioproc) xs (k - 1) d at) in
    let weight : begun_weight d.ioproc ≡ 0 = ap begun_weight same ∙ none in
    let n = count_set (k - 1) io xs y d at e in
    omega arith

-- a finished call is begun no more
pub count_finished : (i : ℕ) (xs : List Desk) (y d : Desk) → slice_get xs i ≡ Some d → y.ioproc ≡ Idle → begun_weight d.ioproc ≡ 1 → begun_count (ioprocs_of (set xs i y)) + 1 ≡ begun_count (ioprocs_of xs)
count_finished i xs y d at e weight = let n = count_set i Idle xs y d at e in omega arith

-- what follows for one variant
pub on_some : {T P Q : Type 0} (o : Option T) → (P → Q) → OnSome o P → OnSome o Q
on_some None f h = tt
on_some (Some x) f h = f h

pub on_some_both : {T P Q R : Type 0} (o : Option T) → (P → Q → R) → OnSome o P → OnSome o Q → OnSome o R
on_some_both None f h g = tt
on_some_both (Some x) f h g = f h g

pub if_none : {T P Q : Type 0} (o : Option T) → (P → Q) → IfNone o P → IfNone o Q
if_none None f h = f h
if_none (Some x) f h = tt

pub on_ok : {T E P Q : Type 0} (r : Result T E) → (P → Q) → OnOk r P → OnOk r Q
on_ok (Ok x) f h = f h
on_ok (Err e) f h = tt

pub on_err : {T E P Q : Type 0} (r : Result T E) → (P → Q) → OnErr r P → OnErr r Q
on_err (Ok x) f h = tt
on_err (Err e) f h = f h

-- a posted call has begun
pub record Begins (k : ℕ) (old new : List Desk) : Type 0 where
  pub shown : shown_of new ≡ with_begun k (by_id (ioprocs_of old) k) (shown_of old)
  pub calls : begun_count (ioprocs_of new) ≡ begun_count (ioprocs_of old) + 1
  pub here : slice_get (prepared_of old) (k - 1) ≡ Some true → slice_get (rooms_of new) (k - 1) ≡ Some true
  pub few : begun_count (ioprocs_of old) < length old

length_ioprocs : (xs : List Desk) → length (ioprocs_of xs) ≡ length xs
length_ioprocs [] = refl
length_ioprocs (x ∷ xs) = let h = length_ioprocs xs in omega arith

-- what is read at an index that is there
pub get_at : (bs : List Bool) (i : ℕ) (b : Bool) → slice_get bs i ≡ Some b → get_or bs i false ≡ b
get_at [] i b e = absurd (cc e)
get_at (x ∷ bs) zero b e = some_is x b e
  where
    some_is : (x y : Bool) → Some x ≡ Some y → x ≡ y
    some_is x y e = cc
get_at (x ∷ bs) (suc i) b e = get_at bs i b e

begins_by : (k : ℕ) (o : Ioproc) (xs : List Desk) (y d : Desk) → d.ioproc ≡ o → IsSome (posted_call (Some o)) → slice_get xs (k - 1) ≡ Some d → by_id (ioprocs_of xs) k ≡ Some o → y.ioproc ≡ begun o → y.is_here ≡ d.is_prepared → y.is_prepared ≡ d.is_prepared → Begins k xs (set xs (k - 1) y)
begins_by k Unmade xs y d o h at found a b c = absurd (cc h)
begins_by k Idle xs y d o h at found a b c = absurd (cc h)
begins_by k (Begun t call) xs y d o h at found a b c = absurd (cc h)
begins_by k Closed xs y d o h at found a b c = absurd (cc h)
begins_by k (Posted t call) xs y d o h at found a b c =
    let none : begun_weight d.ioproc ≡ 0 = ap begun_weight o in
    let n = count_set (k - 1) (Begun (Some t) call) xs y d at a in
    let fewer = count_fewer (ioprocs_of xs) (k - 1) d.ioproc (slice_get-map (λ (x : Desk). x.ioproc) xs (k - 1) d at) none in
    let len = length_ioprocs xs in
    let ready = slice_get-map (λ (x : Desk). x.is_prepared) xs (k - 1) d at in
    let here : y.is_here ≡ get_or (prepared_of xs) (k - 1) false = b ∙ sym (get_at (prepared_of xs) (k - 1) d.is_prepared ready) in
    record {
      shown = rw found (shown_is _ _ (map_set (λ (x : Desk). x.ioproc) xs (k - 1) y d (Begun (Some t) call) at a) (map_set (λ (x : Desk). x.is_here) xs (k - 1) y d (get_or (prepared_of xs) (k - 1) false) at here) (map_set_same (λ (x : Desk). x.is_prepared) xs (k - 1) y d at c));
      calls = omega arith;
      here = λ e. map_get_set (λ (x : Desk). x.is_here) xs (k - 1) y d true at (here ∙ get_at (prepared_of xs) (k - 1) true e);
      few = omega arith;
    }

posted_is_there : (o : Option Ioproc) → IsSome (posted_call o) → IsSome o
posted_is_there None h = h
posted_is_there (Some io) h = refl

pub begins : (k : ℕ) (xs : List Desk) (y d : Desk) → IsSome (posted_call (by_id (ioprocs_of xs) k)) → slice_get xs (k - 1) ≡ Some d → y.ioproc ≡ begun d.ioproc → y.is_here ≡ d.is_prepared → y.is_prepared ≡ d.is_prepared → Begins k xs (set xs (k - 1) y)
begins k xs y d h at a b c =
    let found = by_id_at (ioprocs_of xs) k d.ioproc (posted_is_there _ h) (slice_get-map (λ (x : Desk). x.ioproc) xs (k - 1) d at) in
    begins_by k d.ioproc xs y d refl (rw found at h) at found a b c

-- the ioproc at a desk that is there
pub found_at : (k : ℕ) (xs : List Desk) (d : Desk) → IsSome (by_id (ioprocs_of xs) k) → slice_get xs (k - 1) ≡ Some d → by_id (ioprocs_of xs) k ≡ Some d.ioproc
found_at k xs d h at = by_id_at (ioprocs_of xs) k d.ioproc h (slice_get-map (λ (x : Desk). x.ioproc) xs (k - 1) d at)

-- the thread that waited at an ioproc is let go
pub record LetsGo (k : ℕ) (old new : List Desk) : Type 0 where
  pub shown : shown_of new ≡ interrupted k (by_id (ioprocs_of old) k) (shown_of old)
  pub calls : begun_count (ioprocs_of new) ≡ begun_count (ioprocs_of old)

lets_go_by : (k : ℕ) (o : Ioproc) (xs : List Desk) (y d : Desk) → d.ioproc ≡ o → slice_get xs (k - 1) ≡ Some d → by_id (ioprocs_of xs) k ≡ Some o → y.ioproc ≡ without_caller o → y.is_here ≡ d.is_here → y.is_prepared ≡ d.is_prepared → LetsGo k xs (set xs (k - 1) y)
lets_go_by k Unmade xs y d o at found a b c = record { shown = rw found (shown_same (k - 1) xs y d at (a ∙ sym o) b c); calls = count_resting k Unmade Unmade xs y d found refl refl at a }
lets_go_by k Idle xs y d o at found a b c = record { shown = rw found (shown_same (k - 1) xs y d at (a ∙ sym o) b c); calls = count_resting k Idle Idle xs y d found refl refl at a }
lets_go_by k Closed xs y d o at found a b c = record { shown = rw found (shown_same (k - 1) xs y d at (a ∙ sym o) b c); calls = count_resting k Closed Closed xs y d found refl refl at a }
lets_go_by k (Posted t call) xs y d o at found a b c = record { shown = rw found (shown_put k Idle xs y d at a b c); calls = count_resting k (Posted t call) Idle xs y d found refl refl at a }
lets_go_by k (Begun None call) xs y d o at found a b c =
    let weight : begun_weight d.ioproc ≡ 1 = ap begun_weight o in
    let n = count_set (k - 1) (Begun None call) xs y d at a in
    record { shown = rw found (shown_same (k - 1) xs y d at (a ∙ sym o) b c); calls = omega arith }
lets_go_by k (Begun (Some t) call) xs y d o at found a b c =
    let weight : begun_weight d.ioproc ≡ 1 = ap begun_weight o in
    let n = count_set (k - 1) (Begun None call) xs y d at a in
    record { shown = rw found (shown_put k (Begun None call) xs y d at a b c); calls = omega arith }

pub lets_go : (k : ℕ) (xs : List Desk) (y d : Desk) → IsSome (by_id (ioprocs_of xs) k) → slice_get xs (k - 1) ≡ Some d → y.ioproc ≡ without_caller d.ioproc → y.is_here ≡ d.is_here → y.is_prepared ≡ d.is_prepared → LetsGo k xs (set xs (k - 1) y)
lets_go k xs y d h at a b c = lets_go_by k d.ioproc xs y d refl at (found_at k xs d h at) a b c

-- where a call is begun the ioproc is there, and counts
begun_is_there : (o : Option Ioproc) → IsSome (begun_call o) → IsSome o
begun_is_there None h = h
begun_is_there (Some io) h = refl

begun_weighs : (io : Ioproc) → IsSome (begun_call (Some io)) → begun_weight io ≡ 1
begun_weighs Unmade h = absurd (cc h)
begun_weighs Idle h = absurd (cc h)
begun_weighs (Posted t call) h = absurd (cc h)
begun_weighs (Begun t call) h = refl
begun_weighs Closed h = absurd (cc h)

pub weighs_one : (k : ℕ) (xs : List Desk) (d : Desk) → IsSome (begun_call (by_id (ioprocs_of xs) k)) → slice_get xs (k - 1) ≡ Some d → begun_weight d.ioproc ≡ 1
weighs_one k xs d h at =
    let found = found_at k xs d (begun_is_there _ h) at in
    begun_weighs d.ioproc (rw found at h)

-- g of each item from index i on
abbrev pub from : {A : Type 0} → (A → A) → ℕ → List A → List A
from g zero xs = map g xs
from g (suc i) [] = []
from g (suc i) (x ∷ xs) = x ∷ from g i xs

pub from_more : {A B : Type 0} (f : A → B) (g : B → B) → (xs : List A) (i : ℕ) (y d : A) → slice_get xs i ≡ Some d → f y ≡ g (f d) → from g (suc i) (map f (set xs i y)) ≡ from g i (map f xs)
from_more f g [] i y d at e = absurd (cc at)
from_more {A} f g (x ∷ xs) zero y d at e = ap (λ z. z ∷ map g (map f xs)) (e ∙ ap (λ z. g (f z)) (sym (some_is x d at)))
  where
    some_is : (x y : A) → Some x ≡ Some y → x ≡ y
    some_is x y e = cc
from_more f g (x ∷ xs) (suc i) y d at e = ap (λ zs. f x ∷ zs) (from_more f g xs i y d at e)

pub from_end_map : {A B : Type 0} (f : A → B) (g : B → B) → (i : ℕ) (xs : List A) → length xs ≤ i → from g i (map f xs) ≡ map f xs
from_end_map f g zero [] le = refl
from_end_map f g zero (x ∷ xs) le = absurd (omega arith)
from_end_map f g (suc i) [] le = refl
from_end_map f g (suc i) (x ∷ xs) le = ap (λ zs. f x ∷ zs) (from_end_map f g i xs (omega arith))

pub map_push : {A B : Type 0} (f : A → B) → (xs : List A) (x : A) → map f (xs ++ x ∷ []) ≡ map f xs ++ f x ∷ []
map_push f [] x = refl
map_push f (y ∷ xs) x = ap (λ zs. f y ∷ zs) (map_push f xs x)

replicate_more : {A : Type 0} (n : ℕ) (x : A) → replicate n x ++ x ∷ [] ≡ replicate (suc n) x
replicate_more zero x = refl
replicate_more (suc n) x = ap (λ zs. x ∷ zs) (replicate_more n x)

pub push_map : {A B : Type 0} (f : A → B) → (xs : List A) (x : A) (n : ℕ) (y : B) → map f xs ≡ replicate n y → f x ≡ y → map f (xs ++ x ∷ []) ≡ replicate (n + 1) y
push_map f xs x n y e h = rw (map_push f xs x, e, h, add-one) (replicate_more n y)
