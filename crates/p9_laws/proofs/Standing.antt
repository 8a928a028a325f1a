-- Where a thread stands, and where it stands after one was put somewhere.
use Rattle.std.proofs.Common.{◌≡◌, ◌≢◌, ℕ, zero, suc, ◌-◌, Bool, true, false, cond, ◌&&◌, eqb, ltb, List, [], ◌∷◌, map, Option, Some, None, refl, ap, sym, ◌∙◌, arith, rules, tests}
use Rattle.std.specs.Prelude.{slice_get, option_map}
use Rattle.p9_manual.specs.declared.state.Place.{Place}
use Rattle.p9_manual.specs.declared.state.Place.TheVariants.{Running, New, Ready, Waiting, Ended}
use Rattle.p9_manual.specs.declared.state.Thread.{Thread}
use Rattle.p9_manual.specs.State.{by_id, changed, placed, at_place}
use Rattle.p9_manual.specs.Places.{runs_there, is_running}

abbrev pub place_in : Option Thread → Place
place_in None = Ended
place_in (Some thread) = thread.place

-- where thread t stands; one that isn't there has ended
abbrev pub place_of : List Thread → ℕ → Place
place_of threads t = place_in (by_id threads t)

-- it has begun and has not ended
abbrev pub IsUp : Place → Type 0
IsUp Running = Unit {0}
IsUp (Ready a) = Unit {0}
IsUp Waiting = Unit {0}
IsUp New = ⊥
IsUp Ended = ⊥

abbrev pub times_waiting : Place → ℕ
times_waiting Waiting = 1
times_waiting New = 0
times_waiting (Ready a) = 0
times_waiting Running = 0
times_waiting Ended = 0

abbrev pub times_in_line : Place → ℕ
times_in_line New = 1
times_in_line (Ready a) = 1
times_in_line Running = 0
times_in_line Waiting = 0
times_in_line Ended = 0

pub up_not_ended : (pl : Place) → IsUp pl → pl ≢ Ended
up_not_ended Running up e = cc e
up_not_ended (Ready a) up e = cc e
up_not_ended Waiting up e = cc e
up_not_ended New up e = up
up_not_ended Ended up e = up

pub by_id-suc : {A : Type 0} (xs : List A) (i : ℕ) → by_id xs (suc i) ≡ slice_get xs i
by_id-suc xs i = let n : suc i - 1 ≡ i = omega arith in let b : ltb 0 (suc i) ≡ true = search (rules, tests) in rw (b, n) refl

changed-suc : {A : Type 0} (f : A → A) (i : ℕ) (xs : List A) → changed f xs (suc i - 1) ≡ changed f xs i
changed-suc f i xs = let n : suc i - 1 ≡ i = omega arith in rw n refl

slice_get-changed_same : {A : Type 0} (f : A → A) → (xs : List A) (i : ℕ) → slice_get (changed f xs i) i ≡ option_map f (slice_get xs i)
slice_get-changed_same f [] i = refl
slice_get-changed_same f (x ∷ xs) zero = refl
slice_get-changed_same f (x ∷ xs) (suc i) = slice_get-changed_same f xs i

-- an item that isn't the one that was changed
pub slice_get-changed_other : {A : Type 0} (f : A → A) → (xs : List A) (i j : ℕ) → j ≢ i → slice_get (changed f xs i) j ≡ slice_get xs j
slice_get-changed_other f [] i j ne = refl
slice_get-changed_other f (x ∷ xs) zero zero ne = absurd (ne refl)
slice_get-changed_other f (x ∷ xs) zero (suc j) ne = refl
slice_get-changed_other f (x ∷ xs) (suc i) zero ne = refl
slice_get-changed_other f (x ∷ xs) (suc i) (suc j) ne = slice_get-changed_other f xs i j (λ e. ne (ap suc e))

-- the item with this id, from its index in the list
pub get_by_id : {A : Type 0} (xs : List A) (t : ℕ) (x : A) → by_id xs t ≡ Some x → slice_get xs (t - 1) ≡ Some x
get_by_id xs t x e = get_step (ltb 0 t) (slice_get xs (t - 1)) x e
  where
    get_step : {A : Type 0} (b : Bool) (o : Option A) (x : A) → cond b o None ≡ Some x → o ≡ Some x
    get_step true o x h = h
    get_step false o x h = cc

-- the item with this id after it was changed
pub by_id-changed_same : {A : Type 0} (f : A → A) (xs : List A) (t : ℕ) (x : A) → by_id xs t ≡ Some x → by_id (changed f xs (t - 1)) t ≡ Some (f x)
by_id-changed_same f xs zero x e = cc
by_id-changed_same f xs (suc i) x e =
    let h : slice_get xs i ≡ Some x = sym (by_id-suc xs i) ∙ e in
    rw (changed-suc, by_id-suc, slice_get-changed_same, h) refl

-- and the others
pub by_id-changed_other : {A : Type 0} (f : A → A) (xs : List A) (t u : ℕ) (x : A) → by_id xs t ≡ Some x → u ≢ t → by_id (changed f xs (t - 1)) u ≡ by_id xs u
by_id-changed_other f xs zero u x e ne = cc
by_id-changed_other f xs (suc i) zero x e ne = refl
by_id-changed_other f xs (suc i) (suc j) x e ne = rw (changed-suc, by_id-suc (changed f xs i) j, by_id-suc xs j, slice_get-changed_other f xs i j (λ h. ne (ap suc h))) refl

slice_get-map : {A : Type 0} (f : A → A) → (xs : List A) (i : ℕ) → slice_get (map f xs) i ≡ option_map f (slice_get xs i)
slice_get-map f [] i = refl
slice_get-map f (x ∷ xs) zero = refl
slice_get-map f (x ∷ xs) (suc i) = slice_get-map f xs i

-- each item of a mapped list
pub by_id-map : {A : Type 0} (f : A → A) (xs : List A) (t : ℕ) (x : A) → by_id xs t ≡ Some x → by_id (map f xs) t ≡ Some (f x)
by_id-map f xs zero x e = cc
by_id-map f xs (suc i) x e =
    let h : slice_get xs i ≡ Some x = sym (by_id-suc xs i) ∙ e in
    rw (by_id-suc, slice_get-map, h) refl

-- there is a thread t
abbrev pub IsMade : ℕ → List Thread → Type 0
IsMade t threads = (thread : Thread) × (by_id threads t ≡ Some thread)

some_from_place : (o : Option Thread) → place_in o ≢ Ended → (thread : Thread) × (o ≡ Some thread)
some_from_place None ne = absurd (ne refl)
some_from_place (Some thread) ne = (thread, refl)

pub made_up : (threads : List Thread) (t : ℕ) → IsUp (place_of threads t) → IsMade t threads
made_up threads t up = some_from_place (by_id threads t) (up_not_ended (place_of threads t) up)

pub place_of-placed_same : (threads : List Thread) (t : ℕ) (pl : Place) → IsMade t threads → place_of (placed t pl threads) t ≡ pl
place_of-placed_same threads t pl made = rw (by_id-changed_same (at_place pl) threads t made.0 made.1) refl

pub place_of-placed_other : (threads : List Thread) (t u : ℕ) (pl : Place) → IsMade t threads → u ≢ t → place_of (placed t pl threads) u ≡ place_of threads u
place_of-placed_other threads t u pl made ne = rw (by_id-changed_other (at_place pl) threads t u made.0 made.1 ne) refl

running_place : (b : Bool) (pl : Place) → (b && is_running pl) ≡ true → pl ≡ Running
running_place true Running h = refl
running_place true New h = cc
running_place true (Ready a) h = cc
running_place true Waiting h = cc
running_place true Ended h = cc
running_place false pl h = cc

pub place_runs : (p : ℕ) (o : Option Thread) → runs_there p o ≡ true → place_in o ≡ Running
place_runs p None h = cc
place_runs p (Some thread) h = running_place (eqb thread.proc_no p) thread.place h
