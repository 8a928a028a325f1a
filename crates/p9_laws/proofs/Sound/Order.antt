-- The positions of the calls in which threads wait, where one more waits or some are taken out.
use Rattle.std.proofs.Common.{◌≡◌, ℕ, ◌+◌, ◌≤◌, Bool, true, false, not, cond, eqb, List, [], ◌∷◌, ◌++◌, map, Option, Some, None, refl, ap, sym, subst, arith, append-nil}
use Rattle.std.specs.Prelude.{All}
use Rattle.std.specs.List.{filter, AllByRecursion}
use Rattle.std.proofs.lemmas.List.Elements.{All-from_recursion, recursion_from_All, All-nil, All-push, All-same, All-filter, All-weaker}
use Rattle.p9_manual.specs.declared.state.Party.{Party}
use Rattle.p9_manual.specs.declared.state.Waiter.{Waiter}
use Rattle.p9_manual.specs.Offers.{Alternation, alternation_of, party, party_with, party_of, parties}
use Rattle.p9_manual.specs.Standing.{IsRising}
use Rattle.p9_manual.specs.Sound.{InOrder}
use Rattle.p9_manual.specs.State.{waits_without}
use Rattle.p9_laws.proofs.Sound.Parties.{parties_push, parties_off}

every_step : {A B : Type 0} (P : B → Type 0) (f : A → B) (b : Bool) (x : A) (xs : List A) → P (f x) → AllByRecursion P (map f xs) → AllByRecursion P (map f (cond b (x ∷ xs) xs))
every_step P f true x xs here rest = (here, rest)
every_step P f false x xs here rest = rest

every_filtered : {A B : Type 0} (P : B → Type 0) (f : A → B) (p : A → Bool) → (xs : List A) → AllByRecursion P (map f xs) → AllByRecursion P (map f (filter p xs))
every_filtered P f p [] h = tt
every_filtered P f p (x ∷ xs) h = every_step P f (p x) x (filter p xs) h.0 (every_filtered P f p xs h.1)

all_filtered : {A B : Type 0} (P : B → Type 0) (f : A → B) (p : A → Bool) (xs : List A) → All P (map f xs) → All P (map f (filter p xs))
all_filtered P f p xs h = All-from_recursion P (map f (filter p xs)) (every_filtered P f p xs (recursion_from_All P (map f xs) h))

rising_step : {A : Type 0} (f : A → ℕ) (b : Bool) (x : A) (xs : List A) → All (λ m. f x + 1 ≤ m) (map f xs) → IsRising (map f xs) → IsRising (map f (cond b (x ∷ xs) xs))
rising_step f true x xs above rest = (above, rest)
rising_step f false x xs above rest = rest

-- what rises still does with some left out
pub rising_filtered : {A : Type 0} (f : A → ℕ) (p : A → Bool) → (xs : List A) → IsRising (map f xs) → IsRising (map f (filter p xs))
rising_filtered f p [] h = tt
rising_filtered f p (x ∷ xs) h = rising_step f (p x) x (filter p xs) (all_filtered (λ m. f x + 1 ≤ m) f p xs h.0) (rising_filtered f p xs h.1)

map-push : {A B : Type 0} (f : A → B) (y : A) → (xs : List A) → map f (xs ++ y ∷ []) ≡ map f xs ++ f y ∷ []
map-push f y [] = refl
map-push f y (x ∷ xs) = ap (λ ys. f x ∷ ys) (map-push f y xs)

-- and with a greater one at the end
pub rising_pushed : {A : Type 0} (f : A → ℕ) (y : A) → (xs : List A) → AllByRecursion (λ x. f x + 1 ≤ f y) xs → IsRising (map f xs) → IsRising (map f (xs ++ y ∷ []))
rising_pushed f y [] below h = (All-nil (λ m. f y + 1 ≤ m), tt)
rising_pushed f y (x ∷ xs) below h =
    (All-same (λ m. f x + 1 ≤ m) (map f (xs ++ y ∷ [])) (map f xs ++ f y ∷ []) (map-push f y xs) (All-push (λ m. f x + 1 ≤ m) (map f xs) (f y) h.0 below.0), rising_pushed f y xs below.1 h.1)

pub nobody_in_order : (position : ℕ) → InOrder position []
nobody_in_order position = record { before = All-nil (λ (w : Waiter). w.at + 1 ≤ position); rising = tt }

-- the positions of the parties
abbrev pub party_at : Party → ℕ
party_at p = p.at

-- without the waits of some threads
pub off_order : (position : ℕ) (waits : List Waiter) (off : ℕ → Bool) → InOrder position waits → InOrder position (filter (λ w. not (off w.tid)) waits)
off_order position waits off order =
    record {
      before = All-filter (λ w. not (off w.tid)) (λ (w : Waiter). w.at + 1 ≤ position) waits order.before;
      rising = subst (λ (ps : List Party). IsRising (map party_at ps)) (sym (parties_off off waits)) (rising_filtered party_at (λ p. not (off p.tid)) (parties waits) order.rising);
    }

-- without those of one
pub without_order : (position : ℕ) (waits : List Waiter) (t : ℕ) → InOrder position waits → InOrder position (waits_without t waits)
without_order position waits t order = off_order position waits (λ u. eqb u t) order

-- after one more entry
pub later_order : (position : ℕ) (waits : List Waiter) → InOrder position waits → InOrder (position + 1) waits
later_order position waits order =
    record { before = All-weaker (λ (w : Waiter). w.at + 1 ≤ position) (λ (w : Waiter). w.at + 1 ≤ position + 1) (λ w h. omega arith) waits order.before; rising = order.rising }

pub every_append : {A : Type 0} (P : A → Type 0) → (xs ys : List A) → AllByRecursion P xs → AllByRecursion P ys → AllByRecursion P (xs ++ ys)
every_append P [] ys h k = k
every_append P (x ∷ xs) ys h k = (h.0, every_append P xs ys h.1 k)

party_before : (n t at : ℕ) (o : Option Alternation) → at + 1 ≤ n → AllByRecursion (λ (p : Party). p.at + 1 ≤ n) (party_with t at o)
party_before n t at None h = tt
party_before n t at (Some a) h = (h, tt)

-- the alts among the waits were made before, as all were
pub parties_before : (n : ℕ) → (waits : List Waiter) → AllByRecursion (λ (w : Waiter). w.at + 1 ≤ n) waits → AllByRecursion (λ (p : Party). p.at + 1 ≤ n) (parties waits)
parties_before n [] h = tt
parties_before n (w ∷ ws) h =
    every_append (λ (p : Party). p.at + 1 ≤ n) (party_of w) (parties ws) (party_before n w.tid w.at (alternation_of w.request) h.0) (parties_before n ws h.1)

rising_more : (t at : ℕ) (ps : List Party) (o : Option Alternation) → AllByRecursion (λ (p : Party). p.at + 1 ≤ at) ps → IsRising (map party_at ps) → IsRising (map party_at (ps ++ party_with t at o))
rising_more t at ps None below h = subst (λ (xs : List Party). IsRising (map party_at xs)) (sym (append-nil ps)) h
rising_more t at ps (Some a) below h = rising_pushed party_at (party t at a) ps below h

-- with the wait of the call that makes this entry
pub pushed_order : (waits : List Waiter) (w : Waiter) → InOrder w.at waits → InOrder (w.at + 1) (waits ++ w ∷ [])
pushed_order waits w order =
    record {
      before = All-push (λ (x : Waiter). x.at + 1 ≤ w.at + 1) waits w (later_order w.at waits order).before (omega arith);
      rising = subst (λ (ps : List Party). IsRising (map party_at ps)) (sym (parties_push waits w))
          (rising_more w.tid w.at (parties waits) (alternation_of w.request)
          (parties_before w.at waits (recursion_from_All (λ (x : Waiter). x.at + 1 ≤ w.at) waits order.before)) order.rising);
    }
