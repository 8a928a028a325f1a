-- Places that rise: one more behind them, and some of them taken out.
use Rattle.std.proofs.Common.{◌≡◌, ℕ, ◌+◌, ◌≤◌, Bool, List, [], ◌∷◌, ◌++◌, map, refl, subst, arith, append_assoc}
use Rattle.std.proofs.lemmas.List.{append-nil}
use Rattle.std.specs.Prelude.{All}
use Rattle.std.specs.List.{filter}
use Rattle.std.proofs.lemmas.List.Elements.{All-nil, All-cons, All-head, All-tail, All-append, All-push, All-map, All-filter, All-weaker}
use Rattle.p9_manual.specs.declared.state.Party.{Party}
use Rattle.p9_manual.specs.Standing.{IsRising}
use Rattle.p9_laws.proofs.Sound.Order.{rising_filtered}

All_left : {A : Type 0} (P : A → Type 0) → (xs ys : List A) → All P (xs ++ ys) → All P xs
All_left P [] ys h = All-nil P
All_left P (x ∷ xs) ys h = All-cons P x xs (All-head P x (xs ++ ys) h) (All_left P xs ys (All-tail P x (xs ++ ys) h))

All_right : {A : Type 0} (P : A → Type 0) → (xs ys : List A) → All P (xs ++ ys) → All P ys
All_right P [] ys h = h
All_right P (x ∷ xs) ys h = All_right P xs ys (All-tail P x (xs ++ ys) h)

All_unmap : {A : Type 0} (P : ℕ → Type 0) (f : A → ℕ) → (xs : List A) → All P (map f xs) → All (λ x. P (f x)) xs
All_unmap P f [] h = All-nil (λ x. P (f x))
All_unmap P f (x ∷ xs) h = All-cons (λ y. P (f y)) x xs (All-head P (f x) (map f xs) h) (All_unmap P f xs (All-tail P (f x) (map f xs) h))

all_kept : {A : Type 0} (P : ℕ → Type 0) (f : A → ℕ) (q : A → Bool) (xs : List A) → All P (map f xs) → All P (map f (filter q xs))
all_kept P f q xs h = All-map P f (filter q xs) (All-filter q (λ x. P (f x)) xs (All_unmap P f xs h))

all_less : {A : Type 0} (P : ℕ → Type 0) (f : A → ℕ) (q : A → Bool) (ns : List ℕ) (xs : List A) → All P (ns ++ map f xs) → All P (ns ++ map f (filter q xs))
all_less P f q ns xs h = All-append P ns (map f (filter q xs)) (All_left P ns (map f xs) h) (all_kept P f q xs (All_right P ns (map f xs) h))

rising_less : {A : Type 0} (f : A → ℕ) (q : A → Bool) → (ns : List ℕ) (xs : List A) → IsRising (ns ++ map f xs) → IsRising (ns ++ map f (filter q xs))
rising_less f q [] xs h = rising_filtered f q xs h
rising_less f q (n ∷ ns) xs h = (all_less (λ m. n + 1 ≤ m) f q ns xs h.0, rising_less f q ns xs h.1)

rising_push : (n : ℕ) → (ns : List ℕ) → IsRising ns → All (λ m. m + 1 ≤ n) ns → IsRising (ns ++ n ∷ [])
rising_push n [] h below = (All-nil (λ m. n + 1 ≤ m), tt)
rising_push n (m ∷ ns) h below =
    (All-push (λ k. m + 1 ≤ k) ns n h.0 (All-head (λ k. k + 1 ≤ n) m ns below), rising_push n ns h.1 (All-tail (λ k. k + 1 ≤ n) m ns below))

-- the front part rises too
pub rising_left : (ns ms : List ℕ) → IsRising (ns ++ ms) → IsRising ns
rising_left [] ms h = tt
rising_left (n ∷ ns) ms h = (All_left (λ m. n + 1 ≤ m) ns ms h.0, rising_left ns ms h.1)

abbrev pub ats : List Party → List ℕ
ats senders = map (λ w. w.at) senders

-- what is known of a channel: the positions that its values came from, and then those of the threads that wait to send there,
-- rise, and each is below n
pub record Rises (n : ℕ) (front : List ℕ) (senders : List Party) : Type 0 where
  pub rising : IsRising (front ++ ats senders)
  pub below : All (λ m. m + 1 ≤ n) (front ++ ats senders)

below_later : (n : ℕ) (ns : List ℕ) → All (λ m. m + 1 ≤ n) ns → All (λ m. m + 1 ≤ n + 1) ns
below_later n ns h = All-weaker (λ m. m + 1 ≤ n) (λ m. m + 1 ≤ n + 1) (λ m k. omega arith) ns h

pub rises_later : (n : ℕ) (front : List ℕ) (senders : List Party) → Rises n front senders → Rises (n + 1) front senders
rises_later n front senders r = record { rising = r.rising; below = below_later n (front ++ ats senders) r.below }

-- some of those that wait no longer do
pub rises_less : (q : Party → Bool) (n : ℕ) (front : List ℕ) (senders : List Party) → Rises n front senders → Rises n front (filter q senders)
rises_less q n front senders r =
    record {
      rising = rising_less (λ (w : Party). w.at) q front senders r.rising;
      below = all_less (λ m. m + 1 ≤ n) (λ (w : Party). w.at) q front senders r.below;
    }

all_push : (n : ℕ) (ns : List ℕ) → All (λ m. m + 1 ≤ n) ns → All (λ m. m + 1 ≤ n + 1) (ns ++ n ∷ [])
all_push n ns h = All-push (λ m. m + 1 ≤ n + 1) ns n (below_later n ns h) (omega arith)

-- a value from position n comes last, where nobody waits to send
pub rises_put : (n : ℕ) (front : List ℕ) → Rises n front [] → Rises (n + 1) (front ++ n ∷ []) []
rises_put n front r =
    let rising : IsRising front = subst IsRising (append-nil front) r.rising in
    let below : All (λ m. m + 1 ≤ n) front = subst (λ (ns : List ℕ). All (λ m. m + 1 ≤ n) ns) (append-nil front) r.below in
    record {
      rising = rw append-nil (rising_push n front rising below);
      below = rw append-nil (all_push n front below);
    }

ats_push : (w : Party) → (ws : List Party) → ats (ws ++ w ∷ []) ≡ ats ws ++ w.at ∷ []
ats_push w [] = refl
ats_push w (x ∷ ws) = rw (ats_push w ws) refl

-- one more waits to send
pub rises_wait : (n : ℕ) (front : List ℕ) (senders : List Party) (w : Party) → w.at ≡ n → Rises n front senders → Rises (n + 1) front (senders ++ w ∷ [])
rises_wait n front senders w at r =
    let same : front ++ ats (senders ++ w ∷ []) ≡ (front ++ ats senders) ++ n ∷ [] = rw (ats_push w senders, at, append_assoc) refl in
    record {
      rising = rw same (rising_push n (front ++ ats senders) r.rising r.below);
      below = rw same (all_push n (front ++ ats senders) r.below);
    }

-- the value of the first that waits comes last
pub rises_take : (n : ℕ) (front : List ℕ) (w : Party) (senders : List Party) → Rises n front (w ∷ senders) → Rises n (front ++ w.at ∷ []) senders
rises_take n front w senders r = record { rising = rw append_assoc r.rising; below = rw append_assoc r.below }
