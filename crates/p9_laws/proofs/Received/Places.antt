-- What threads that stand ready are about to be told, and where threads are after one was put somewhere.
use Rattle.std.proofs.Common.{◌≡◌, ◌⊎◌, inl, inr, ℕ, zero, suc, ◌+◌, ◌-◌, ◌≤◌, Bool, true, false, cond, eqb, List, [], ◌∷◌, ◌++◌, Option, Some, None, refl, ap, arith}
use Rattle.std.specs.Prelude.{slice_get}
use Rattle.p9_word.specs.declared.answer.Answer.{Answer}
use Rattle.p9_word.specs.declared.answer.Answer.TheVariants.{Got, Index}
use Rattle.p9_manual.specs.declared.state.Place.{Place}
use Rattle.p9_manual.specs.declared.state.Place.TheVariants.{Running, New, Ready, Waiting, Ended}
use Rattle.p9_manual.specs.declared.state.Thread.{Thread}
use Rattle.p9_laws.specs.Receipts.{Receipt, received_by}
use Rattle.p9_laws.specs.ToldSent.{sent_number}
use Rattle.p9_manual.specs.Ends.{Gone, at_end, ended_if}
use Rattle.p9_manual.specs.State.{changed, each_from, placed, at_place}
use Rattle.p9_manual.specs.Standing.{times, place_of, place_in}
use Rattle.p9_laws.proofs.Sound.Places.{by_id-suc}

-- the receipts that thread t at this place is about to be told: one or none
abbrev pub due : ℕ → Place → List Receipt
due t (Ready a) = received_by t a
due t Running = []
due t New = []
due t Waiting = []
due t Ended = []

-- the number of the entry of which a thread at this place is about to be told that its value was sent
abbrev pub says_sent : Place → Option ℕ
says_sent (Ready a) = sent_number a
says_sent Running = None
says_sent New = None
says_sent Waiting = None
says_sent Ended = None

-- neither of the two
pub record IsQuiet (pl : Place) : Type 0 where
  pub nothing : (t : ℕ) → due t pl ≡ []
  pub unsent : says_sent pl ≡ None

-- how often the value of position p is among receipts
abbrev pub told : ℕ → List Receipt → ℕ
told p rs = times (λ r. eqb r.from p) rs

-- and among those that threads are about to be told
abbrev pub dues : ℕ → List Thread → ℕ
dues p [] = 0
dues p (x ∷ xs) = told p (due 0 x.place) + dues p xs

told_same : (p t : ℕ) (a : Answer) → told p (received_by t a) ≡ told p (received_by 0 a)
told_same p t (Got from m) = refl
told_same p t (Index err i (Some from) m) = refl
told_same p t a = refl

-- the value is the same for whoever is told
pub told_due : (p t : ℕ) (pl : Place) → told p (due t pl) ≡ told p (due 0 pl)
told_due p t (Ready a) = told_same p t a
told_due p t Running = refl
told_due p t New = refl
told_due p t Waiting = refl
told_due p t Ended = refl

pub dues-changed : (p : ℕ) (pl : Place) → (threads : List Thread) (i : ℕ) → dues p (changed (at_place pl) threads i) ≤ dues p threads + told p (due 0 pl)
dues-changed p pl [] i = omega arith
dues-changed p pl (x ∷ xs) zero = omega arith
dues-changed p pl (x ∷ xs) (suc i) = omega (arith, dues-changed p pl xs i)

-- exactly, where a thread is put at the index that another one left
pub dues-put : (p : ℕ) (pl : Place) → (threads : List Thread) (i : ℕ) (x : Thread) → slice_get threads i ≡ Some x → dues p (changed (at_place pl) threads i) + told p (due 0 x.place) ≡ dues p threads + told p (due 0 pl)
dues-put p pl [] i x e = cc
dues-put p pl (y ∷ xs) zero x e = let same : y ≡ x = cc in rw same (omega arith)
dues-put p pl (y ∷ xs) (suc i) x e = omega (arith, dues-put p pl xs i x e)

pub dues-left : (p : ℕ) (f : Thread → Thread) → ((x : Thread) → (f x).place ≡ x.place) → (threads : List Thread) (i : ℕ) → dues p (changed f threads i) ≡ dues p threads
dues-left p f h [] i = refl
dues-left p f h (x ∷ xs) zero = rw (h x) refl
dues-left p f h (x ∷ xs) (suc i) = rw (dues-left p f h xs i) refl

pub dues-push : (p : ℕ) (y : Thread) → y.place ≡ New → (threads : List Thread) → dues p (threads ++ y ∷ []) ≡ dues p threads
dues-push p y h [] = rw h refl
dues-push p y h (x ∷ xs) = rw (dues-push p y h xs) refl

one_ended : (p : ℕ) (b : Bool) (x : Thread) → told p (due 0 (cond b (at_end x) x).place) ≤ told p (due 0 x.place)
one_ended p true x = omega arith
one_ended p false x = omega arith

pub dues-ended : (p : ℕ) (ends : Gone) → (n : ℕ) (threads : List Thread) → dues p (each_from (ended_if ends) n threads) ≤ dues p threads
dues-ended p ends n [] = omega arith
dues-ended p ends n (x ∷ xs) = let here = one_ended p (ends n) x in let rest = dues-ended p ends (suc n) xs in omega (arith, here, rest)

-- what becomes of a place where a thread was put somewhere
abbrev pub IsMoved : ℕ → ℕ → Place → Place → Place → Type 0
IsMoved t u pl before after = (after ≡ before) ⊎ ((1 ≤ t → u ≡ t) × (after ≡ pl))

place_changed : (pl : Place) → (threads : List Thread) (i j : ℕ) → (place_in (slice_get (changed (at_place pl) threads i) j) ≡ place_in (slice_get threads j)) ⊎ ((j ≡ i) × (place_in (slice_get (changed (at_place pl) threads i) j) ≡ pl))
place_changed pl [] i j = inl refl
place_changed pl (x ∷ xs) zero zero = inr (refl, refl)
place_changed pl (x ∷ xs) zero (suc j) = inl refl
place_changed pl (x ∷ xs) (suc i) zero = inl refl
place_changed pl (x ∷ xs) (suc i) (suc j) = elim (place_changed pl xs i j) [ inl e ↦ inl e | inr k ↦ inr (ap suc k.0, k.1) ]

-- a thread is where it was, or it is the one that was put there
pub place_moved : (t : ℕ) (pl : Place) (threads : List Thread) (u : ℕ) → IsMoved t u pl (place_of threads u) (place_of (placed t pl threads) u)
place_moved t pl threads zero = inl refl
place_moved t pl threads (suc j) =
    rw (by_id-suc (placed t pl threads) j, by_id-suc threads j)
    (elim (place_changed pl threads (t - 1) j) [
      | inl e ↦ inl e
      | inr k ↦ inr (λ h. let e = k.0 in omega arith, k.1)
    ])

place_left_at : (f : Thread → Thread) → ((x : Thread) → (f x).place ≡ x.place) → (threads : List Thread) (i j : ℕ) → place_in (slice_get (changed f threads i) j) ≡ place_in (slice_get threads j)
place_left_at f h [] i j = refl
place_left_at f h (x ∷ xs) zero zero = h x
place_left_at f h (x ∷ xs) zero (suc j) = refl
place_left_at f h (x ∷ xs) (suc i) zero = refl
place_left_at f h (x ∷ xs) (suc i) (suc j) = place_left_at f h xs i j

-- a change that leaves the place of each thread
pub place_left : (f : Thread → Thread) → ((x : Thread) → (f x).place ≡ x.place) → (threads : List Thread) (i u : ℕ) → place_of (changed f threads i) u ≡ place_of threads u
place_left f h threads i zero = refl
place_left f h threads i (suc j) = rw (by_id-suc (changed f threads i) j, by_id-suc threads j) (place_left_at f h threads i j)

place_pushed_at : (y : Thread) → (threads : List Thread) (j : ℕ) → (place_in (slice_get (threads ++ y ∷ []) j) ≡ place_in (slice_get threads j)) ⊎ (place_in (slice_get (threads ++ y ∷ []) j) ≡ y.place)
place_pushed_at y [] zero = inr refl
place_pushed_at y [] (suc j) = inl refl
place_pushed_at y (x ∷ xs) zero = inl refl
place_pushed_at y (x ∷ xs) (suc j) = place_pushed_at y xs j

-- one more thread
pub place_pushed : (y : Thread) (threads : List Thread) (u : ℕ) → (place_of (threads ++ y ∷ []) u ≡ place_of threads u) ⊎ (place_of (threads ++ y ∷ []) u ≡ y.place)
place_pushed y threads zero = inl refl
place_pushed y threads (suc j) = rw (by_id-suc (threads ++ y ∷ []) j, by_id-suc threads j) (place_pushed_at y threads j)

place_of_one : (b : Bool) (x : Thread) → ((cond b (at_end x) x).place ≡ x.place) ⊎ ((cond b (at_end x) x).place ≡ Ended)
place_of_one true x = inr refl
place_of_one false x = inl refl

place_ended_at : (ends : Gone) (n : ℕ) (threads : List Thread) (j : ℕ) → (place_in (slice_get (each_from (ended_if ends) n threads) j) ≡ place_in (slice_get threads j)) ⊎ (place_in (slice_get (each_from (ended_if ends) n threads) j) ≡ Ended)
place_ended_at ends n [] j = inl refl
place_ended_at ends n (x ∷ xs) zero = place_of_one (ends n) x
place_ended_at ends n (x ∷ xs) (suc j) = place_ended_at ends (suc n) xs j

-- these threads have ended
pub place_ended : (ends : Gone) (threads : List Thread) (u : ℕ) → (place_of (each_from (ended_if ends) 1 threads) u ≡ place_of threads u) ⊎ (place_of (each_from (ended_if ends) 1 threads) u ≡ Ended)
place_ended ends threads zero = inl refl
place_ended ends threads (suc j) = rw (by_id-suc (each_from (ended_if ends) 1 threads) j, by_id-suc threads j) (place_ended_at ends 1 threads j)
