-- What becomes of the places of threads: they are woken with answers, or leave for a place where they have none.
use Rattle.std.proofs.Common.{◌≡◌, ◌⊎◌, inl, inr, ℕ, zero, suc, ◌≤◌, Bool, true, false, not, eqb, List, [], ◌∷◌, refl, sym, ap, subst, arith}
use Rattle.std.specs.Prelude.{All}
use Rattle.std.specs.List.{AllByRecursion}
use Rattle.std.proofs.lemmas.List.Elements.{All-filter, All-from_recursion}
use Rattle.p9_word.specs.declared.answer.Answer.{Answer}
use Rattle.p9_manual.specs.declared.state.Place.{Place}
use Rattle.p9_manual.specs.declared.state.Place.TheVariants.{Running, New, Ready, Waiting, Ended}
use Rattle.p9_manual.specs.declared.state.Thread.{Thread}
use Rattle.p9_manual.specs.declared.state.Waiter.{Waiter}
use Rattle.p9_manual.specs.State.{State, changed, placed, wake}
use Rattle.p9_manual.specs.Standing.{StandOnce, place_of, times, times_in_waits}
use Rattle.p9_laws.proofs.Received.Places.{place_left, place_moved}
use Rattle.p9_laws.proofs.Sound.Stand.{eqb_same}

-- a thread at this place neither has an answer nor waits for one
abbrev pub is_apart : Place → Bool
is_apart Running = true
is_apart New = true
is_apart Ended = true
is_apart (Ready a) = false
is_apart Waiting = false

-- from one place to another, where P holds of the answers with which a thread is woken
pub data Goes (P : Answer → Type 0) : Place → Place → Type 0 where
  Stays : (pl : Place) → Goes P pl pl
  Wakes : (a : Answer) → P a → Goes P Waiting (Ready a)
  Leaves : (pl after : Place) → is_apart after ≡ true → Goes P pl after

-- each of these waits in a state
abbrev pub Rests : List Thread → List Waiter → Type 0
Rests threads waits = All (λ w. place_of threads w.tid ≡ Waiting) waits

-- from one state to another, where P holds of who is woken with which answer
pub record Woken (P : ℕ → Answer → Type 0) (s n : State) : Type 0 where
  pub each : (u : ℕ) → Goes (P u) (place_of s.threads u) (place_of n.threads u)
  pub rests : Rests s.threads n.waits

waits_there : (pl : Place) → 1 ≤ times_in_waits pl → pl ≡ Waiting
waits_there Waiting h = refl
waits_there Running h = absurd (omega (arith, h))
waits_there New h = absurd (omega (arith, h))
waits_there (Ready a) h = absurd (omega (arith, h))
waits_there Ended h = absurd (omega (arith, h))

rest_here : (threads : List Thread) → (waits : List Waiter) → ((t : ℕ) → times (λ w. eqb w.tid t) waits ≤ times_in_waits (place_of threads t)) → AllByRecursion (λ w. place_of threads w.tid ≡ Waiting) waits
rest_here threads [] once = tt
rest_here threads (w ∷ ws) once =
    let h = once w.tid in
    let e = eqb_same w.tid in
    let k : 1 ≤ times_in_waits (place_of threads w.tid) = omega (arith, rw e at h) in
    (waits_there (place_of threads w.tid) k, rest_here threads ws (λ t. let l = once t in omega (arith, l)))

-- where threads stand once, each of the waits waits
pub rests_once : (threads : List Thread) (line : List ℕ) (waits : List Waiter) → StandOnce threads line waits → Rests threads waits
rests_once threads line waits stand =
    All-from_recursion (λ w. place_of threads w.tid ≡ Waiting) waits (rest_here threads waits (λ t. let e = stand.in_waits t in omega (arith, e)))

pub stays_woken : (P : ℕ → Answer → Type 0) (s : State) → Rests s.threads s.waits → Woken P s s
stays_woken P s rests = record { each = λ u. Stays (place_of s.threads u); rests = rests }

pub made_id : (threads : List Thread) (t : ℕ) (pl : Place) → place_of threads t ≡ pl → (Ended ≡ pl → ⊥) → 1 ≤ t
made_id threads zero pl e ne = absurd (ne e)
made_id threads (suc t) pl e ne = omega arith

pub waits_made : (threads : List Thread) (t : ℕ) → place_of threads t ≡ Waiting → 1 ≤ t
waits_made threads t e = made_id threads t Waiting e (λ k. cc)

pub goes_at : (P : Answer → Type 0) (before mid after : Place) → after ≡ mid → Goes P before mid → Goes P before after
goes_at P before mid after e g = subst (λ (pl : Place). Goes P before pl) (sym e) g

wakes_at : (P : Answer → Type 0) (before after : Place) (a : Answer) → before ≡ Waiting → after ≡ Ready a → P a → Goes P before after
wakes_at P before after a e f h = rw (e, f) (Wakes a h)

-- a thread that waited is woken
pub woken_wake : (P : ℕ → Answer → Type 0) (s n : State) (t : ℕ) (a : Answer) → place_of s.threads t ≡ Waiting → P t a → Woken P s n → Woken P s (wake t a n)
woken_wake P s n t a waits holds w =
    record {
      each = λ u. elim (place_moved t (Ready a) n.threads u) [
        | inl e ↦ goes_at (P u) (place_of s.threads u) (place_of n.threads u) (place_of (placed t (Ready a) n.threads) u) e (w.each u)
        | inr k ↦
            let same : u ≡ t = k.0 (waits_made s.threads t waits) in
            subst (λ (x : ℕ). place_of (placed t (Ready a) n.threads) x ≡ Ready a → Goes (P x) (place_of s.threads x) (place_of (placed t (Ready a) n.threads) x)) (sym same)
            (λ e. wakes_at (P t) (place_of s.threads t) (place_of (placed t (Ready a) n.threads) t) a waits e holds) k.1
      ];
      rests = All-filter (λ w. not (eqb w.tid t)) (λ w. place_of s.threads w.tid ≡ Waiting) n.waits w.rests;
    }

-- threads change, and stay where they are
pub woken_left : (P : ℕ → Answer → Type 0) (f : Thread → Thread) → ((x : Thread) → (f x).place ≡ x.place) → (s n : State) (i : ℕ) → Woken P s n → Woken P s (record n { threads = changed f n.threads i })
woken_left P f h s n i w =
    record {
      each = λ u. goes_at (P u) (place_of s.threads u) (place_of n.threads u) (place_of (changed f n.threads i) u) (place_left f h n.threads i u) (w.each u);
      rests = w.rests;
    }

runs_apart : (P : Answer → Type 0) (before after : Place) → Goes P before after → before ≡ Running → (after ≡ Running) ⊎ (is_apart after ≡ true)
runs_apart P _ _ (Stays pl) e = inl e
runs_apart P _ _ (Wakes a h) e = cc
runs_apart P _ _ (Leaves pl after h) e = inr h

no_answer : (after : Place) (a : Answer) → (after ≡ Running) ⊎ (is_apart after ≡ true) → after ≡ Ready a → ⊥
no_answer after a (inl e) k = cc
no_answer after a (inr e) k = let z = ap is_apart k in cc

-- who runs is woken by nobody
pub runs_on : (P : Answer → Type 0) (before after : Place) (a : Answer) → before ≡ Running → Goes P before after → after ≡ Ready a → ⊥
runs_on P before after a e g k = no_answer after a (runs_apart P before after g e) k
