-- Threads that wait and hold no proc are made ready one after another.
use Rattle.std.proofs.Common.{◌≡◌, ◌≢◌, ℕ, zero, suc, ◌+◌, ◌<◌, ◌≤◌, Bool, false, cond, eqb, List, [], ◌∷◌, ◌++◌, length, get_or, take, drop, Option, Some, None, refl, ap, sym, ◌∙◌, subst, arith}
use Rattle.std.proofs.lemmas.List.{drop_more, take_more}
use Rattle.p9_word.specs.declared.answer.Answer.TheVariants.{Done}
use Rattle.p9_manual.specs.declared.state.Place.{Place as Stand}
use Rattle.p9_manual.specs.declared.state.Place.TheVariants as stand
use Rattle.p9_manual.specs.declared.state.Thread.{Thread}
use Rattle.p9_manual.specs.LockCalls.{all_granted}
use Rattle.p9_manual.specs.LockWaits.{is_holding, lock_waiters}
use Rattle.p9_manual.specs.State.{State, by_id, placed, at_place, wake}
use Rattle.p9_manual.specs.Standing.{times, times_in_waits, place_in, place_of as stand_of}
use Rattle.p9_sched.specs.Schedule.{Schedule, readied as sched_readied}
use Rattle.p9_sched.specs.Turns.{place_of}
use Rattle.p9_sched.specs.declared.turns.Place.TheVariants as place
use Rattle.p9_sched.specs.Stands.{SchedFor, TracksBeside}
use Rattle.p9_lock_calls.specs.Granted.{AreWaiting, AreBeside, StillRuns}
use Rattle.p9_lock_calls.proofs.Others.{CasesEq, Same, Other, cases_eq, eq_same, by_id_other}
use Rattle.p9_lock_calls.proofs.Standing.{still_beside}

-- one more is woken
granted_push : (ts : List ℕ) (t : ℕ) (s : State) → all_granted (ts ++ t ∷ []) s ≡ wake t Done (all_granted ts s)
granted_push [] t s = refl
granted_push (u ∷ ts) t s = granted_push ts t (wake u Done s)

beside_after : (t : ℕ) → (ts : List ℕ) (s : State) → is_holding t (lock_waiters s.waits) ≡ false → is_holding t (lock_waiters (all_granted ts s).waits) ≡ false
beside_after t [] s h = h
beside_after t (u ∷ ts) s h = beside_after t ts (wake u Done s) (still_beside t u s.waits h)

waits_from : (pl : Stand) → 1 ≤ times_in_waits pl → pl ≡ stand.Waiting
waits_from stand.Running h = absurd (omega arith)
waits_from stand.New h = absurd (omega arith)
waits_from (stand.Ready a) h = absurd (omega arith)
waits_from stand.Waiting h = refl
waits_from stand.Ended h = absurd (omega arith)

told_waiting : (o : Option Thread) → place_in o ≡ stand.Waiting → place_of o ≡ place.Waiting
told_waiting None e = absurd (cc e)
told_waiting (Some thread) e = rw e refl

-- one that stands in the waits waits
pub waits_counted : (threads : List Thread) (t : ℕ) → 1 ≤ times_in_waits (stand_of threads t) → place_of (by_id threads t) ≡ place.Waiting
waits_counted threads t h = told_waiting (by_id threads t) (waits_from (stand_of threads t) h)

some_waits : (o : Option Thread) → place_of o ≡ place.Waiting → (thread : Thread) × (o ≡ Some thread)
some_waits None e = absurd (cc e)
some_waits (Some thread) e = (thread, refl)

head_counts : (t : ℕ) → cond {A = ℕ} (eqb t t) 1 0 ≡ 1
head_counts t = rw (eq_same t) refl

-- the first of those that wait
pub first_waits : (threads : List Thread) (t : ℕ) (ts : List ℕ) → AreWaiting threads (t ∷ ts) → place_of (by_id threads t) ≡ place.Waiting
first_waits threads t ts a =
    let le : cond (eqb t t) 1 0 + times (λ x. eqb x t) ts ≤ times_in_waits (stand_of threads t) = a.wait t in
    waits_counted threads t (omega (arith, le, head_counts t))

pub at_most_one : (pl : Stand) → times_in_waits pl ≤ 1
at_most_one stand.Running = omega arith
at_most_one stand.New = omega arith
at_most_one (stand.Ready a) = omega arith
at_most_one stand.Waiting = omega arith
at_most_one stand.Ended = omega arith

others_step : (threads : List Thread) (w : ℕ) (ts : List ℕ) (pl : Stand) (t : ℕ) → AreWaiting threads (w ∷ ts) → CasesEq w t → times (λ x. eqb x t) ts ≤ times_in_waits (stand_of (placed w pl threads) t)
others_step threads w ts pl t a (Same e) =
    let n : cond {A = ℕ} (eqb w t) 1 0 ≡ 1 = rw (e, eq_same t) refl in
    let le : cond (eqb w t) 1 0 + times (λ x. eqb x t) ts ≤ times_in_waits (stand_of threads t) = a.wait t in
    let one = at_most_one (stand_of threads t) in
    omega (arith, n, le, one)
others_step threads w ts pl t a (Other ne) =
    let made = some_waits (by_id threads w) (first_waits threads w ts a) in
    let le : cond (eqb w t) 1 0 + times (λ x. eqb x t) ts ≤ times_in_waits (stand_of threads t) = a.wait t in
    let e : stand_of (placed w pl threads) t ≡ stand_of threads t = ap place_in (by_id_other (at_place pl) threads w t made.0 made.1 (λ s. ne (sym s))) in
    rw e (omega (arith, le))

others_wait_on : (threads : List Thread) (w : ℕ) (ts : List ℕ) (pl : Stand) → AreWaiting threads (w ∷ ts) → AreWaiting (placed w pl threads) ts
others_wait_on threads w ts pl a = record { wait = λ t. others_step threads w ts pl t a (cases_eq w t) }

-- how far these threads are woken: the first i of them
pub record AreWoken (before now : Schedule) (ts : List ℕ) (i : ℕ) : Type 0 where
  pub waiting : AreWaiting now.threads (drop i ts)
  pub stands : (places : ℕ) (s : State) → AreBeside ts s → SchedFor places before s → SchedFor places now (all_granted (take i ts) s)
  pub runs : StillRuns before.threads now.threads

still_runs : (threads after : List Thread) (t u : ℕ) (pl : Stand) → after ≡ placed u pl threads → place_of (by_id threads t) ≡ place.Running → place_of (by_id threads u) ≡ place.Waiting → place_of (by_id after t) ≡ place.Running
still_runs threads after t u pl e runs waits =
    let made = some_waits (by_id threads u) waits in
    let ne : t ≢ u = λ s. let w : place_of (by_id threads t) ≡ place.Waiting = rw s waits in cc in
    rw (e, by_id_other (at_place pl) threads u t made.0 made.1 ne) runs

rest : (ts : List ℕ) (i x : ℕ) → i < length ts → get_or ts i x ≡ x → drop i ts ≡ x ∷ drop (i + 1) ts
rest ts i x lt it = drop_more ts i x lt ∙ ap (λ t. t ∷ drop (i + 1) ts) it

first : (ts : List ℕ) (i x : ℕ) → i < length ts → get_or ts i x ≡ x → take (i + 1) ts ≡ take i ts ++ x ∷ []
first ts i x lt it = take_more ts i x lt ∙ ap (λ t. take i ts ++ t ∷ []) it

drop_counts : (q : ℕ → Bool) → (ts : List ℕ) (i : ℕ) → times q (drop i ts) ≤ times q ts
drop_counts q ts zero = omega arith
drop_counts q [] (suc i) = omega arith
drop_counts q (t ∷ ts) (suc i) = let a = drop_counts q ts i in omega (arith, a)

stands_there : (ts : List ℕ) (i x : ℕ) → i < length ts → get_or ts i x ≡ x → 1 ≤ times (λ u. eqb u x) ts
stands_there ts i x lt it =
    let a = drop_counts (λ u. eqb u x) ts i in
    let b = ap (times (λ u. eqb u x)) (rest ts i x lt it) in
    omega (arith, a, b, head_counts x)

-- the one that is next waits
pub next_waits : (before now : Schedule) (ts : List ℕ) (i x : ℕ) → i < length ts → get_or ts i x ≡ x → AreWoken before now ts i → place_of (by_id now.threads x) ≡ place.Waiting
next_waits before now ts i x lt it k = first_waits now.threads x (drop (i + 1) ts) (subst (λ (us : List ℕ). AreWaiting now.threads us) (rest ts i x lt it) k.waiting)

-- one more is woken
pub one_more : (before now new : Schedule) (ts : List ℕ) (i x : ℕ) → i < length ts → get_or ts i x ≡ x → new ≡ sched_readied x Done now → TracksBeside x (wake x Done) now new → AreWoken before now ts i → AreWoken before new ts (i + 1)
one_more before now new ts i x lt it ready tracks k =
    let threads : new.threads ≡ placed x (stand.Ready Done) now.threads = ap (λ (b : Schedule). b.threads) ready in
    let waits : AreWaiting now.threads (x ∷ drop (i + 1) ts) = subst (λ (us : List ℕ). AreWaiting now.threads us) (rest ts i x lt it) k.waiting in
    record {
      waiting = subst (λ (us : List Thread). AreWaiting us (drop (i + 1) ts)) (sym threads) (others_wait_on now.threads x (drop (i + 1) ts) (stand.Ready Done) waits);
      stands = λ places s beside h.
          let n : State = all_granted (take i ts) s in
          let free : is_holding x (lock_waiters n.waits) ≡ false = beside_after x (take i ts) s (beside x (stands_there ts i x lt it)) in
          let again : wake x Done n ≡ all_granted (take (i + 1) ts) s = sym (ap (λ (us : List ℕ). all_granted us s) (first ts i x lt it) ∙ granted_push (take i ts) x s) in
          subst (λ (m : State). SchedFor places new m) again (tracks places n free (k.stands places s beside h));
      runs = λ t r. still_runs now.threads new.threads t x (stand.Ready Done) threads (k.runs t r) (next_waits before now ts i x lt it k);
    }

-- an item that is there, whatever stands for one that isn't
pub get_same : (ts : List ℕ) (i d : ℕ) → i < length ts → get_or ts i (get_or ts i d) ≡ get_or ts i d
get_same [] i d lt = absurd (omega arith)
get_same (t ∷ ts) zero d lt = refl
get_same (t ∷ ts) (suc i) d lt = later ts i d (get_or ts i d) (omega arith)
  where
    later : (ts : List ℕ) (i d e : ℕ) → i < length ts → get_or ts i e ≡ get_or ts i d
    later [] i d e lt = absurd (omega arith)
    later (t ∷ ts) zero d e lt = refl
    later (t ∷ ts) (suc i) d e lt = later ts i d e (omega arith)
