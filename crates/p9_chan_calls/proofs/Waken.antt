-- Threads that wait are made ready one after another.
use Rattle.std.proofs.Common.{◌≡◌, ◌≢◌, ℕ, ◌+◌, ◌<◌, ◌≤◌, cond, List, [], ◌∷◌, ◌++◌, length, get_or, take, drop, Option, Some, None, refl, ap, sym, ◌∙◌, subst, arith}
use Rattle.std.specs.Prelude.{◌==◌}
use Rattle.std.proofs.lemmas.List.{drop_more, take_more, map-append}
use Rattle.p9_word.specs.declared.answer.Answer.{Answer}
use Rattle.p9_manual.specs.declared.state.Place.{Place as Stand}
use Rattle.p9_manual.specs.declared.state.Place.TheVariants as stand
use Rattle.p9_manual.specs.declared.state.Thread.{Thread}
use Rattle.p9_manual.specs.State.{State, by_id, placed, at_place, readied}
use Rattle.p9_manual.specs.Standing.{times, times_in_waits, place_in, place_of as stand_of}
use Rattle.p9_sched.specs.Schedule.{Schedule, readied as sched_readied}
use Rattle.p9_sched.specs.Turns.{place_of}
use Rattle.p9_sched.specs.declared.turns.Place.TheVariants as place
use Rattle.p9_alt.specs.declared.offer.Wake.{Wake}
use Rattle.p9_alt.specs.Exchange.{pair_of}
use Rattle.p9_sched.specs.Stands.{SchedFor, Tracks}
use Rattle.p9_chan_calls.specs.Wakes.{pairs_of, all_readied, AreWaiting}
use Rattle.p9_chan_calls.proofs.Others.{CasesEq, Same, Other, cases_eq, eq_same, by_id_other}

-- one more is ready
readied_push : (ws : List (ℕ × Answer)) (w : ℕ × Answer) (s : State) → all_readied (ws ++ w ∷ []) s ≡ readied w.0 w.1 (all_readied ws s)
readied_push [] w s = refl
readied_push (u ∷ ws) w s = readied_push ws w (readied u.0 u.1 s)

waits_from : (pl : Stand) → 1 ≤ times_in_waits pl → pl ≡ stand.Waiting
waits_from stand.Running h = absurd (omega arith)
waits_from stand.New h = absurd (omega arith)
waits_from (stand.Ready a) h = absurd (omega arith)
waits_from stand.Waiting h = refl
waits_from stand.Ended h = absurd (omega arith)

told_waiting : (o : Option Thread) → place_in o ≡ stand.Waiting → place_of o ≡ place.Waiting
told_waiting None e = absurd (cc e)
told_waiting (Some thread) e = rw e refl

-- one that stands in the waits waits
pub waits_counted : (threads : List Thread) (t : ℕ) → 1 ≤ times_in_waits (stand_of threads t) → place_of (by_id threads t) ≡ place.Waiting
waits_counted threads t h = told_waiting (by_id threads t) (waits_from (stand_of threads t) h)

some_waits : (o : Option Thread) → place_of o ≡ place.Waiting → (thread : Thread) × (o ≡ Some thread)
some_waits None e = absurd (cc e)
some_waits (Some thread) e = (thread, refl)

-- one that runs runs on where another, which waits, is placed anew
pub still_runs : (threads after : List Thread) (t u : ℕ) (pl : Stand) → after ≡ placed u pl threads → place_of (by_id threads t) ≡ place.Running → place_of (by_id threads u) ≡ place.Waiting → place_of (by_id after t) ≡ place.Running
still_runs threads after t u pl e runs waits =
    let made = some_waits (by_id threads u) waits in
    let ne : t ≢ u = λ s. let w : place_of (by_id threads t) ≡ place.Waiting = rw s waits in cc in
    rw (e, by_id_other (at_place pl) threads u t made.0 made.1 ne) runs

head_counts : (w : ℕ × Answer) → cond {A = ℕ} (w.0 == w.0) 1 0 ≡ 1
head_counts w = rw (eq_same w.0) refl

-- the first of those that wait
pub first_waits : (threads : List Thread) (w : ℕ × Answer) (ws : List (ℕ × Answer)) → AreWaiting threads (w ∷ ws) → place_of (by_id threads w.0) ≡ place.Waiting
first_waits threads w ws a =
    let le : cond (w.0 == w.0) 1 0 + times (λ x. x.0 == w.0) ws ≤ times_in_waits (stand_of threads w.0) = a.wait w.0 in
    waits_counted threads w.0 (omega (arith, head_counts w))

pub at_most_one : (pl : Stand) → times_in_waits pl ≤ 1
at_most_one stand.Running = omega arith
at_most_one stand.New = omega arith
at_most_one (stand.Ready a) = omega arith
at_most_one stand.Waiting = omega arith
at_most_one stand.Ended = omega arith

others_step : (threads : List Thread) (w : ℕ × Answer) (ws : List (ℕ × Answer)) (pl : Stand) (t : ℕ) → AreWaiting threads (w ∷ ws) → CasesEq w.0 t → times (λ x. x.0 == t) ws ≤ times_in_waits (stand_of (placed w.0 pl threads) t)
others_step threads w ws pl t a (Same e) =
    let n : cond {A = ℕ} (w.0 == t) 1 0 ≡ 1 = rw (e, eq_same t) refl in
    let le : cond (w.0 == t) 1 0 + times (λ x. x.0 == t) ws ≤ times_in_waits (stand_of threads t) = a.wait t in
    let one = at_most_one (stand_of threads t) in
    omega arith
others_step threads w ws pl t a (Other ne) =
    let made = some_waits (by_id threads w.0) (first_waits threads w ws a) in
    let le : cond (w.0 == t) 1 0 + times (λ x. x.0 == t) ws ≤ times_in_waits (stand_of threads t) = a.wait t in
    let e : stand_of (placed w.0 pl threads) t ≡ stand_of threads t = ap place_in (by_id_other (at_place pl) threads w.0 t made.0 made.1 (λ s. ne (sym s))) in
    rw e (omega arith)

-- the others wait on where it is placed anew
pub others_wait_on : (threads : List Thread) (w : ℕ × Answer) (ws : List (ℕ × Answer)) (pl : Stand) → AreWaiting threads (w ∷ ws) → AreWaiting (placed w.0 pl threads) ws
others_wait_on threads w ws pl a = record { wait = λ t. others_step threads w ws pl t a (cases_eq w.0 t) }

-- how far these threads are woken: the first i of them
pub record AreWoken (before now : Schedule) (wakes : List Wake) (i : ℕ) : Type 0 where
  pub waiting : AreWaiting now.threads (pairs_of (drop i wakes))
  pub stands : Tracks (all_readied (pairs_of (take i wakes))) before now

rest_pairs : (wakes : List Wake) (i : ℕ) (x : Wake) → i < length wakes → get_or wakes i x ≡ x → pairs_of (drop i wakes) ≡ pair_of x ∷ pairs_of (drop (i + 1) wakes)
rest_pairs wakes i x lt it = ap pairs_of (drop_more wakes i x lt ∙ ap (λ (w : Wake). w ∷ drop (i + 1) wakes) it)

first_pairs : (wakes : List Wake) (i : ℕ) (x : Wake) → i < length wakes → get_or wakes i x ≡ x → pairs_of (take (i + 1) wakes) ≡ pairs_of (take i wakes) ++ pair_of x ∷ []
first_pairs wakes i x lt it = ap pairs_of (take_more wakes i x lt ∙ ap (λ (w : Wake). take i wakes ++ w ∷ []) it) ∙ map-append pair_of (take i wakes) (x ∷ [])

-- the one that is next waits
pub next_waits : (before now : Schedule) (wakes : List Wake) (i : ℕ) (x : Wake) → i < length wakes → get_or wakes i x ≡ x → AreWoken before now wakes i → place_of (by_id now.threads x.tid) ≡ place.Waiting
next_waits before now wakes i x lt it k =
    first_waits now.threads (pair_of x) (pairs_of (drop (i + 1) wakes)) (subst (λ (ws : List (ℕ × Answer)). AreWaiting now.threads ws) (rest_pairs wakes i x lt it) k.waiting)

-- one more is woken
pub one_more : (before now new : Schedule) (wakes : List Wake) (i : ℕ) (x : Wake) (a : Answer) → i < length wakes → get_or wakes i x ≡ x → a ≡ x.answer → new ≡ sched_readied x.tid a now → Tracks (readied x.tid a) now new → AreWoken before now wakes i → AreWoken before new wakes (i + 1)
one_more before now new wakes i x a lt it e ready tracks k =
    let again : (s : State) → readied x.tid a (all_readied (pairs_of (take i wakes)) s) ≡ all_readied (pairs_of (take (i + 1) wakes)) s = λ s. ap (λ (b : Answer). readied x.tid b (all_readied (pairs_of (take i wakes)) s)) e ∙ sym (ap (λ (ws : List (ℕ × Answer)). all_readied ws s) (first_pairs wakes i x lt it) ∙ readied_push (pairs_of (take i wakes)) (pair_of x) s) in
    let threads : new.threads ≡ placed x.tid (stand.Ready a) now.threads = ap (λ (b : Schedule). b.threads) ready in
    let waits : AreWaiting now.threads (pair_of x ∷ pairs_of (drop (i + 1) wakes)) = subst (λ (ws : List (ℕ × Answer)). AreWaiting now.threads ws) (rest_pairs wakes i x lt it) k.waiting in
    record {
      waiting = subst (λ (ts : List Thread). AreWaiting ts (pairs_of (drop (i + 1) wakes))) (sym threads) (others_wait_on now.threads (pair_of x) (pairs_of (drop (i + 1) wakes)) (stand.Ready a) waits);
      stands = λ places s h. subst (λ (n : State). SchedFor places new n) (again s) (tracks places (all_readied (pairs_of (take i wakes)) s) (k.stands places s h));
    }
