-- The waits at locks and in calls of ioprocs stay where threads that wait in alts are woken.
use Rattle.std.proofs.Common.{◌≡◌, ℕ, ◌+◌, ◌≤◌, Bool, true, false, not, cond, List, [], ◌∷◌, ◌++◌, Option, Some, None, refl, ap, sym, ◌∙◌, subst, arith, append-nil}
use Rattle.std.specs.Prelude.{◌==◌, is_none}
use Rattle.std.specs.List.{filter}
use Rattle.std.proofs.lemmas.List.Elements.{filter-append}
use Rattle.p9_word.specs.declared.answer.Answer.{Answer}
use Rattle.p9_manual.specs.declared.state.Party.{Party}
use Rattle.p9_manual.specs.declared.state.Waiter.{Waiter}
use Rattle.p9_manual.specs.Offers.{Alternation, alternation_of, party_with, party_of, parties}
use Rattle.p9_manual.specs.State.{waits_without}
use Rattle.p9_manual.specs.Standing.{times}
use Rattle.p9_chan_calls.specs.Serves.{is_in_call}
use Rattle.p9_chan_calls.proofs.Closing.{all_left, filter_none}
use Rattle.p9_chan_calls.proofs.Parties.{is_tid, times-append, times_parties, parties_without_tid}
use Rattle.p9_chan_calls.proofs.Others.{CasesEq, Same, Other, cases_eq, eq_same, eq_other}

-- a thread waits in an alt
some_party : (t at : ℕ) (o : Option Alternation) → 1 ≤ times (is_tid t) (party_with t at o) → is_none o ≡ false
some_party t at None h = absurd (omega arith)
some_party t at (Some a) h = refl

none_of : (t u at : ℕ) (o : Option Alternation) → (u == t) ≡ false → times (is_tid t) (party_with u at o) ≡ 0
none_of t u at None e = refl
none_of t u at (Some a) e = let none : cond {A = ℕ} (u == t) 1 0 ≡ 0 = rw e refl in omega arith

kept_call : (b : Bool) (w : Waiter) (xs ys : List Waiter) → xs ≡ ys → cond b (w ∷ xs) xs ≡ cond b (w ∷ ys) ys
kept_call b w xs ys e = ap (λ (zs : List Waiter). cond b (w ∷ zs) zs) e

call_step : (t : ℕ) (w : Waiter) (ws : List Waiter) → times (λ x. x.tid == t) (w ∷ ws) ≤ 1 → 1 ≤ times (is_tid t) (parties (w ∷ ws)) → (times (λ x. x.tid == t) ws ≤ 1 → 1 ≤ times (is_tid t) (parties ws) → filter is_in_call (waits_without t ws) ≡ filter is_in_call ws) → CasesEq w.tid t → filter is_in_call (waits_without t (w ∷ ws)) ≡ filter is_in_call (w ∷ ws)
call_step t w ws le one more (Same e) =
    let here : (w.tid == t) ≡ true = rw e (eq_same t) in
    let counts : cond {A = ℕ} (w.tid == t) 1 0 ≡ 1 = rw here refl in
    let none : times (λ x. x.tid == t) ws ≡ 0 = omega arith in
    let few = times_parties t ws in
    let both = times-append (is_tid t) (party_of w) (parties ws) in
    let first : 1 ≤ times (is_tid t) (party_of w) = omega arith in
    let off : is_in_call w ≡ false = some_party w.tid w.at (alternation_of w.request) (subst (λ (u : ℕ). 1 ≤ times (is_tid u) (party_of w)) (sym e) first) in
    let gone : waits_without t (w ∷ ws) ≡ ws = rw here (filter_none (λ x. x.tid == t) ws none) in
    ap (filter is_in_call) gone ∙ rw off refl
call_step t w ws le one more (Other ne) =
    let off : (w.tid == t) ≡ false = eq_other w.tid t ne in
    let none : cond {A = ℕ} (w.tid == t) 1 0 ≡ 0 = rw off refl in
    let both = times-append (is_tid t) (party_of w) (parties ws) in
    let here = none_of t w.tid w.at (alternation_of w.request) off in
    let kept : waits_without t (w ∷ ws) ≡ w ∷ waits_without t ws = rw off refl in
    ap (filter is_in_call) kept ∙ kept_call (is_in_call w) w _ _ (more (omega arith) (omega arith))

-- one that waits in an alt, and so waits once, leaves the waits
pub calls_without : (t : ℕ) → (waits : List Waiter) → times (λ x. x.tid == t) waits ≤ 1 → 1 ≤ times (is_tid t) (parties waits) → filter is_in_call (waits_without t waits) ≡ filter is_in_call waits
calls_without t [] le one = refl
calls_without t (w ∷ ws) le one = call_step t w ws le one (calls_without t ws) (cases_eq w.tid t)

fewer_by : (q : Waiter → Bool) (b : Bool) (w : Waiter) (fs : List Waiter) (n : ℕ) → times q fs ≤ n → times q (cond b (w ∷ fs) fs) ≤ cond (q w) 1 0 + n
fewer_by q true w fs n h = omega arith
fewer_by q false w fs n h = omega arith

fewer : (q p : Waiter → Bool) → (ws : List Waiter) → times q (filter p ws) ≤ times q ws
fewer q p [] = omega arith
fewer q p (w ∷ ws) = fewer_by q (p w) w (filter p ws) (times q ws) (fewer q p ws)

other_step : (t u : ℕ) (b : Bool) (w : Party) (fs ws : List Party) → (w.tid == t) ≡ b → (u == t) ≡ false → times (is_tid u) fs ≡ times (is_tid u) ws → CasesEq w.tid u → times (is_tid u) (cond (not b) (w ∷ fs) fs) ≡ times (is_tid u) (w ∷ ws)
other_step t u true w fs ws e ne h (Same s) = let k : (u == t) ≡ true = subst (λ (x : ℕ). (x == t) ≡ true) s e in absurd (cc (k, ne))
other_step t u true w fs ws e ne h (Other n) = let z : cond {A = ℕ} (w.tid == u) 1 0 ≡ 0 = rw (eq_other w.tid u n) refl in omega arith
other_step t u false w fs ws e ne h c = omega arith

-- another thread waits as often as before
others_same : (t u : ℕ) → (u == t) ≡ false → (ps : List Party) → times (is_tid u) (filter (λ x. not (x.tid == t)) ps) ≡ times (is_tid u) ps
others_same t u ne [] = refl
others_same t u ne (w ∷ ws) = other_step t u (w.tid == t) w (filter (λ x. not (x.tid == t)) ws) ws refl ne (others_same t u ne ws) (cases_eq w.tid u)

-- each thread waits once at most, and these wait in alts, none twice
pub record WaitIn (ws : List (ℕ × Answer)) (waits : List Waiter) : Type 0 where
  pub once : (t : ℕ) → times (λ x. x.tid == t) waits ≤ 1
  pub stand : (t : ℕ) → times (λ x. x.0 == t) ws ≤ times (is_tid t) (parties waits)

rest_stand : (w : ℕ × Answer) (ws : List (ℕ × Answer)) (waits : List Waiter) → WaitIn (w ∷ ws) waits → (t : ℕ) → CasesEq w.0 t → times (λ x. x.0 == t) ws ≤ times (is_tid t) (parties (waits_without w.0 waits))
rest_stand w ws waits h t (Same e) =
    let n : cond {A = ℕ} (w.0 == t) 1 0 ≡ 1 = rw e (ap (λ (b : Bool). cond {A = ℕ} b 1 0) (eq_same t)) in
    let le : cond (w.0 == t) 1 0 + times (λ x. x.0 == t) ws ≤ times (is_tid t) (parties waits) = h.stand t in
    let few = times_parties t waits in
    let one = h.once t in
    omega arith
rest_stand w ws waits h t (Other ne) =
    let le : cond (w.0 == t) 1 0 + times (λ x. x.0 == t) ws ≤ times (is_tid t) (parties waits) = h.stand t in
    let same : times (is_tid t) (parties (waits_without w.0 waits)) ≡ times (is_tid t) (parties waits) = ap (times (is_tid t)) (parties_without_tid w.0 waits) ∙ others_same w.0 t (eq_other t w.0 (λ e. ne (sym e))) (parties waits) in
    omega arith

pub rest_wait : (w : ℕ × Answer) (ws : List (ℕ × Answer)) (waits : List Waiter) → WaitIn (w ∷ ws) waits → WaitIn ws (waits_without w.0 waits)
rest_wait w ws waits h = record {
  once = λ t. let le = fewer (λ x. x.tid == t) (λ x. not (x.tid == w.0)) waits in let one = h.once t in omega arith;
  stand = λ t. rest_stand w ws waits h t (cases_eq w.0 t);
}

pub first_stands : (w : ℕ × Answer) (ws : List (ℕ × Answer)) (waits : List Waiter) → WaitIn (w ∷ ws) waits → 1 ≤ times (is_tid w.0) (parties waits)
first_stands w ws waits h =
    let n : cond {A = ℕ} (w.0 == w.0) 1 0 ≡ 1 = ap (λ (b : Bool). cond {A = ℕ} b 1 0) (eq_same w.0) in
    let le : cond (w.0 == w.0) 1 0 + times (λ x. x.0 == w.0) ws ≤ times (is_tid w.0) (parties waits) = h.stand w.0 in
    omega arith

-- these threads leave the waits
pub calls_left : (ws : List (ℕ × Answer)) (waits : List Waiter) → WaitIn ws waits → filter is_in_call (all_left ws waits) ≡ filter is_in_call waits
calls_left [] waits h = refl
calls_left (w ∷ ws) waits h =
    calls_left ws (waits_without w.0 waits) (rest_wait w ws waits h) ∙ calls_without w.0 waits (h.once w.0) (first_stands w ws waits h)

-- one more waits in an alt
pub calls_push : (waits : List Waiter) (w : Waiter) → is_in_call w ≡ false → filter is_in_call (waits ++ w ∷ []) ≡ filter is_in_call waits
calls_push waits w off = filter-append is_in_call waits (w ∷ []) ∙ rw off (append-nil (filter is_in_call waits))
