-- What becomes of the waits where a channel is closed: each thread that waits on it is woken once.
use Rattle.std.proofs.Common.{◌≡◌, ℕ, ◌+◌, ◌≤◌, Bool, true, false, not, cond, List, [], ◌∷◌, map, refl, ap, sym, ◌∙◌, arith, rules, tests}
use Rattle.std.specs.Prelude.{◌==◌}
use Rattle.std.specs.List.{filter}
use Rattle.p9_word.specs.declared.answer.Answer.{Answer}
use Rattle.p9_manual.specs.declared.state.Waiter.{Waiter}
use Rattle.p9_manual.specs.declared.state.Party.{Party}
use Rattle.p9_manual.specs.Offers.{parties}
use Rattle.p9_manual.specs.AltEntries.{waits_on}
use Rattle.p9_manual.specs.Close.{failed_on, all_failed}
use Rattle.p9_manual.specs.State.{waits_without}
use Rattle.p9_manual.specs.Standing.{times}
use Rattle.p9_chan_calls.proofs.Parties.{is_tid, parties_without_tid}
use Rattle.p9_chan_calls.proofs.Others.{CasesEq, Same, Other, cases_eq, eq_other}

-- the waits without those of these threads
abbrev pub all_left : List (ℕ × Answer) → List Waiter → List Waiter
all_left [] waits = waits
all_left (w ∷ ws) waits = all_left ws (waits_without w.0 waits)

-- which threads they are
abbrev pub tids_of : List (ℕ × Answer) → List ℕ
tids_of ws = map (λ w. w.0) ws

-- the parties without those of these threads
abbrev out : List ℕ → List Party → List Party
out [] ps = ps
out (t ∷ ts) ps = out ts (filter (λ u. not (u.tid == t)) ps)

left_out : (ws : List (ℕ × Answer)) (waits : List Waiter) → parties (all_left ws waits) ≡ out (tids_of ws) (parties waits)
left_out [] waits = refl
left_out (w ∷ ws) waits = left_out ws (waits_without w.0 waits) ∙ ap (out (tids_of ws)) (parties_without_tid w.0 waits)

keep_step : {A : Type 0} (b : Bool) (x : A) (xs rest : List A) (n : ℕ) → cond b 1 0 + n ≡ 0 → (n ≡ 0 → rest ≡ xs) → cond (not b) (x ∷ rest) rest ≡ x ∷ xs
keep_step true x xs rest n h k = absurd (omega arith)
keep_step false x xs rest n h k = ap (λ ys. x ∷ ys) (k (omega arith))

-- what passes nowhere is kept whole
pub filter_none : {A : Type 0} (p : A → Bool) → (xs : List A) → times p xs ≡ 0 → filter (λ x. not (p x)) xs ≡ xs
filter_none p [] h = refl
filter_none p (x ∷ xs) h = keep_step (p x) x xs (filter (λ y. not (p y)) xs) (times p xs) h (filter_none p xs)

-- t stands so often among these numbers
abbrev standing : ℕ → List ℕ → ℕ
standing t ts = times (λ s. s == t) ts

swap_by : (a b : ℕ) → CasesEq a b → (a == b) ≡ (b == a)
swap_by a b (Same e) = rw e refl
swap_by a b (Other n) = eq_other a b n ∙ sym (eq_other b a (λ e. n (sym e)))

eq_swap : (a b : ℕ) → (a == b) ≡ (b == a)
eq_swap a b = swap_by a b (cases_eq a b)

out_step : (b : Bool) (u : Party) (t : ℕ) (ts : List ℕ) (fs rest : List Party) → (t == u.tid) ≡ b → cond b 1 0 + standing u.tid ts ≡ 0 → (standing u.tid ts ≡ 0 → out ts (u ∷ fs) ≡ u ∷ out ts fs) → out ts (cond (not (u.tid == t)) (u ∷ fs) fs) ≡ u ∷ out ts fs
out_step true u t ts fs rest e h k = absurd (omega arith)
out_step false u t ts fs rest e h k = let f : (u.tid == t) ≡ false = eq_swap u.tid t ∙ e in rw f (k (omega arith))

-- a party that isn't one of these stays
out_other : (u : Party) → (ts : List ℕ) (ps : List Party) → standing u.tid ts ≡ 0 → out ts (u ∷ ps) ≡ u ∷ out ts ps
out_other u [] ps h = refl
out_other u (t ∷ ts) ps h = out_step (t == u.tid) u t ts (filter (λ x. not (x.tid == t)) ps) ps refl h (out_other u ts (filter (λ x. not (x.tid == t)) ps))

-- each thread waits in at most one alt
abbrev pub WaitOnce : List Party → Type 0
WaitOnce ps = (t : ℕ) → times (is_tid t) ps ≤ 1

fewer_step : (q : Party → Bool) (b : Bool) (t : ℕ) (u : Party) (fs us : List Party) → standing t (map (λ (w : Party). w.tid) fs) ≤ times (is_tid t) us → standing t (map (λ (w : Party). w.tid) (cond b (u ∷ fs) fs)) ≤ cond (u.tid == t) 1 0 + times (is_tid t) us
fewer_step q true t u fs us h = omega arith
fewer_step q false t u fs us h = omega arith

-- those that pass stand there no more often
pub fewer_tids : (q : Party → Bool) (t : ℕ) → (ps : List Party) → standing t (map (λ (w : Party). w.tid) (filter q ps)) ≤ times (is_tid t) ps
fewer_tids q t [] = omega arith
fewer_tids q t (u ∷ us) = fewer_step q (q u) t u (filter q us) us (fewer_tids q t us)

self_counts : (u : Party) → cond {A = ℕ} (u.tid == u.tid) 1 0 ≡ 1
self_counts u = let same : (u.tid == u.tid) ≡ true = search (rules, tests) in rw same refl

once_tail : (u : Party) (us : List Party) → WaitOnce (u ∷ us) → WaitOnce us
once_tail u us h t = let k : cond (u.tid == t) 1 0 + times (is_tid t) us ≤ 1 = h t in omega arith

once_head : (u : Party) (us : List Party) → WaitOnce (u ∷ us) → times (is_tid u.tid) us ≡ 0
once_head u us h = let k : cond (u.tid == u.tid) 1 0 + times (is_tid u.tid) us ≤ 1 = h u.tid in omega (arith, self_counts u)

drop_step : (q : Party → Bool) (b : Bool) (u : Party) (us : List Party) → times (is_tid u.tid) us ≡ 0 → out (map (λ (w : Party). w.tid) (filter q us)) us ≡ filter (λ w. not (q w)) us → out (map (λ (w : Party). w.tid) (cond b (u ∷ filter q us) (filter q us))) (u ∷ us) ≡ cond (not b) (u ∷ filter (λ w. not (q w)) us) (filter (λ w. not (q w)) us)
drop_step q true u us none e =
    let same : (u.tid == u.tid) ≡ true = search (rules, tests) in
    let one : filter (λ (x : Party). not (x.tid == u.tid)) (u ∷ us) ≡ us = rw same (filter_none (is_tid u.tid) us none) in
    ap (out (map (λ (w : Party). w.tid) (filter q us))) one ∙ e
drop_step q false u us none e =
    let few = fewer_tids q u.tid us in
    out_other u (map (λ (w : Party). w.tid) (filter q us)) us (omega (arith, few)) ∙ ap (λ ws. u ∷ ws) e

-- without the threads of those that pass the others are left
out_passing : (q : Party → Bool) → (ps : List Party) → WaitOnce ps → out (map (λ (w : Party). w.tid) (filter q ps)) ps ≡ filter (λ w. not (q w)) ps
out_passing q [] h = refl
out_passing q (u ∷ us) h = drop_step q (q u) u us (once_head u us h) (out_passing q us (once_tail u us h))

failed_tids : (c : ℕ) → (ps : List Party) → tids_of (map (failed_on c) ps) ≡ map (λ (w : Party). w.tid) ps
failed_tids c [] = refl
failed_tids c (u ∷ us) = ap (λ ts. u.tid ∷ ts) (failed_tids c us)

failed_step : (q : Party → Bool) (b : Bool) (c t : ℕ) (u : Party) (fs us : List Party) → times (λ w. w.0 == t) (map (failed_on c) fs) ≤ times (is_tid t) us → times (λ w. w.0 == t) (map (failed_on c) (cond b (u ∷ fs) fs)) ≤ cond (u.tid == t) 1 0 + times (is_tid t) us
failed_step q true c t u fs us h = omega arith
failed_step q false c t u fs us h = omega arith

-- those that pass are woken no more often than they wait
pub failed_counts : (q : Party → Bool) (c t : ℕ) → (ps : List Party) → times (λ w. w.0 == t) (map (failed_on c) (filter q ps)) ≤ times (is_tid t) ps
failed_counts q c t [] = omega arith
failed_counts q c t (u ∷ us) = failed_step q (q u) c t u (filter q us) us (failed_counts q c t us)

-- once all that wait on a channel are woken, those that wait elsewhere are left
pub closed_parties : (c : ℕ) (waits : List Waiter) → WaitOnce (parties waits) → parties (all_left (all_failed c (parties waits)) waits) ≡ filter (λ w. not (waits_on c w)) (parties waits)
closed_parties c waits h =
    left_out (all_failed c (parties waits)) waits ∙ (ap (λ ts. out ts (parties waits)) (failed_tids c (filter (waits_on c) (parties waits))) ∙ out_passing (waits_on c) (parties waits) h)
