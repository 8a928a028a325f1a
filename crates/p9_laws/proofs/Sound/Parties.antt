-- The threads that wait in an alt, where one more waits or one is taken out.
use Rattle.std.proofs.Common.{◌≡◌, ℕ, ◌+◌, ◌≤◌, Bool, true, false, not, cond, eqb, List, [], ◌∷◌, ◌++◌, Option, Some, None, refl, ap, ◌∙◌, arith, append-nil}
use Rattle.std.specs.List.{filter}
use Rattle.std.proofs.lemmas.List.Elements.{filter-append}
use Rattle.std.proofs.lemmas.List.Concat.{flat_map-append}
use Rattle.p9_word.specs.declared.request.Request.{Request}
use Rattle.p9_word.specs.declared.request.Request.TheVariants.{Chan as ChanRequest}
use Rattle.p9_manual.specs.declared.state.Waiter.{Waiter}
use Rattle.p9_manual.specs.declared.state.Party.{Party}
use Rattle.p9_manual.specs.Offers.{Alternation, alternation_of, party_with, party_of, parties}
use Rattle.p9_manual.specs.State.{waits_without}
use Rattle.p9_manual.specs.Standing.{times}
use Rattle.p9_manual.specs.Sound.{call_in, call_at, waiting_calls}
use Rattle.p9_laws.proofs.Sound.Counts.{times-append, times_parts}

-- the party is thread t
abbrev pub is_tid : ℕ → Party → Bool
is_tid t p = eqb p.tid t

-- thread t waits in an alt
abbrev pub WaitsInAlt : ℕ → List Waiter → Type 0
WaitsInAlt t waits = 1 ≤ times (is_tid t) (parties waits)

-- one more wait
pub parties_push : (waits : List Waiter) (w : Waiter) → parties (waits ++ w ∷ []) ≡ parties waits ++ party_of w
parties_push waits w = flat_map-append party_of waits (w ∷ []) ∙ ap (λ ps. parties waits ++ ps) (append-nil (party_of w))

pub times_parties_push : (q : Party → Bool) (waits : List Waiter) (w : Waiter) → times q (parties (waits ++ w ∷ [])) ≡ times q (parties waits) + times q (party_of w)
times_parties_push q waits w = ap (times q) (parties_push waits w) ∙ times-append q (parties waits) (party_of w)

one_off : (off : ℕ → Bool) (u at : ℕ) (b : Bool) (o : Option Alternation) → off u ≡ b → filter (λ p. not (off p.tid)) (party_with u at o) ≡ cond b [] (party_with u at o)
one_off off u at true None h = refl
one_off off u at false None h = refl
one_off off u at true (Some a) h = rw h refl
one_off off u at false (Some a) h = rw h refl

off_step : (off : ℕ → Bool) (b : Bool) (w : Waiter) (fs ws : List Waiter) → off w.tid ≡ b → parties fs ≡ filter (λ p. not (off p.tid)) (parties ws) → parties (cond (not b) (w ∷ fs) fs) ≡ filter (λ p. not (off p.tid)) (party_of w ++ parties ws)
off_step off true w fs ws h e = rw (filter-append (λ p. not (off p.tid)) (party_of w) (parties ws), one_off off w.tid w.at true (alternation_of w.request) h) e
off_step off false w fs ws h e = rw (filter-append (λ p. not (off p.tid)) (party_of w) (parties ws), one_off off w.tid w.at false (alternation_of w.request) h) (ap (λ ps. party_of w ++ ps) e)

-- without the waits of some threads the parties are those of the others
pub parties_off : (off : ℕ → Bool) → (waits : List Waiter) → parties (filter (λ w. not (off w.tid)) waits) ≡ filter (λ p. not (off p.tid)) (parties waits)
parties_off off [] = refl
parties_off off (w ∷ ws) = off_step off (off w.tid) w (filter (λ x. not (off x.tid)) ws) ws refl (parties_off off ws)

-- and so without those of one
pub parties_without : (t : ℕ) (waits : List Waiter) → parties (waits_without t waits) ≡ filter (λ p. not (is_tid t p)) (parties waits)
parties_without t waits = parties_off (λ u. eqb u t) waits

-- no more pass where some were taken out
pub fewer_off : (q : Party → Bool) (off : ℕ → Bool) (waits : List Waiter) → times q (parties (filter (λ w. not (off w.tid)) waits)) ≤ times q (parties waits)
fewer_off q off waits =
    let a = ap (times q) (parties_off off waits) in
    let b = times_parts q (λ p. off p.tid) (parties waits) in
    omega (arith, a, b)

pub none_off : (q : Party → Bool) (off : ℕ → Bool) (waits : List Waiter) → times q (parties waits) ≡ 0 → times q (parties (filter (λ w. not (off w.tid)) waits)) ≡ 0
none_off q off waits h = let k = fewer_off q off waits in omega (arith, k)

pub none_left : (q : Party → Bool) (t : ℕ) (waits : List Waiter) → times q (parties waits) ≡ 0 → times q (parties (waits_without t waits)) ≡ 0
none_left q t waits h = none_off q (λ u. eqb u t) waits h

one_party : (t u at : ℕ) (o : Option Alternation) → times (is_tid t) (party_with u at o) ≤ cond (eqb u t) 1 0
one_party t u at None = least (eqb u t)
  where
    least : (b : Bool) → 0 ≤ cond b 1 0
    least b = omega arith
one_party t u at (Some a) = omega arith

-- a thread waits at least as often as it waits in an alt
pub times_parties : (t : ℕ) → (waits : List Waiter) → times (is_tid t) (parties waits) ≤ times (λ w. eqb w.tid t) waits
times_parties t [] = omega arith
times_parties t (w ∷ ws) =
    let a = times-append (is_tid t) (party_of w) (parties ws) in
    let here = one_party t w.tid w.at (alternation_of w.request) in
    let rest = times_parties t ws in
    omega (arith, a, here, rest)

no_call : (k t u at : ℕ) (r : Request) → 1 ≤ times (is_tid t) (party_with u at (alternation_of r)) → call_in k u r ≡ []
no_call k t u at (ChanRequest r) h = refl
no_call k t u at r h = absurd (omega arith)

calls_step : (k t : ℕ) (b : Bool) (w : Waiter) (fs ws : List Waiter) → cond b 1 0 + times (λ x. eqb x.tid t) ws ≤ times (is_tid t) (party_of w) + times (is_tid t) (parties ws) → times (is_tid t) (party_of w) ≤ cond b 1 0 → (times (λ x. eqb x.tid t) ws ≤ times (is_tid t) (parties ws) → waiting_calls k fs ≡ waiting_calls k ws) → waiting_calls k (cond (not b) (w ∷ fs) fs) ≡ call_at k w ++ waiting_calls k ws
calls_step k t true w fs ws h one e =
    let k1 = times_parties t ws in
    let none = no_call k t w.tid w.at w.request (omega (arith, k1, h)) in
    rw none (e (omega (arith, h, one)))
calls_step k t false w fs ws h one e = ap (λ cs. call_at k w ++ cs) (e (omega (arith, h, one)))

-- a thread that waits in alts alone is in no call
pub party_calls : (k t : ℕ) → (waits : List Waiter) → times (λ w. eqb w.tid t) waits ≤ times (is_tid t) (parties waits) → waiting_calls k (waits_without t waits) ≡ waiting_calls k waits
party_calls k t [] h = refl
party_calls k t (w ∷ ws) h =
    calls_step k t (eqb w.tid t) w (waits_without t ws) ws (let a = times-append (is_tid t) (party_of w) (parties ws) in omega (arith, a, h)) (one_party t w.tid w.at (alternation_of w.request)) (party_calls k t ws)
