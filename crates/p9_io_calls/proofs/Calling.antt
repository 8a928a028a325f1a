-- Which threads wait in calls, and what stays where one begins or ceases to wait in a call.
use Rattle.std.proofs.Common.{◌≡◌, ◌≢◌, ℕ, zero, suc, ◌+◌, ◌≤◌, Bool, true, false, not, cond, List, [], ◌∷◌, ◌++◌, Option, Some, None, refl, ap, ◌∙◌, arith, rules, tests}
use Rattle.std.specs.Prelude.{◌==◌, if◌then◌else◌}
use Rattle.std.specs.List.{filter}
use Rattle.p9_word.specs.declared.request.Request.{Request}
use Rattle.p9_word.specs.declared.request.Request.TheVariants.{Thread as ThreadRequest, Signal as SignalRequest, Chan as ChanRequest, Lock as LockRequest, Io as IoRequest}
use Rattle.p9_word.specs.declared.request.IoReq.TheVariants.{IoRun}
use Rattle.p9_word.specs.declared.io_call.IoCall.{IoCall}
use Rattle.p9_word.specs.declared.setup.Setup.{Setup}
use Rattle.p9_manual.specs.declared.state.Place.{Place as Stand}
use Rattle.p9_manual.specs.declared.state.Place.TheVariants as stand
use Rattle.p9_manual.specs.declared.state.Thread.{Thread}
use Rattle.p9_manual.specs.declared.state.Waiter.{Waiter}
use Rattle.p9_manual.specs.declared.state.Party.{Party}
use Rattle.p9_manual.specs.declared.locks.LockWaiter.{LockWaiter}
use Rattle.p9_manual.specs.declared.state.Ioproc.TheVariants.{Begun}
use Rattle.p9_manual.specs.LockWaits.{lock_wait_of, lock_waiter_of, lock_waiters}
use Rattle.p9_manual.specs.Offers.{alternation_of, party_of, parties}
use Rattle.p9_manual.specs.State.{State, by_id, waits_without}
use Rattle.p9_manual.specs.Standing.{times, times_in_waits, place_in, place_of as stand_of}
use Rattle.p9_manual.specs.Sound.{IsSound, call_in, call_of, waiting_calls}
use Rattle.p9_sched.specs.Turns.{place_of}
use Rattle.p9_sched.specs.declared.turns.Place.TheVariants as place
use Rattle.p9_io_calls.specs.Serves.{IsWaiting}

-- one more wait that is in no alt
pub parties_more : (ws : List Waiter) (w : Waiter) → alternation_of w.request ≡ None → parties (ws ++ w ∷ []) ≡ parties ws
parties_more [] w e = rw e refl
parties_more (x ∷ ws) w e = ap (λ (ps : List Party). party_of x ++ ps) (parties_more ws w e)

data CasesEq (a b : ℕ) : Type 0 where
  Same : a ≡ b → CasesEq a b
  Other : a ≢ b → CasesEq a b

cases_suc : (a b : ℕ) → CasesEq a b → CasesEq (suc a) (suc b)
cases_suc a b (Same e) = Same (ap suc e)
cases_suc a b (Other n) = Other (λ e. n (omega arith))

cases_eq : (a b : ℕ) → CasesEq a b
cases_eq zero zero = Same refl
cases_eq zero (suc b) = Other (λ e. omega arith)
cases_eq (suc a) zero = Other (λ e. omega arith)
cases_eq (suc a) (suc b) = cases_suc a b (cases_eq a b)

eq_same : (a : ℕ) → (a == a) ≡ true
eq_same a = search (rules, tests)

eq_other : (a b : ℕ) → a ≢ b → (a == b) ≡ false
eq_other a b n = search (rules, tests)

drop_none : {A : Type 0} (b : Bool) (x : A) (n : ℕ) (out xs : List A) → cond b 1 0 + n ≡ 0 → (n ≡ 0 → out ≡ xs) → cond (not b) (x ∷ out) out ≡ x ∷ xs
drop_none true x n out xs h more = absurd (omega arith)
drop_none {A} false x n out xs h more = ap (λ (ys : List A). x ∷ ys) (more (omega arith))

-- where none passes nothing is left out
none_out : {A : Type 0} (p : A → Bool) (xs : List A) → times p xs ≡ 0 → filter (λ x. not (p x)) xs ≡ xs
none_out p [] h = refl
none_out p (x ∷ xs) h = drop_none (p x) x (times p xs) (filter (λ y. not (p y)) xs) xs h (none_out p xs)

head_is : {A : Type 0} (x y : A) (xs ys : List A) → x ∷ xs ≡ y ∷ ys → x ≡ y
head_is x y xs ys e = cc

run_counts : (b : Bool) (u : ℕ) (own : IoCall) (rest : List (ℕ × IoCall)) (t : ℕ) (call : IoCall) (n : ℕ) → (if b then (u, own) ∷ [] else []) ++ rest ≡ (t, call) ∷ [] → (rest ≡ (t, call) ∷ [] → 1 ≤ n) → 1 ≤ cond {A = ℕ} (u == t) 1 0 + n
run_counts true u own rest t call n e more =
    let same : u ≡ t = ap (λ (z : ℕ × IoCall). z.0) (head_is _ _ _ _ e) in
    let c : cond {A = ℕ} (u == t) 1 0 ≡ 1 = rw (same, eq_same t) refl in
    omega arith
run_counts false u own rest t call n e more = let m = more e in omega arith

call_counts : (k u : ℕ) (q : Request) (rest : List (ℕ × IoCall)) (t : ℕ) (call : IoCall) (n : ℕ) → call_in k u q ++ rest ≡ (t, call) ∷ [] → (rest ≡ (t, call) ∷ [] → 1 ≤ n) → 1 ≤ cond {A = ℕ} (u == t) 1 0 + n
call_counts k u (IoRequest (IoRun j own)) rest t call n e more = run_counts (j == k) u own rest t call n e more
call_counts k u q rest t call n e more = let m = more e in omega arith

-- the thread of the only call in which threads wait at an ioproc stands in the waits
calls_counted : (k t : ℕ) (call : IoCall) → (waits : List Waiter) → waiting_calls k waits ≡ (t, call) ∷ [] → 1 ≤ times (λ w. w.tid == t) waits
calls_counted k t call [] e = absurd (cc e)
calls_counted k t call (w ∷ ws) e = call_counts k w.tid w.request (waiting_calls k ws) t call (times (λ x. x.tid == t) ws) e (calls_counted k t call ws)

-- without the waits of thread t the same threads wait in alts, and at locks, at Rendezes and with tags
pub record StaysWithout (t : ℕ) (waits : List Waiter) : Type 0 where
  pub alts : parties (waits_without t waits) ≡ parties waits
  pub locks : lock_waiters (waits_without t waits) ≡ lock_waiters waits

-- a wait in this request is in no alt, and at no lock
record IsNeither (request : Request) : Type 0 where
  pub alt : alternation_of request ≡ None
  pub lock : lock_wait_of request ≡ None

-- a wait of another thread stays, with its alt or at its lock
kept_on : (t : ℕ) (w : Waiter) (ws : List Waiter) → (w.tid == t) ≡ false → StaysWithout t ws → StaysWithout t (w ∷ ws)
kept_on t w ws e same = record {
  alts = rw e (ap (λ (ps : List Party). party_of w ++ ps) same.alts);
  locks = rw e (ap (λ (ls : List LockWaiter). lock_waiter_of w ++ ls) same.locks);
}

-- a wait in a call is neither, so it may go
call_goes : (t : ℕ) (w : Waiter) (ws : List Waiter) → (w.tid == t) ≡ true → times (λ x. x.tid == t) ws ≡ 0 → IsNeither w.request → StaysWithout t (w ∷ ws)
call_goes t w ws e none neither = record {
  alts = rw (e, none_out (λ x. x.tid == t) ws none, neither.alt) refl;
  locks = rw (e, none_out (λ x. x.tid == t) ws none, neither.lock) refl;
}

-- the first wait of the only thread that waits in a call at an ioproc is that call
first_in_call : (k u at : ℕ) (q : Request) (ws : List Waiter) (t : ℕ) (call : IoCall) → call_in k u q ++ waiting_calls k ws ≡ (t, call) ∷ [] → times (λ x. x.tid == t) ws ≡ 0 → IsNeither q
first_in_call k u at (ChanRequest r) ws t call e none = let n = calls_counted k t call ws e in absurd (omega arith)
first_in_call k u at (LockRequest r) ws t call e none = let n = calls_counted k t call ws e in absurd (omega arith)
first_in_call k u at (ThreadRequest r) ws t call e none = record { alt = refl; lock = refl }
first_in_call k u at (SignalRequest r) ws t call e none = record { alt = refl; lock = refl }
first_in_call k u at (IoRequest r) ws t call e none = record { alt = refl; lock = refl }

-- where another thread's wait comes first, the call is behind it
other_if : (b : Bool) (u : ℕ) (own : IoCall) (rest : List (ℕ × IoCall)) (t : ℕ) (call : IoCall) → (u ≡ t → ⊥) → (if b then (u, own) ∷ [] else []) ++ rest ≡ (t, call) ∷ [] → rest ≡ (t, call) ∷ []
other_if true u own rest t call ne e = absurd (ne (ap (λ (z : ℕ × IoCall). z.0) (head_is _ _ _ _ e)))
other_if false u own rest t call ne e = e

other_first : (k u : ℕ) (q : Request) (rest : List (ℕ × IoCall)) (t : ℕ) (call : IoCall) → (u ≡ t → ⊥) → call_in k u q ++ rest ≡ (t, call) ∷ [] → rest ≡ (t, call) ∷ []
other_first k u (IoRequest (IoRun j own)) rest t call ne e = other_if (j == k) u own rest t call ne e
other_first k u q rest t call ne e = e

-- a thread that stands in the waits once, in a call, has no alt there, and waits at no lock
in_call_by : (k t : ℕ) (call : IoCall) (w : Waiter) (ws : List Waiter) → waiting_calls k (w ∷ ws) ≡ (t, call) ∷ [] → times (λ x. x.tid == t) (w ∷ ws) ≤ 1 → (waiting_calls k ws ≡ (t, call) ∷ [] → times (λ x. x.tid == t) ws ≤ 1 → StaysWithout t ws) → CasesEq w.tid t → StaysWithout t (w ∷ ws)
in_call_by k t call w ws e le more (Same same) =
    let here : (w.tid == t) ≡ true = rw same (eq_same t) in
    let one : cond {A = ℕ} (w.tid == t) 1 0 ≡ 1 = rw here refl in
    let none : times (λ x. x.tid == t) ws ≡ 0 = omega arith in
    call_goes t w ws here none (first_in_call k w.tid w.at w.request ws t call e none)
in_call_by k t call w ws e le more (Other ne) =
    let off : (w.tid == t) ≡ false = eq_other w.tid t ne in
    kept_on t w ws off (more (other_first k w.tid w.request (waiting_calls k ws) t call ne e) (omega arith))

in_call : (k t : ℕ) (call : IoCall) → (waits : List Waiter) → waiting_calls k waits ≡ (t, call) ∷ [] → times (λ x. x.tid == t) waits ≤ 1 → StaysWithout t waits
in_call k t call [] e le = record { alts = refl; locks = refl }
in_call k t call (w ∷ ws) e le = in_call_by k t call w ws e le (in_call k t call ws) (cases_eq w.tid t)

waits_from : (pl : Stand) → 1 ≤ times_in_waits pl → pl ≡ stand.Waiting
waits_from stand.Running h = absurd (omega arith)
waits_from stand.New h = absurd (omega arith)
waits_from (stand.Ready a) h = absurd (omega arith)
waits_from stand.Waiting h = refl
waits_from stand.Ended h = absurd (omega arith)

told_waiting : (o : Option Thread) → place_in o ≡ stand.Waiting → place_of o ≡ place.Waiting
told_waiting None e = absurd (cc e)
told_waiting (Some thread) e = rw e refl

at_most_one : (pl : Stand) → times_in_waits pl ≤ 1
at_most_one stand.Running = omega arith
at_most_one stand.New = omega arith
at_most_one (stand.Ready a) = omega arith
at_most_one stand.Waiting = omega arith
at_most_one stand.Ended = omega arith

-- the thread that an ioproc has a call for waits
pub called_waits : (setup : Setup) (s : State) (k t : ℕ) (call : IoCall) → IsSound setup s → call_of (by_id s.ioprocs k) ≡ (t, call) ∷ [] → place_of (by_id s.threads t) ≡ place.Waiting
called_waits setup s k t call sound e =
    let here : waiting_calls k s.waits ≡ (t, call) ∷ [] = sound.calls.calls k ∙ e in
    let n : 1 ≤ times (λ w. w.tid == t) s.waits = calls_counted k t call s.waits here in
    let i : times (λ w. w.tid == t) s.waits ≡ times_in_waits (stand_of s.threads t) = sound.stand.in_waits t in
    told_waiting (by_id s.threads t) (waits_from (stand_of s.threads t) (omega arith))

-- and it has no alt, and waits at no lock
pub called_beside : (setup : Setup) (s : State) (k t : ℕ) (call : IoCall) → IsSound setup s → call_of (by_id s.ioprocs k) ≡ (t, call) ∷ [] → StaysWithout t s.waits
called_beside setup s k t call sound e =
    let here : waiting_calls k s.waits ≡ (t, call) ∷ [] = sound.calls.calls k ∙ e in
    let i : times (λ w. w.tid == t) s.waits ≡ times_in_waits (stand_of s.threads t) = sound.stand.in_waits t in
    let le = at_most_one (stand_of s.threads t) in
    in_call k t call s.waits here (omega arith)

-- the same of the thread that a begun call is for
pub caller_waits : (setup : Setup) (s : State) (k : ℕ) (caller : Option ℕ) (call : IoCall) → IsSound setup s → by_id s.ioprocs k ≡ Some (Begun caller call) → IsWaiting caller s.threads
caller_waits setup s k None call sound e = tt
caller_waits setup s k (Some t) call sound e = called_waits setup s k t call sound (ap call_of e)

pub caller_in_call : (setup : Setup) (s : State) (k t : ℕ) (call : IoCall) → IsSound setup s → by_id s.ioprocs k ≡ Some (Begun (Some t) call) → StaysWithout t s.waits
caller_in_call setup s k t call sound e = called_beside setup s k t call sound (ap call_of e)
