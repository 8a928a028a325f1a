-- The threads that wait at locks, at Rendezes and with tags, where one more waits or one is taken out; who holds a proc, where
-- threads change; and how a thread is woken that holds none.
use Rattle.std.proofs.Common.{◌≡◌, ℕ, zero, suc, ◌+◌, ◌-◌, ◌≤◌, Bool, true, false, not, cond, ◌&&◌, ◌||◌, eqb, List, [], ◌∷◌, ◌++◌, length, Option, Some, None, refl, ap, ◌∙◌, arith, append-nil}
use Rattle.std.specs.Prelude.{slice_get}
use Rattle.std.specs.List.{filter, find}
use Rattle.std.proofs.lemmas.Bool.{eqb-false}
use Rattle.std.proofs.lemmas.List.Elements.{filter-append}
use Rattle.std.proofs.lemmas.List.Concat.{flat_map-append}
use Rattle.p9_word.specs.declared.io_call.IoCall.{IoCall}
use Rattle.p9_word.specs.declared.request.Request.{Request}
use Rattle.p9_word.specs.declared.request.Request.TheVariants.{Chan as ChanRequest, Lock as LockRequest, Io as IoRequest}
use Rattle.p9_word.specs.declared.request.IoReq.TheVariants.{IoRun}
use Rattle.p9_manual.specs.declared.locks.LockWait.{LockWait}
use Rattle.p9_manual.specs.declared.locks.LockWaiter.{LockWaiter}
use Rattle.p9_manual.specs.declared.state.Place.{Place}
use Rattle.p9_manual.specs.declared.state.Place.TheVariants.{Waiting}
use Rattle.p9_manual.specs.declared.state.Thread.{Thread}
use Rattle.p9_manual.specs.declared.state.Waiter.{Waiter}
use Rattle.p9_manual.specs.Held.{holds_in, is_held}
use Rattle.p9_manual.specs.LockWaits.{lock_wait_of, lock_waiter, lock_waiter_of, lock_waiters, holds_proc, is_holding}
use Rattle.p9_manual.specs.Offers.{Alternation, alternation_of, party_with, party_of, parties}
use Rattle.p9_manual.specs.Places.{is_of}
use Rattle.p9_manual.specs.Sound.{call_in, call_at, waiting_calls}
use Rattle.p9_manual.specs.Standing.{StandOnce, times, place_of, place_in, times_in_waits}
use Rattle.p9_manual.specs.State.{State, by_id, changed, placed, at_place}
use Rattle.p9_laws.proofs.Sound.Counts.{times-append, times_none, found_counts}
use Rattle.p9_laws.proofs.Sound.Parties.{is_tid}
use Rattle.p9_laws.proofs.Sound.Places.{by_id-suc, by_id-push_other, by_id-past}
use Rattle.p9_laws.proofs.Sound.Stand.{eqb_same, waits_once}

-- who waits is thread t
abbrev pub is_locker : ℕ → LockWaiter → Bool
is_locker t w = eqb w.tid t

-- one more wait
pub lock_waiters_push : (waits : List Waiter) (w : Waiter) → lock_waiters (waits ++ w ∷ []) ≡ lock_waiters waits ++ lock_waiter_of w
lock_waiters_push waits w = flat_map-append lock_waiter_of waits (w ∷ []) ∙ ap (λ ws. lock_waiters waits ++ ws) (append-nil (lock_waiter_of w))

-- one more wait, in an alt or a call
pub lock_waiters_other : (waits : List Waiter) (w : Waiter) → lock_waiter_of w ≡ [] → lock_waiters (waits ++ w ∷ []) ≡ lock_waiters waits
lock_waiters_other waits w none = lock_waiters_push waits w ∙ ap (λ ws. lock_waiters waits ++ ws) none ∙ append-nil (lock_waiters waits)

one_off : (off : ℕ → Bool) (u : ℕ) (b : Bool) (o : Option (LockWait × ℕ)) → off u ≡ b → filter (λ w. not (off w.tid)) (lock_waiter u o) ≡ cond b [] (lock_waiter u o)
one_off off u true None h = refl
one_off off u false None h = refl
one_off off u true (Some (what, value)) h = rw h refl
one_off off u false (Some (what, value)) h = rw h refl

off_step : (off : ℕ → Bool) (b : Bool) (w : Waiter) (fs ws : List Waiter) → off w.tid ≡ b → lock_waiters fs ≡ filter (λ x. not (off x.tid)) (lock_waiters ws) → lock_waiters (cond (not b) (w ∷ fs) fs) ≡ filter (λ x. not (off x.tid)) (lock_waiter_of w ++ lock_waiters ws)
off_step off true w fs ws h e = rw (filter-append (λ x. not (off x.tid)) (lock_waiter_of w) (lock_waiters ws), one_off off w.tid true (lock_wait_of w.request) h) e
off_step off false w fs ws h e = rw (filter-append (λ x. not (off x.tid)) (lock_waiter_of w) (lock_waiters ws), one_off off w.tid false (lock_wait_of w.request) h) (ap (λ xs. lock_waiter_of w ++ xs) e)

-- without the waits of some threads there are those of the others
pub lock_waiters_off : (off : ℕ → Bool) → (waits : List Waiter) → lock_waiters (filter (λ w. not (off w.tid)) waits) ≡ filter (λ w. not (off w.tid)) (lock_waiters waits)
lock_waiters_off off [] = refl
lock_waiters_off off (w ∷ ws) = off_step off (off w.tid) w (filter (λ x. not (off x.tid)) ws) ws refl (lock_waiters_off off ws)

one_locker : (t u : ℕ) (o : Option (LockWait × ℕ)) → times (is_locker t) (lock_waiter u o) ≤ cond (eqb u t) 1 0
one_locker t u None = least (eqb u t)
  where
    least : (b : Bool) → 0 ≤ cond b 1 0
    least b = omega arith
one_locker t u (Some (what, value)) = omega arith

-- a thread waits at least as often as it waits at locks
pub times_lockers : (t : ℕ) → (waits : List Waiter) → times (is_locker t) (lock_waiters waits) ≤ times (λ w. eqb w.tid t) waits
times_lockers t [] = omega arith
times_lockers t (w ∷ ws) =
    let a = times-append (is_locker t) (lock_waiter_of w) (lock_waiters ws) in
    let here = one_locker t w.tid (lock_wait_of w.request) in
    let rest = times_lockers t ws in
    omega (arith, a, here, rest)

one_party : (t u at : ℕ) (o : Option Alternation) → times (is_tid t) (party_with u at o) ≤ cond (eqb u t) 1 0
one_party t u at None = least (eqb u t)
  where
    least : (b : Bool) → 0 ≤ cond b 1 0
    least b = omega arith
one_party t u at (Some a) = omega arith

party_at : (t u at : ℕ) (r : Request) → times (is_tid t) (party_with u at (alternation_of r)) + times (is_locker t) (lock_waiter u (lock_wait_of r)) ≤ cond (eqb u t) 1 0
party_at t u at (LockRequest r) = let k = one_locker t u (lock_wait_of (LockRequest r)) in omega (arith, k)
party_at t u at (ChanRequest r) = let k = one_party t u at (alternation_of (ChanRequest r)) in omega (arith, k)
party_at t u at r = omega arith

-- a thread waits as often as in alts and at locks together
pub party_or_locker : (t : ℕ) → (waits : List Waiter) → times (is_tid t) (parties waits) + times (is_locker t) (lock_waiters waits) ≤ times (λ w. eqb w.tid t) waits
party_or_locker t [] = omega arith
party_or_locker t (w ∷ ws) =
    let a = times-append (is_tid t) (party_of w) (parties ws) in
    let b = times-append (is_locker t) (lock_waiter_of w) (lock_waiters ws) in
    let here = party_at t w.tid w.at w.request in
    let rest = party_or_locker t ws in
    omega (arith, a, b, here, rest)

-- the call is for t
abbrev pub is_caller : ℕ → ℕ × IoCall → Bool
is_caller t c = eqb c.0 t

one_call : (t u : ℕ) (call : IoCall) (b : Bool) → times (is_caller t) (cond b ((u, call) ∷ []) []) + 0 ≤ cond (eqb u t) 1 0
one_call t u call true = omega arith
one_call t u call false = omega arith

caller_at : (k t u : ℕ) (r : Request) → times (is_caller t) (call_in k u r) + times (is_locker t) (lock_waiter u (lock_wait_of r)) ≤ cond (eqb u t) 1 0
caller_at k t u (IoRequest (IoRun j call)) = one_call t u call (eqb j k)
caller_at k t u (LockRequest r) = let h = one_locker t u (lock_wait_of (LockRequest r)) in omega (arith, h)
caller_at k t u r = omega arith

-- and as often as in calls at an ioproc and at locks together
pub caller_or_locker : (k t : ℕ) → (waits : List Waiter) → times (is_caller t) (waiting_calls k waits) + times (is_locker t) (lock_waiters waits) ≤ times (λ w. eqb w.tid t) waits
caller_or_locker k t [] = omega arith
caller_or_locker k t (w ∷ ws) =
    let a = times-append (is_caller t) (call_at k w) (waiting_calls k ws) in
    let b = times-append (is_locker t) (lock_waiter_of w) (lock_waiters ws) in
    let here = caller_at k t w.tid w.request in
    let rest = caller_or_locker k t ws in
    omega (arith, a, b, here, rest)

none_step : (b c d : Bool) (n : ℕ) → cond b 1 0 + n ≡ 0 → (n ≡ 0 → d ≡ false) → ((b && c) || d) ≡ false
none_step true c d n h k = absurd (omega arith)
none_step false c d n h k = k (omega arith)

-- a thread that waits at no lock holds no proc
pub none_holding : (t : ℕ) → (ws : List LockWaiter) → times (is_locker t) ws ≡ 0 → is_holding t ws ≡ false
none_holding t [] h = refl
none_holding t (w ∷ ws) h = none_step (eqb w.tid t) (holds_proc w.what) (is_holding t ws) (times (is_locker t) ws) h (none_holding t ws)

-- a thread that waits in an alt, in its only wait, waits at no lock
pub party_no_locker : (t : ℕ) (waits : List Waiter) → times (λ w. eqb w.tid t) waits ≤ 1 → 1 ≤ times (is_tid t) (parties waits) → times (is_locker t) (lock_waiters waits) ≡ 0
party_no_locker t waits once h = let k = party_or_locker t waits in omega (arith, k, once, h)

-- nor does one that waits in a call
pub caller_no_locker : (k t : ℕ) (waits : List Waiter) → times (λ w. eqb w.tid t) waits ≤ 1 → 1 ≤ times (is_caller t) (waiting_calls k waits) → times (is_locker t) (lock_waiters waits) ≡ 0
caller_no_locker k t waits once h = let e = caller_or_locker k t waits in omega (arith, e, once, h)

-- a thread that waits nowhere, as one that runs, waits at no lock
pub nowhere_no_locker : (t : ℕ) (waits : List Waiter) → times (λ w. eqb w.tid t) waits ≡ 0 → times (is_locker t) (lock_waiters waits) ≡ 0
nowhere_no_locker t waits none = let k = times_lockers t waits in omega (arith, k, none)

-- a thread that waits at a lock is at the place Waiting, and has one wait
pub locker_waits : (threads : List Thread) (line : List ℕ) (waits : List Waiter) (t : ℕ) → StandOnce threads line waits → 1 ≤ times (is_locker t) (lock_waiters waits) → (place_of threads t ≡ Waiting) × (times (λ w. eqb w.tid t) waits ≡ 1)
locker_waits threads line waits t stand h = waits_once threads line waits t stand (let k = times_lockers t waits in omega (arith, k, h))

-- one that is found waits at a lock
pub found_locker : (q : LockWaiter → Bool) (waits : List LockWaiter) (w : LockWaiter) → find q waits ≡ Some w → 1 ≤ times (is_locker w.tid) waits
found_locker q waits w e = (found_counts q (is_locker w.tid) waits w (eqb_same w.tid) e).1

is_of_step : (f : Thread → Thread) → ((x : Thread) → (f x).proc_no ≡ x.proc_no) → (p : ℕ) (threads : List Thread) (i j : ℕ) → is_of p (slice_get (changed f threads i) j) ≡ is_of p (slice_get threads j)
is_of_step f same p [] i j = refl
is_of_step f same p (x ∷ xs) zero zero = ap (λ n. eqb n p) (same x)
is_of_step f same p (x ∷ xs) zero (suc j) = refl
is_of_step f same p (x ∷ xs) (suc i) zero = refl
is_of_step f same p (x ∷ xs) (suc i) (suc j) = is_of_step f same p xs i j

-- each thread is in its proc, where one was changed and stays in its own
pub is_of_changed : (f : Thread → Thread) → ((x : Thread) → (f x).proc_no ≡ x.proc_no) → (p : ℕ) (threads : List Thread) (i u : ℕ) → is_of p (by_id (changed f threads i) u) ≡ is_of p (by_id threads u)
is_of_changed f same p threads i zero = refl
is_of_changed f same p threads i (suc j) = rw (by_id-suc (changed f threads i) j, by_id-suc threads j) (is_of_step f same p threads i j)

-- as many pass two tests that agree
pub times_same : {A : Type 0} (q p : A → Bool) → ((x : A) → q x ≡ p x) → (xs : List A) → times q xs ≡ times p xs
times_same q p h [] = refl
times_same q p h (x ∷ xs) = rw (h x, times_same q p h xs) refl

-- each proc has as many holders, where a thread was changed so
pub holders_changed : (f : Thread → Thread) → ((x : Thread) → (f x).proc_no ≡ x.proc_no) → (p : ℕ) (threads : List Thread) (i : ℕ) (ws : List LockWaiter) → times (holds_in (changed f threads i) p) ws ≡ times (holds_in threads p) ws
holders_changed f same p threads i ws =
    times_same (holds_in (changed f threads i) p) (holds_in threads p) (λ w. ap (λ b. holds_proc w.what && b) (is_of_changed f same p threads i w.tid)) ws

-- or put somewhere
pub holders_placed : (t : ℕ) (pl : Place) (p : ℕ) (threads : List Thread) (ws : List LockWaiter) → times (holds_in (placed t pl threads) p) ws ≡ times (holds_in threads p) ws
holders_placed t pl p threads ws = holders_changed (at_place pl) (λ x. refl) p threads (t - 1) ws

push_step : (p : ℕ) (threads : List Thread) (y : Thread) (b : Bool) (w : LockWaiter) (n : ℕ) → eqb w.tid (length threads + 1) ≡ b → cond b 1 0 + n ≡ 0 → holds_in (threads ++ y ∷ []) p w ≡ holds_in threads p w
push_step p threads y true w n e h = absurd (omega arith)
push_step p threads y false w n e h = ap (λ o. holds_proc w.what && is_of p o) (by_id-push_other y threads w.tid (eqb-false w.tid (length threads + 1) e))

-- or one more was made, which waits nowhere
pub holders_push : (p : ℕ) (threads : List Thread) (y : Thread) → (ws : List LockWaiter) → times (is_locker (length threads + 1)) ws ≡ 0 → times (holds_in (threads ++ y ∷ []) p) ws ≡ times (holds_in threads p) ws
holders_push p threads y [] h = refl
holders_push p threads y (w ∷ ws) h =
    let here = push_step p threads y (eqb w.tid (length threads + 1)) w (times (is_locker (length threads + 1)) ws) refl h in
    let rest = holders_push p threads y ws (let k = h in omega (arith, k)) in
    rw (here, rest) refl

-- the next thread waits nowhere
pub nobody_past : (threads : List Thread) (line : List ℕ) (waits : List Waiter) → StandOnce threads line waits → times (is_locker (length threads + 1)) (lock_waiters waits) ≡ 0
nobody_past threads line waits stand =
    nowhere_no_locker (length threads + 1) waits (stand.in_waits (length threads + 1) ∙ ap times_in_waits (ap place_in (by_id-past threads)))

-- a proc that isn't held has no holder
pub not_held : (p : ℕ) (s : State) → is_held p s ≡ false → times (holds_in s.threads p) (lock_waiters s.waits) ≡ 0
not_held p s h = times_none (holds_in s.threads p) (lock_waiters s.waits) h
