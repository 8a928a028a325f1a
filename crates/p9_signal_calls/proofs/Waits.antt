-- What a thread waits in that stands once in the waits: an alt, a lock, a tag or a Rendez, or nothing of those.
use Rattle.std.proofs.Common.{◌≡◌, ℕ, ◌+◌, ◌≤◌, Bool, true, false, not, cond, ◌&&◌, ◌||◌, eqb, List, [], ◌∷◌, ◌++◌, Option, Some, None, refl, ap, ◌∙◌, arith}
use Rattle.std.specs.Prelude.{All}
use Rattle.std.specs.Option.{is_some}
use Rattle.std.specs.List.{filter, find, list_any, AllByRecursion}
use Rattle.std.proofs.lemmas.List.Elements.{filter-append, recursion_from_All}
use Rattle.p9_word.specs.declared.request.Request.{Request}
use Rattle.p9_word.specs.declared.request.Request.TheVariants.{Thread as ThreadRequest, Signal as SignalRequest, Chan as ChanRequest, Lock as LockRequest, Io as IoRequest}
use Rattle.p9_manual.specs.declared.locks.LockWait.{LockWait}
use Rattle.p9_manual.specs.declared.locks.LockWait.TheVariants as wait
use Rattle.p9_manual.specs.declared.locks.LockWaiter.{LockWaiter}
use Rattle.p9_manual.specs.declared.state.Party.{Party}
use Rattle.p9_manual.specs.declared.state.Waiter.{Waiter}
use Rattle.p9_manual.specs.Interrupt.{can_interrupt, is_interruptible, is_meeting}
use Rattle.p9_manual.specs.LockWaits.{holds_proc, is_holding, lock_wait_of, lock_waiter, lock_waiter_of, lock_waiters}
use Rattle.p9_manual.specs.Offers.{Alternation, alternation_of, party_with, party_of, parties}
use Rattle.p9_manual.specs.Sound.{can_wait}
use Rattle.p9_manual.specs.Standing.{times}
use Rattle.p9_manual.specs.State.{waits_without}
use Rattle.p9_signal_calls.proofs.Lists.{none_out, times_append}

-- who waits is thread t
abbrev pub is_locker : ℕ → LockWaiter → Bool
is_locker t w = eqb w.tid t

abbrev pub is_party : ℕ → Party → Bool
is_party t u = eqb u.tid t

one_locker_out : (t u : ℕ) (b : Bool) (o : Option (LockWait × ℕ)) → eqb u t ≡ b → filter (λ w. not (is_locker t w)) (lock_waiter u o) ≡ cond b [] (lock_waiter u o)
one_locker_out t u true None h = refl
one_locker_out t u false None h = refl
one_locker_out t u true (Some (what, value)) h = rw h refl
one_locker_out t u false (Some (what, value)) h = rw h refl

lockers_step : (t : ℕ) (b : Bool) (w : Waiter) (fs ws : List Waiter) → eqb w.tid t ≡ b → lock_waiters fs ≡ filter (λ x. not (is_locker t x)) (lock_waiters ws) → lock_waiters (cond (not b) (w ∷ fs) fs) ≡ filter (λ x. not (is_locker t x)) (lock_waiter_of w ++ lock_waiters ws)
lockers_step t true w fs ws h e = rw (filter-append (λ x. not (is_locker t x)) (lock_waiter_of w) (lock_waiters ws), one_locker_out t w.tid true (lock_wait_of w.request) h) e
lockers_step t false w fs ws h e = rw (filter-append (λ x. not (is_locker t x)) (lock_waiter_of w) (lock_waiters ws), one_locker_out t w.tid false (lock_wait_of w.request) h) (ap (λ xs. lock_waiter_of w ++ xs) e)

-- without the waits of t those of the other threads are left
pub lockers_without : (t : ℕ) → (waits : List Waiter) → lock_waiters (waits_without t waits) ≡ filter (λ x. not (is_locker t x)) (lock_waiters waits)
lockers_without t [] = refl
lockers_without t (w ∷ ws) = lockers_step t (eqb w.tid t) w (waits_without t ws) ws refl (lockers_without t ws)

one_party_out : (t u at : ℕ) (b : Bool) (o : Option Alternation) → eqb u t ≡ b → filter (λ p. not (is_party t p)) (party_with u at o) ≡ cond b [] (party_with u at o)
one_party_out t u at true None h = refl
one_party_out t u at false None h = refl
one_party_out t u at true (Some a) h = rw h refl
one_party_out t u at false (Some a) h = rw h refl

parties_step : (t : ℕ) (b : Bool) (w : Waiter) (fs ws : List Waiter) → eqb w.tid t ≡ b → parties fs ≡ filter (λ p. not (is_party t p)) (parties ws) → parties (cond (not b) (w ∷ fs) fs) ≡ filter (λ p. not (is_party t p)) (party_of w ++ parties ws)
parties_step t true w fs ws h e = rw (filter-append (λ p. not (is_party t p)) (party_of w) (parties ws), one_party_out t w.tid w.at true (alternation_of w.request) h) e
parties_step t false w fs ws h e = rw (filter-append (λ p. not (is_party t p)) (party_of w) (parties ws), one_party_out t w.tid w.at false (alternation_of w.request) h) (ap (λ ps. party_of w ++ ps) e)

parties_without : (t : ℕ) → (waits : List Waiter) → parties (waits_without t waits) ≡ filter (λ u. not (is_party t u)) (parties waits)
parties_without t [] = refl
parties_without t (w ∷ ws) = parties_step t (eqb w.tid t) w (waits_without t ws) ws refl (parties_without t ws)

-- the alts stay where a thread that waits in none is taken out
pub parties_kept : (t : ℕ) (waits : List Waiter) → times (is_party t) (parties waits) ≡ 0 → parties (waits_without t waits) ≡ parties waits
parties_kept t waits h = parties_without t waits ∙ none_out (is_party t) (parties waits) h

-- who waits at locks stays where a thread that waits at none is taken out
pub lockers_kept : (t : ℕ) (waits : List Waiter) → times (is_locker t) (lock_waiters waits) ≡ 0 → lock_waiters (waits_without t waits) ≡ lock_waiters waits
lockers_kept t waits h = lockers_without t waits ∙ none_out (is_locker t) (lock_waiters waits) h

least : (b : Bool) → 0 ≤ cond b 1 0
least b = omega arith

one_locker : (t u : ℕ) (o : Option (LockWait × ℕ)) → times (is_locker t) (lock_waiter u o) ≤ cond (eqb u t) 1 0
one_locker t u None = least (eqb u t)
one_locker t u (Some (what, value)) = omega arith

one_party : (t u at : ℕ) (o : Option Alternation) → times (is_party t) (party_with u at o) ≤ cond (eqb u t) 1 0
one_party t u at None = least (eqb u t)
one_party t u at (Some a) = omega arith

party_at : (t u at : ℕ) (r : Request) → times (is_party t) (party_with u at (alternation_of r)) + times (is_locker t) (lock_waiter u (lock_wait_of r)) ≤ cond (eqb u t) 1 0
party_at t u at (LockRequest r) = let k = one_locker t u (lock_wait_of (LockRequest r)) in omega (arith, k)
party_at t u at (ChanRequest r) = let k = one_party t u at (alternation_of (ChanRequest r)) in omega (arith, k)
party_at t u at r = omega arith

-- a thread waits as often as in alts and at locks together
pub party_or_locker : (t : ℕ) → (waits : List Waiter) → times (is_party t) (parties waits) + times (is_locker t) (lock_waiters waits) ≤ times (λ w. eqb w.tid t) waits
party_or_locker t [] = omega arith
party_or_locker t (w ∷ ws) =
    let a = times_append (is_party t) (party_of w) (parties ws) in
    let b = times_append (is_locker t) (lock_waiter_of w) (lock_waiters ws) in
    let here = party_at t w.tid w.at w.request in
    let rest = party_or_locker t ws in
    omega (arith, a, b, here, rest)

idle_step : (b c d : Bool) (n : ℕ) → cond b 1 0 + n ≡ 0 → (n ≡ 0 → d ≡ false) → ((b && c) || d) ≡ false
idle_step true c d n h k = absurd (omega arith)
idle_step false c d n h k = k (omega arith)

-- a thread that waits nowhere isn't interrupted
pub not_there : (t : ℕ) → (waits : List Waiter) → times (λ w. eqb w.tid t) waits ≡ 0 → is_interruptible t waits ≡ false
not_there t [] h = refl
not_there t (w ∷ ws) h = idle_step (eqb w.tid t) (can_interrupt w.request) (is_interruptible t ws) (times (λ x. eqb x.tid t) ws) h (not_there t ws)

-- one that waits at no lock holds no proc
pub holds_none : (t : ℕ) → (ws : List LockWaiter) → times (is_locker t) ws ≡ 0 → is_holding t ws ≡ false
holds_none t [] h = refl
holds_none t (w ∷ ws) h = idle_step (eqb w.tid t) (holds_proc w.what) (is_holding t ws) (times (is_locker t) ws) h (holds_none t ws)

no_party : (t : ℕ) → (ps : List Party) → times (is_party t) ps ≡ 0 → list_any (is_party t) ps ≡ false
no_party t [] h = refl
no_party t (p ∷ ps) h = none_here (eqb p.tid t) (list_any (is_party t) ps) (times (is_party t) ps) h (no_party t ps)
  where
    none_here : (b d : Bool) (n : ℕ) → cond b 1 0 + n ≡ 0 → (n ≡ 0 → d ≡ false) → (b || d) ≡ false
    none_here true d n h k = absurd (omega arith)
    none_here false d n h k = k (omega arith)

no_locker : (t : ℕ) → (ws : List LockWaiter) → times (is_locker t) ws ≡ 0 → find (is_locker t) ws ≡ None
no_locker t [] h = refl
no_locker t (w ∷ ws) h = none_here (eqb w.tid t) w (find (is_locker t) ws) (times (is_locker t) ws) h (no_locker t ws)
  where
    none_here : (b : Bool) (w : LockWaiter) (o : Option LockWaiter) (n : ℕ) → cond b 1 0 + n ≡ 0 → (n ≡ 0 → o ≡ None) → cond b (Some w) o ≡ None
    none_here true w o n h k = absurd (omega arith)
    none_here false w o n h k = k (omega arith)

-- the wait of a waiter at locks is one with a tag
abbrev pub has_tag : Option LockWaiter → Bool
has_tag None = false
has_tag (Some w) = is_meeting (Some (w.what, w.value))

-- the one wait of t: its alt, or its wait at a lock
abbrev pub ends_wait : ℕ → List Waiter → Bool
ends_wait t waits = list_any (is_party t) (parties waits) || has_tag (find (is_locker t) (lock_waiters waits))

party_skipped : (t u at : ℕ) (o : Option Alternation) (ps : List Party) → eqb u t ≡ false → list_any (is_party t) (party_with u at o ++ ps) ≡ list_any (is_party t) ps
party_skipped t u at None ps e = refl
party_skipped t u at (Some a) ps e = rw e refl

locker_skipped : (t u : ℕ) (o : Option (LockWait × ℕ)) (ls : List LockWaiter) → eqb u t ≡ false → find (is_locker t) (lock_waiter u o ++ ls) ≡ find (is_locker t) ls
locker_skipped t u None ls e = refl
locker_skipped t u (Some (what, value)) ls e = rw e refl

alone_alt : (t u at : ℕ) (o : Option Alternation) (ps : List Party) (c : Bool) → eqb u t ≡ true → is_some o ≡ true → true ≡ (list_any (is_party t) (party_with u at o ++ ps) || c)
alone_alt t u at None ps c e h = absurd (cc h)
alone_alt t u at (Some a) ps c e h = rw e refl

alone_lock : (t u : ℕ) (o : Option (LockWait × ℕ)) (ls : List LockWaiter) → eqb u t ≡ true → is_some o ≡ true → (is_meeting o || false) ≡ has_tag (find (is_locker t) (lock_waiter u o ++ ls))
alone_lock t u None ls e h = absurd (cc h)
alone_lock t u (Some (what, value)) ls e h = rw e (or_false (is_meeting (Some (what, value))))
  where
    or_false : (b : Bool) → (b || false) ≡ b
    or_false true = refl
    or_false false = refl

alone : (t u at : ℕ) (r : Request) (ps : List Party) (ls : List LockWaiter) → eqb u t ≡ true → can_wait r ≡ true → list_any (is_party t) ps ≡ false → find (is_locker t) ls ≡ None → (can_interrupt r || false) ≡ (list_any (is_party t) (party_with u at (alternation_of r) ++ ps) || has_tag (find (is_locker t) (lock_waiter u (lock_wait_of r) ++ ls)))
alone t u at (ChanRequest r) ps ls e can p l = alone_alt t u at (alternation_of (ChanRequest r)) ps (has_tag (find (is_locker t) ls)) e can
alone t u at (LockRequest r) ps ls e can p l = rw p (alone_lock t u (lock_wait_of (LockRequest r)) ls e can)
alone t u at (ThreadRequest r) ps ls e can p l = rw (p, l) refl
alone t u at (SignalRequest r) ps ls e can p l = rw (p, l) refl
alone t u at (IoRequest r) ps ls e can p l = rw (p, l) refl

interrupted_step : (t : ℕ) (b : Bool) (w : Waiter) (ws : List Waiter) → eqb w.tid t ≡ b → can_wait w.request ≡ true → cond b 1 0 + times (λ x. eqb x.tid t) ws ≤ 1 → (times (λ x. eqb x.tid t) ws ≤ 1 → is_interruptible t ws ≡ ends_wait t ws) → ((b && can_interrupt w.request) || is_interruptible t ws) ≡ ends_wait t (w ∷ ws)
interrupted_step t true w ws e can once k =
    let none : times (λ (x : Waiter). eqb x.tid t) ws ≡ 0 = omega (arith, once) in
    let both = party_or_locker t ws in
    let i : is_interruptible t ws ≡ false = not_there t ws none in
    let p : list_any (is_party t) (parties ws) ≡ false = no_party t (parties ws) (omega (arith, none, both)) in
    let l : find (is_locker t) (lock_waiters ws) ≡ None = no_locker t (lock_waiters ws) (omega (arith, none, both)) in
    rw i (alone t w.tid w.at w.request (parties ws) (lock_waiters ws) e can p l)
interrupted_step t false w ws e can once k =
    rw (party_skipped t w.tid w.at (alternation_of w.request) (parties ws) e, locker_skipped t w.tid (lock_wait_of w.request) (lock_waiters ws) e) (k (omega (arith, once)))

interrupted_by : (t : ℕ) → (waits : List Waiter) → AllByRecursion (λ w. can_wait w.request ≡ true) waits → times (λ w. eqb w.tid t) waits ≤ 1 → is_interruptible t waits ≡ ends_wait t waits
interrupted_by t [] can once = refl
interrupted_by t (w ∷ ws) can once = interrupted_step t (eqb w.tid t) w ws refl can.0 once (interrupted_by t ws can.1)

-- an interrupt ends the one wait of t where that is an alt, or at locks a wait with a tag
pub is_ended : (t : ℕ) (waits : List Waiter) → All (λ w. can_wait w.request ≡ true) waits → times (λ w. eqb w.tid t) waits ≤ 1 → is_interruptible t waits ≡ ends_wait t waits
is_ended t waits can once = interrupted_by t waits (recursion_from_All (λ w. can_wait w.request ≡ true) waits can) once

tag_holds : (what : LockWait) (value : ℕ) → is_meeting (Some (what, value)) ≡ true → holds_proc what ≡ true
tag_holds (wait.Tag tag) value h = refl
tag_holds (wait.Lock s k) value h = absurd (cc h)
tag_holds (wait.Sleep r) value h = absurd (cc h)

holding_step : (t : ℕ) (b : Bool) (w : LockWaiter) (ws : List LockWaiter) → (has_tag (find (is_locker t) ws) ≡ true → is_holding t ws ≡ true) → has_tag (cond b (Some w) (find (is_locker t) ws)) ≡ true → ((b && holds_proc w.what) || is_holding t ws) ≡ true
holding_step t true w ws k h = rw (tag_holds w.what w.value h) refl
holding_step t false w ws k h = k h

-- a thread that waits with a tag holds its proc
pub holds_by_tag : (t : ℕ) → (ws : List LockWaiter) → has_tag (find (is_locker t) ws) ≡ true → is_holding t ws ≡ true
holds_by_tag t [] h = absurd (cc h)
holds_by_tag t (w ∷ ws) h = holding_step t (eqb w.tid t) w ws (holds_by_tag t ws) h
