-- What stays of the threads, the waits in alts and the procs that are held, where threads wait at locks and are woken.
use Rattle.std.proofs.Common.{◌≡◌, ℕ, ◌+◌, ◌≤◌, Bool, true, false, not, cond, ◌&&◌, ◌||◌, eqb, List, [], ◌∷◌, ◌++◌, Option, Some, None, refl, ap, sym, subst, ◌∙◌, map, arith, append-nil}
use Rattle.std.specs.List.{filter, list_any}
use Rattle.std.proofs.lemmas.List.Elements.{filter-append}
use Rattle.std.proofs.lemmas.List.Concat.{flat_map-append}
use Rattle.p9_word.specs.declared.request.LockReq.{LockReq}
use Rattle.p9_word.specs.declared.request.Request.{Request}
use Rattle.p9_word.specs.declared.request.Request.TheVariants.{Chan as ChanRequest, Lock as LockRequest}
use Rattle.p9_manual.specs.declared.locks.LockWait.{LockWait}
use Rattle.p9_manual.specs.declared.locks.LockWaiter.{LockWaiter}
use Rattle.p9_manual.specs.declared.state.Party.{Party}
use Rattle.p9_manual.specs.declared.state.Waiter.{Waiter}
use Rattle.p9_manual.specs.Held.{is_held}
use Rattle.p9_manual.specs.Holds.{Holds}
use Rattle.p9_manual.specs.LockCalls.{with_holds}
use Rattle.p9_manual.specs.LockWaits.{holds_proc, is_holding, lock_wait_of, lock_waiter, lock_waiter_of, lock_waiters}
use Rattle.p9_manual.specs.Offers.{Alternation, alternation_of, party_with, party_of, parties}
use Rattle.p9_manual.specs.Standing.{times}
use Rattle.p9_manual.specs.State.{State, Proc, waits_without}
use Rattle.p9_sched.specs.Schedule.{Schedule}
use Rattle.p9_sched.specs.Stands.{SchedFor, AreLines}
use Rattle.p9_lock_calls.proofs.Grants.{is_tid, waiters_without, count_append, none_out}

-- a schedule stands for each state with the same threads, line and procs
pub sched_same : (places : ℕ) (sched : Schedule) (s n : State) → n.threads ≡ s.threads → n.line ≡ s.line → n.procs ≡ s.procs → n.opened ≡ s.opened → ((p : ℕ) → is_held p n ≡ is_held p s) → SchedFor places sched s → SchedFor places sched n
sched_same places sched s n threads line procs opened held k =
    record {
      threads = threads ∙ k.threads;
      lines = subst (AreLines sched) (sym line) k.lines;
      words = ap (map (λ (p : Proc). p.word)) procs ∙ k.words;
      opened = opened ∙ k.opened;
      count = k.count;
      held = record { held = λ p a b. k.held.held p a b ∙ sym (held p) };
    }

pub sched_holds : (places : ℕ) (sched : Schedule) (h : Holds) (s : State) → SchedFor places sched s → SchedFor places sched (with_holds h s)
sched_holds places sched h s k = sched_same places sched s (with_holds h s) refl refl refl refl (λ p. refl) k

fewer_step : (f : LockWaiter → Bool) (b : Bool) (w : LockWaiter) (fs ws : List LockWaiter) → (f w || list_any f ws) ≡ false → (list_any f ws ≡ false → list_any f fs ≡ false) → list_any f (cond b (w ∷ fs) fs) ≡ false
fewer_step f b w fs ws h k = by_two (f w) (list_any f ws) refl refl h b
  where
    by_two : (c d : Bool) → f w ≡ c → list_any f ws ≡ d → (c || d) ≡ false → (b : Bool) → list_any f (cond b (w ∷ fs) fs) ≡ false
    by_two true d e g h b = cc
    by_two false true e g h b = cc
    by_two false false e g h true = rw e (k g)
    by_two false false e g h false = k g

none_left : (f q : LockWaiter → Bool) → (ws : List LockWaiter) → list_any f ws ≡ false → list_any f (filter q ws) ≡ false
none_left f q [] h = refl
none_left f q (w ∷ ws) h = fewer_step f (q w) w (filter q ws) ws h (none_left f q ws)

-- who holds no proc still holds none, where another is woken
pub still_beside : (t u : ℕ) (waits : List Waiter) → is_holding t (lock_waiters waits) ≡ false → is_holding t (lock_waiters (waits_without u waits)) ≡ false
still_beside t u waits h = ap (is_holding t) (waiters_without u waits) ∙ none_left (λ w. eqb w.tid t && holds_proc w.what) (λ w. not (is_tid u w)) (lock_waiters waits) h

-- the party is thread t
abbrev pub is_party : ℕ → Party → Bool
is_party t u = eqb u.tid t

-- one more waits
pub parties_push : (waits : List Waiter) (t : ℕ) (r : LockReq) (at : ℕ) → parties (waits ++ record { tid = t; request = LockRequest r; at = at } ∷ []) ≡ parties waits
parties_push waits t r at = flat_map-append party_of waits (record { tid = t; request = LockRequest r; at = at } ∷ []) ∙ append-nil (parties waits)

one_without : (t u at : ℕ) (b : Bool) (o : Option Alternation) → eqb u t ≡ b → filter (λ p. not (is_party t p)) (party_with u at o) ≡ cond b [] (party_with u at o)
one_without t u at true None h = refl
one_without t u at false None h = refl
one_without t u at true (Some a) h = rw h refl
one_without t u at false (Some a) h = rw h refl

without_step : (t : ℕ) (b : Bool) (w : Waiter) (fs ws : List Waiter) → eqb w.tid t ≡ b → parties fs ≡ filter (λ p. not (is_party t p)) (parties ws) → parties (cond (not b) (w ∷ fs) fs) ≡ filter (λ p. not (is_party t p)) (party_of w ++ parties ws)
without_step t true w fs ws h e = rw (filter-append (λ p. not (is_party t p)) (party_of w) (parties ws), one_without t w.tid w.at true (alternation_of w.request) h) e
without_step t false w fs ws h e = rw (filter-append (λ p. not (is_party t p)) (party_of w) (parties ws), one_without t w.tid w.at false (alternation_of w.request) h) (ap (λ ps. party_of w ++ ps) e)

parties_without : (t : ℕ) → (waits : List Waiter) → parties (waits_without t waits) ≡ filter (λ u. not (is_party t u)) (parties waits)
parties_without t [] = refl
parties_without t (w ∷ ws) = without_step t (eqb w.tid t) w (waits_without t ws) ws refl (parties_without t ws)

one_locker : (t u : ℕ) (r : LockReq) → times (is_tid t) (lock_waiter u (lock_wait_of (LockRequest r))) ≤ cond (eqb u t) 1 0
one_locker t u r = some t u (lock_wait_of (LockRequest r))
  where
    least : (b : Bool) → 0 ≤ cond b 1 0
    least b = omega arith

    some : (t u : ℕ) (o : Option (LockWait × ℕ)) → times (is_tid t) (lock_waiter u o) ≤ cond (eqb u t) 1 0
    some t u None = least (eqb u t)
    some t u (Some (what, value)) = omega arith

one_party : (t u at : ℕ) (o : Option Alternation) → times (is_party t) (party_with u at o) ≤ cond (eqb u t) 1 0
one_party t u at None = least (eqb u t)
  where
    least : (b : Bool) → 0 ≤ cond b 1 0
    least b = omega arith
one_party t u at (Some a) = omega arith

party_at : (t u at : ℕ) (r : Request) → times (is_party t) (party_with u at (alternation_of r)) + times (is_tid t) (lock_waiter u (lock_wait_of r)) ≤ cond (eqb u t) 1 0
party_at t u at (LockRequest r) = let k = one_locker t u r in omega (arith, k)
party_at t u at (ChanRequest r) = let k = one_party t u at (alternation_of (ChanRequest r)) in omega (arith, k)
party_at t u at r = omega arith

-- a thread waits as often as in alts and at locks together
pub party_or_locker : (t : ℕ) → (waits : List Waiter) → times (is_party t) (parties waits) + times (is_tid t) (lock_waiters waits) ≤ times (λ w. eqb w.tid t) waits
party_or_locker t [] = omega arith
party_or_locker t (w ∷ ws) =
    let a = count_append (is_party t) (party_of w) (parties ws) in
    let b = count_append (is_tid t) (lock_waiter_of w) (lock_waiters ws) in
    let here = party_at t w.tid w.at w.request in
    let rest = party_or_locker t ws in
    omega (arith, a, b, here, rest)

-- the alts stay where one that waits once, and at a lock, is woken
pub parties_kept : (t : ℕ) (waits : List Waiter) → times (is_party t) (parties waits) ≡ 0 → parties (waits_without t waits) ≡ parties waits
parties_kept t waits h = parties_without t waits ∙ none_out (is_party t) (parties waits) h
