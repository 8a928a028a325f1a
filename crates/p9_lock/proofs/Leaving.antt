-- The threads that wait, where one of them leaves.
use Rattle.std.proofs.Common.{◌≡◌, ℕ, Bool, true, false, not, cond, eqb, List, [], ◌∷◌, ◌++◌, Option, Some, None, refl, sym, ap, ◌∙◌, subst}
use Rattle.std.specs.Prelude.{is_some}
use Rattle.std.specs.List.{filter, find}
use Rattle.std.specs.Option.{option_map}
use Rattle.std.proofs.lemmas.List.Elements.{filter-append}
use Rattle.p9_manual.specs.declared.locks.LockWait.{LockWait}
use Rattle.p9_manual.specs.declared.locks.LockWaiter.{LockWaiter}
use Rattle.p9_manual.specs.declared.state.Waiter.{Waiter}
use Rattle.p9_manual.specs.Ends.{Gone, off_waits}
use Rattle.p9_manual.specs.LockWaits.{lock_waiter, lock_wait_of, lock_waiter_of, lock_waiters}
use Rattle.p9_lock.specs.Locking.{Locking, left_where}
use Rattle.p9_lock.specs.Stands.{Tracks}
use Rattle.p9_lock.specs.Waiting.{others, wait_of}

stay_step : (b : Bool) (w : LockWaiter) (o : Option LockWaiter) (fs ws : List LockWaiter) → is_some (option_map (λ x. x.what) (cond b (Some w) o)) ≡ false → (is_some (option_map (λ x. x.what) o) ≡ false → fs ≡ ws) → cond (not b) (w ∷ fs) fs ≡ w ∷ ws
stay_step true w o fs ws e k = absurd (cc e)
stay_step false w o fs ws e k = ap (λ xs. w ∷ xs) (k e)

-- where a thread doesn't wait, all stay
pub all_others : (t : ℕ) (ws : List LockWaiter) → is_some (wait_of t ws) ≡ false → others t ws ≡ ws
all_others t [] e = refl
all_others t (w ∷ ws) e = stay_step (eqb w.tid t) w (find (λ x. eqb x.tid t) ws) (others t ws) ws e (all_others t ws)

one_stays : (ends : Gone) (u : ℕ) (b : Bool) (o : Option (LockWait × ℕ)) → ends u ≡ b → filter (λ w. not (ends w.tid)) (lock_waiter u o) ≡ cond b [] (lock_waiter u o)
one_stays ends u true None h = refl
one_stays ends u false None h = refl
one_stays ends u true (Some (what, value)) h = rw h refl
one_stays ends u false (Some (what, value)) h = rw h refl

others_step : (ends : Gone) (b : Bool) (w : Waiter) (fs ws : List Waiter) → ends w.tid ≡ b → lock_waiters fs ≡ filter (λ x. not (ends x.tid)) (lock_waiters ws) → lock_waiters (cond (not b) (w ∷ fs) fs) ≡ filter (λ x. not (ends x.tid)) (lock_waiter_of w ++ lock_waiters ws)
others_step ends true w fs ws h e = rw (filter-append (λ x. not (ends x.tid)) (lock_waiter_of w) (lock_waiters ws), one_stays ends w.tid true (lock_wait_of w.request) h) e
others_step ends false w fs ws h e =
    rw (filter-append (λ x. not (ends x.tid)) (lock_waiter_of w) (lock_waiters ws), one_stays ends w.tid false (lock_wait_of w.request) h) (ap (λ xs. lock_waiter_of w ++ xs) e)

-- without the waits of some threads the others wait as before
others_of : (ends : Gone) (waits : List Waiter) → lock_waiters (filter (λ w. not (ends w.tid)) waits) ≡ filter (λ w. not (ends w.tid)) (lock_waiters waits)
others_of ends [] = refl
others_of ends (w ∷ ws) = others_step ends (ends w.tid) w (filter (λ x. not (ends x.tid)) ws) ws refl (others_of ends ws)

-- the locks stand for the state in which these threads wait no more
leave_state : (ends : Gone) (old : Locking) → Tracks (off_waits ends) old (left_where ends old)
leave_state ends old rendezes s h = record {
  holds = h.holds;
  waits = others_of ends s.waits ∙ ap (filter (λ w. not (ends w.tid))) h.waits;
  on = h.on;
}

-- so do locks that are equal to these
pub left_state : (ends : Gone) (old new : Locking) → new ≡ left_where ends old → Tracks (off_waits ends) old new
left_state ends old new e = subst (λ x. Tracks (off_waits ends) old x) (sym e) (leave_state ends old)
