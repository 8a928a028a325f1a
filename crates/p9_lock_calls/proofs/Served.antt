-- What requests for locks come to.
use Rattle.std.proofs.Common.{◌≡◌, ℕ, true, false, List, [], ◌∷◌, ◌++◌, refl, ap, sym, subst, ◌∙◌, append-nil}
use Rattle.std.proofs.lemmas.List.Concat.{flat_map-append}
use Rattle.p9_word.specs.declared.answer.Answer.TheVariants.{Bad, Number}
use Rattle.p9_word.specs.declared.request.LockReq.{LockReq}
use Rattle.p9_word.specs.declared.request.Request.TheVariants.{Lock as LockRequest}
use Rattle.p9_word.specs.declared.setup.Setup.{Setup}
use Rattle.p9_word.specs.declared.trail.Reply.{Reply}
use Rattle.p9_word.specs.declared.trail.Reply.TheVariants.{Now, Waits}
use Rattle.p9_manual.specs.declared.locks.Sort.{Sort}
use Rattle.p9_manual.specs.declared.locks.Sort.TheVariants as sort
use Rattle.p9_manual.specs.declared.locks.LockWait.TheVariants as wait
use Rattle.p9_manual.specs.declared.locks.LockWaiter.{LockWaiter}
use Rattle.p9_manual.specs.declared.state.Waiter.{Waiter}
use Rattle.p9_manual.specs.Claims.{attempt, claim, can_get, with_hold}
use Rattle.p9_manual.specs.Holds.{Holds}
use Rattle.p9_manual.specs.LockCalls.{got, is_lock, take, try, with_holds, give_up}
use Rattle.p9_manual.specs.Locks.{lock_call}
use Rattle.p9_manual.specs.LockWaits.{lock_waiter_of, lock_waiters}
use Rattle.p9_manual.specs.Queues.{joined}
use Rattle.p9_manual.specs.State.{State, Outcome, bad, now, waiting}
use Rattle.p9_manual.specs.Step.{makes_entry}
use Rattle.p9_lock.specs.Locking.{Locking, claimed}
use Rattle.p9_sched.specs.Schedule.{Schedule}
use Rattle.p9_sched.specs.Stands.{Tracks}
use Rattle.p9_lock_calls.specs.Granted.{ask_for, try_for, give_up as give_for}
use Rattle.p9_lock_calls.specs.Serves.{IsAt, Leaves, Serves, ServesRequest}
use Rattle.p9_lock_calls.proofs.Standing.{sched_holds, parties_push}

-- where the request is refused nothing changes
pub same_bad : (setup : Setup) (sched : Schedule) (locks : Locking) (s : State) → IsAt setup sched locks s → Serves setup s (bad s) (Now Bad) sched locks
same_bad setup sched locks s h = record { reply_is = refl; threads = h.threads; locked = h.locked; leaves = record { same = refl; alts = refl }; entry = refl }

-- a request comes to an outcome
pub by_outcome : (setup : Setup) (s : State) (o p : Outcome) (reply : Reply) (sched : Schedule) (locks : Locking) → o ≡ p → Serves setup s p reply sched locks → Serves setup s o reply sched locks
by_outcome setup s o p reply sched locks e h = subst (λ (q : Outcome). Serves setup s q reply sched locks) (sym e) h

-- each request by its sort
pub asked : (setup : Setup) (t : ℕ) (s : Sort) (k : ℕ) (m : State) → lock_call setup t (ask_for s k) m ≡ take s t k (ask_for s k) m
unfolding lock_call
asked setup t sort.Lock k m = refl
asked setup t sort.QLock k m = refl
asked setup t sort.Read k m = refl
asked setup t sort.Write k m = refl

pub attempted : (setup : Setup) (t : ℕ) (s : Sort) (k : ℕ) (m : State) → lock_call setup t (try_for s k) m ≡ try s t k m
unfolding lock_call
attempted setup t sort.Lock k m = refl
attempted setup t sort.QLock k m = refl
attempted setup t sort.Read k m = refl
attempted setup t sort.Write k m = refl

pub given : (setup : Setup) (t : ℕ) (s : Sort) (k : ℕ) (m : State) → lock_call setup t (give_for s k) m ≡ give_up s t k m
unfolding lock_call
given setup t sort.Lock k m = refl
given setup t sort.QLock k m = refl
given setup t sort.Read k m = refl
given setup t sort.Write k m = refl

take_bad : (s : Sort) (t k : ℕ) (r : LockReq) (m : State) → is_lock s k m.holds ≡ false → take s t k r m ≡ bad m
take_bad s t k r m e = rw e refl

try_bad : (s : Sort) (t k : ℕ) (m : State) → is_lock s k m.holds ≡ false → try s t k m ≡ bad m
try_bad s t k m e = rw e refl

-- where there is no such lock
pub no_take : (s : Sort) (t k : ℕ) (sched : Schedule) (locks : Locking) → is_lock s k locks.holds ≡ false → ServesRequest t (ask_for s k) sched locks (Now Bad) sched locks
no_take s t k sched locks e =
    record { serves = λ setup m h. by_outcome setup m _ (bad m) (Now Bad) sched locks (asked setup t s k m ∙ take_bad s t k (ask_for s k) m (ap (is_lock s k) h.locked.holds ∙ e)) (same_bad setup sched locks m h) }

pub no_try : (s : Sort) (t k : ℕ) (sched : Schedule) (locks : Locking) → is_lock s k locks.holds ≡ false → ServesRequest t (try_for s k) sched locks (Now Bad) sched locks
no_try s t k sched locks e =
    record { serves = λ setup m h. by_outcome setup m _ (bad m) (Now Bad) sched locks (attempted setup t s k m ∙ try_bad s t k m (ap (is_lock s k) h.locked.holds ∙ e)) (same_bad setup sched locks m h) }

take_got : (s : Sort) (t k : ℕ) (r : LockReq) (h : Holds) (ws : List LockWaiter) (m : State) → m.holds ≡ h → lock_waiters m.waits ≡ ws → is_lock s k h ≡ true → can_get s k h ws ≡ true → take s t k r m ≡ got s t (with_holds (with_hold s t k h) m)
take_got s t k r h ws m e f there can = rw (e, f, there, can) refl

take_waits : (s : Sort) (t k : ℕ) (r : LockReq) (h : Holds) (ws : List LockWaiter) (m : State) → m.holds ≡ h → lock_waiters m.waits ≡ ws → is_lock s k h ≡ true → can_get s k h ws ≡ false → take s t k r m ≡ waiting t (LockRequest r) m
take_waits s t k r h ws m e f there can = rw (e, f, there, can) refl

try_got : (s : Sort) (t k : ℕ) (h : Holds) (ws : List LockWaiter) (m : State) → m.holds ≡ h → lock_waiters m.waits ≡ ws → is_lock s k h ≡ true → can_get s k h ws ≡ true → try s t k m ≡ now (Number 1) (with_holds (with_hold s t k h) m)
try_got s t k h ws m e f there can = rw (e, f, there, can) refl

try_waits : (s : Sort) (t k : ℕ) (h : Holds) (ws : List LockWaiter) (m : State) → m.holds ≡ h → lock_waiters m.waits ≡ ws → is_lock s k h ≡ true → can_get s k h ws ≡ false → try s t k m ≡ now (Number 0) m
try_waits s t k h ws m e f there can = rw (e, f, there, can) refl

claim_got : (s : Sort) (t k : ℕ) (x : Locking) → can_get s k x.holds x.waits ≡ true → claimed (claim s t k x.holds x.waits) x ≡ record x { holds = with_hold s t k x.holds; room = false }
claim_got s t k x can = rw can refl

claim_waits : (s : Sort) (t k : ℕ) (x : Locking) → can_get s k x.holds x.waits ≡ false → claimed (claim s t k x.holds x.waits) x ≡ record x { waits = joined t (wait.Lock s k) 0 x.waits; room = false }
claim_waits s t k x can = rw can refl

attempt_got : (s : Sort) (t k : ℕ) (x : Locking) → can_get s k x.holds x.waits ≡ true → claimed (attempt s t k x.holds x.waits) x ≡ record x { holds = with_hold s t k x.holds; room = false }
attempt_got s t k x can = rw can refl

attempt_waits : (s : Sort) (t k : ℕ) (x : Locking) → can_get s k x.holds x.waits ≡ false → claimed (attempt s t k x.holds x.waits) x ≡ record x { room = false }
attempt_waits s t k x can = rw can refl

got_holds : (s : Sort) (t : ℕ) (m : State) → (got s t m).state.holds ≡ m.holds
got_holds sort.Lock t m = refl
got_holds sort.QLock t m = refl
got_holds sort.Read t m = refl
got_holds sort.Write t m = refl

got_waits : (s : Sort) (t : ℕ) (m : State) → (got s t m).state.waits ≡ m.waits
got_waits sort.Lock t m = refl
got_waits sort.QLock t m = refl
got_waits sort.Read t m = refl
got_waits sort.Write t m = refl

got_leaves : (s : Sort) (t : ℕ) (h : Holds) (m : State) → Leaves m (got s t (with_holds h m)).state
got_leaves sort.Lock t h m = record { same = refl; alts = refl }
got_leaves sort.QLock t h m = record { same = refl; alts = refl }
got_leaves sort.Read t h m = record { same = refl; alts = refl }
got_leaves sort.Write t h m = record { same = refl; alts = refl }

got_entry : (s : Sort) (t : ℕ) (m : State) → makes_entry (got s t m).reply ≡ true
got_entry sort.Lock t m = refl
got_entry sort.QLock t m = refl
got_entry sort.Read t m = refl
got_entry sort.Write t m = refl

-- the caller got the lock, and goes on
pub took : (s : Sort) (t k : ℕ) (sched after : Schedule) (x new : Locking) (reply : Reply) → is_lock s k x.holds ≡ true → can_get s k x.holds x.waits ≡ true → new ≡ claimed (claim s t k x.holds x.waits) x → ((m : State) → reply ≡ (got s t m).reply) → Tracks (λ m. (got s t m).state) sched after → ServesRequest t (ask_for s k) sched x reply after new
took s t k sched after x new reply there can e told tracks = record {
  serves = λ setup m h.
      let n : State = with_holds (with_hold s t k x.holds) m in
      let is : new ≡ record x { holds = with_hold s t k x.holds; room = false } = e ∙ claim_got s t k x can in
      by_outcome setup m _ (got s t n) reply after new (asked setup t s k m ∙ take_got s t k (ask_for s k) x.holds x.waits m h.locked.holds h.locked.waits there can) (record {
        reply_is = told n;
        threads = tracks setup.places n (sched_holds setup.places sched (with_hold s t k x.holds) m h.threads);
        locked = record {
          holds = got_holds s t n ∙ sym (ap (λ (y : Locking). y.holds) is);
          waits = ap lock_waiters (got_waits s t n) ∙ (h.locked.waits ∙ sym (ap (λ (y : Locking). y.waits) is));
          on = ap (λ (y : Locking). y.rendezes) is ∙ h.locked.on;
        };
        leaves = got_leaves s t (with_hold s t k x.holds) m;
        entry = ap makes_entry (told n) ∙ got_entry s t n;
      });
}

one_more : (s : Sort) (t k at : ℕ) → lock_waiter_of (record { tid = t; request = LockRequest (ask_for s k); at = at }) ≡ record { tid = t; what = wait.Lock s k; value = 0 } ∷ []
one_more sort.Lock t k at = refl
one_more sort.QLock t k at = refl
one_more sort.Read t k at = refl
one_more sort.Write t k at = refl

-- one more waits
pub waiters_push : (waits : List Waiter) (w : Waiter) → lock_waiters (waits ++ w ∷ []) ≡ lock_waiters waits ++ lock_waiter_of w
waiters_push waits w = flat_map-append lock_waiter_of waits (w ∷ []) ∙ ap (λ ws. lock_waiters waits ++ ws) (append-nil (lock_waiter_of w))

-- the caller waits for the lock
pub took_none : (s : Sort) (t k : ℕ) (sched after : Schedule) (x new : Locking) → is_lock s k x.holds ≡ true → can_get s k x.holds x.waits ≡ false → new ≡ claimed (claim s t k x.holds x.waits) x → Tracks (λ m. (waiting t (LockRequest (ask_for s k)) m).state) sched after → ServesRequest t (ask_for s k) sched x Waits after new
took_none s t k sched after x new there can e tracks = record {
  serves = λ setup m h.
      let is : new ≡ record x { waits = joined t (wait.Lock s k) 0 x.waits; room = false } = e ∙ claim_waits s t k x can in
      by_outcome setup m _ (waiting t (LockRequest (ask_for s k)) m) Waits after new (asked setup t s k m ∙ take_waits s t k (ask_for s k) x.holds x.waits m h.locked.holds h.locked.waits there can) (record {
        reply_is = refl;
        threads = tracks setup.places m h.threads;
        locked = record {
          holds = h.locked.holds ∙ sym (ap (λ (y : Locking). y.holds) is);
          waits = waiters_push m.waits (record { tid = t; request = LockRequest (ask_for s k); at = m.position }) ∙ (ap (λ ws. lock_waiters m.waits ++ ws) (one_more s t k m.position) ∙ (ap (joined t (wait.Lock s k) 0) h.locked.waits ∙ sym (ap (λ (y : Locking). y.waits) is)));
          on = ap (λ (y : Locking). y.rendezes) is ∙ h.locked.on;
        };
        leaves = record { same = refl; alts = parties_push m.waits t (ask_for s k) m.position };
        entry = refl;
      });
}

-- an attempt succeeds
pub tried_got : (s : Sort) (t k : ℕ) (sched : Schedule) (x new : Locking) → is_lock s k x.holds ≡ true → can_get s k x.holds x.waits ≡ true → new ≡ claimed (attempt s t k x.holds x.waits) x → ServesRequest t (try_for s k) sched x (Now (Number 1)) sched new
tried_got s t k sched x new there can e = record {
  serves = λ setup m h.
      let n : State = with_holds (with_hold s t k x.holds) m in
      let is : new ≡ record x { holds = with_hold s t k x.holds; room = false } = e ∙ attempt_got s t k x can in
      by_outcome setup m _ (now (Number 1) n) (Now (Number 1)) sched new (attempted setup t s k m ∙ try_got s t k x.holds x.waits m h.locked.holds h.locked.waits there can) (record {
        reply_is = refl;
        threads = sched_holds setup.places sched (with_hold s t k x.holds) m h.threads;
        locked = record {
          holds = sym (ap (λ (y : Locking). y.holds) is);
          waits = h.locked.waits ∙ sym (ap (λ (y : Locking). y.waits) is);
          on = ap (λ (y : Locking). y.rendezes) is ∙ h.locked.on;
        };
        leaves = record { same = refl; alts = refl };
        entry = refl;
      });
}

-- or nothing happens
pub tried_none : (s : Sort) (t k : ℕ) (sched : Schedule) (x new : Locking) → is_lock s k x.holds ≡ true → can_get s k x.holds x.waits ≡ false → new ≡ claimed (attempt s t k x.holds x.waits) x → ServesRequest t (try_for s k) sched x (Now (Number 0)) sched new
tried_none s t k sched x new there can e = record {
  serves = λ setup m h.
      let is : new ≡ record x { room = false } = e ∙ attempt_waits s t k x can in
      by_outcome setup m _ (now (Number 0) m) (Now (Number 0)) sched new (attempted setup t s k m ∙ try_waits s t k x.holds x.waits m h.locked.holds h.locked.waits there can) (record {
        reply_is = refl;
        threads = h.threads;
        locked = record {
          holds = h.locked.holds ∙ sym (ap (λ (y : Locking). y.holds) is);
          waits = h.locked.waits ∙ sym (ap (λ (y : Locking). y.waits) is);
          on = ap (λ (y : Locking). y.rendezes) is ∙ h.locked.on;
        };
        leaves = record { same = refl; alts = refl };
        entry = refl;
      });
}
