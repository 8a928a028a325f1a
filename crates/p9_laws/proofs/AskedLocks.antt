-- What a request on locks does to a state. A new one is a case here, and in no law, unless it does what none of them does.
use Rattle.std.proofs.Common.{◌≡◌, ℕ, ◌+◌, ◌-◌, Bool, true, false, cond, length, Option, Some, None, refl}
use Rattle.std.specs.Prelude.{◌==◌}
use Rattle.std.specs.List.{find}
use Rattle.std.specs.Option.{is_some}
use Rattle.p9_word.specs.declared.answer.Answer.{Answer}
use Rattle.p9_word.specs.declared.answer.Answer.TheVariants.{Done, Met, Number}
use Rattle.p9_word.specs.declared.request.LockReq.{LockReq}
use Rattle.p9_word.specs.declared.request.LockReq.TheVariants as ask
use Rattle.p9_word.specs.declared.request.Request.TheVariants.{Lock as LockRequest}
use Rattle.p9_word.specs.declared.setup.Setup.{Setup}
use Rattle.p9_manual.specs.declared.locks.LockWaiter.{LockWaiter}
use Rattle.p9_manual.specs.declared.locks.Sort.{Sort}
use Rattle.p9_manual.specs.declared.locks.Sort.TheVariants as sort
use Rattle.p9_manual.specs.Claims.{attempt, can_get, claim, has_lock, with_hold}
use Rattle.p9_manual.specs.LockCalls.{give_up, got, is_lock, take, taken, tried, try, with_grant, with_holds}
use Rattle.p9_manual.specs.LockWaits.{lock_waiters, wait_for}
use Rattle.p9_manual.specs.Locks.{lock_call}
use Rattle.p9_manual.specs.MeetCalls.{meet_with}
use Rattle.p9_manual.specs.Refs.{greatest, raise, lower, with_ref}
use Rattle.p9_manual.specs.Rendez.{count_woken, sleep, sleepers}
use Rattle.p9_manual.specs.RendezCalls.{all_moved, first_moved, may_call, qlock_of, sleep_at, sleeps_at, wake_first, wake_sleepers}
use Rattle.p9_manual.specs.Rendezvous.{partner}
use Rattle.p9_manual.specs.State.{State, Outcome, by_id, done, now, wake, waiting}
use Rattle.p9_manual.specs.Unlocks.{release}
use Rattle.p9_laws.proofs.Asked.{Grants}

-- all that such a request of thread t may come to: an answer that changes nothing, and a Ref with another value; a lock that is
-- got at once, or with a turn for the others; a wait; a lock that is given up, without and with a sleep of the caller; a
-- meeting; and the first sleeper or all sleepers moved
pub data DoesToLocks (setup : Setup) (t : ℕ) (s : State) : Outcome → Type 0 where
  Says : (a : Answer) → DoesToLocks setup t s (now a s)
  Counts : (k value : ℕ) → DoesToLocks setup t s (now (Number value) (with_ref k value s))
  Gets : (l : Sort) (k : ℕ) (a : Answer) → Grants a → can_get l k s.holds (lock_waiters s.waits) ≡ true
      → DoesToLocks setup t s (now a (with_holds (with_hold l t k s.holds) s))
  GetsInTurn : (l : Sort) (k : ℕ) → can_get l k s.holds (lock_waiters s.waits) ≡ true
      → DoesToLocks setup t s (done t Done (with_holds (with_hold l t k s.holds) s))
  WaitsFor : (r : LockReq) → is_some (wait_for r) ≡ true → DoesToLocks setup t s (waiting t (LockRequest r) s)
  GivesUp : (l : Sort) (k : ℕ) → has_lock l t k s.holds ≡ true
      → DoesToLocks setup t s (now Done (with_grant (release l t k s.holds (lock_waiters s.waits)) s))
  Sleeps : (r : ℕ) → may_call setup t r s ≡ true
      → DoesToLocks setup t s (waiting t (LockRequest (ask.RSleep r)) (with_grant (sleep t r (qlock_of r setup.rendezes) s.holds (lock_waiters s.waits)) s))
  Meets : (tag value : ℕ) (w : LockWaiter) → partner tag (lock_waiters s.waits) ≡ Some w
      → DoesToLocks setup t s (now (Met w.value) (wake w.tid (Met value) s))
  MovesFirst : (r n : ℕ) → may_call setup t r s ≡ true
      → DoesToLocks setup t s (now (Number n) (record s { waits = first_moved r (qlock_of r setup.rendezes) (find (sleeps_at r) s.waits) s.waits }))
  MovesAll : (r n : ℕ) → may_call setup t r s ≡ true
      → DoesToLocks setup t s (now (Number n) (record s { waits = all_moved r (qlock_of r setup.rendezes) s.waits }))

if_does : (setup : Setup) (t : ℕ) (s : State) (b : Bool) (o p : Outcome) → (b ≡ true → DoesToLocks setup t s o) → DoesToLocks setup t s p → DoesToLocks setup t s (cond b o p)
if_does setup t s true o p f g = f refl
if_does setup t s false o p f g = g

raise_does : (setup : Setup) (t k : ℕ) (s : State) (o : Option ℕ) → DoesToLocks setup t s (raise k s o)
raise_does setup t k s None = Says _
raise_does setup t k s (Some value) = if_does setup t s (value == greatest) _ _ (λ _. Says _) (Counts k (value + 1))

lower_does : (setup : Setup) (t k : ℕ) (s : State) (o : Option ℕ) → DoesToLocks setup t s (lower k s o)
lower_does setup t k s None = Says _
lower_does setup t k s (Some value) = if_does setup t s (value == 0) _ _ (λ _. Says _) (Counts k (value - 1))

got_does : (setup : Setup) (t k : ℕ) (l : Sort) (s : State) → can_get l k s.holds (lock_waiters s.waits) ≡ true → DoesToLocks setup t s (got l t (with_holds (with_hold l t k s.holds) s))
got_does setup t k sort.Lock s can = Gets sort.Lock k Done refl can
got_does setup t k sort.QLock s can = GetsInTurn sort.QLock k can
got_does setup t k sort.Read s can = GetsInTurn sort.Read k can
got_does setup t k sort.Write s can = GetsInTurn sort.Write k can

claim_does : (setup : Setup) (t k : ℕ) (l : Sort) (r : LockReq) (s : State) (b : Bool) → can_get l k s.holds (lock_waiters s.waits) ≡ b → is_some (wait_for r) ≡ true → DoesToLocks setup t s (taken l t r (claim l t k s.holds (lock_waiters s.waits)) s)
claim_does setup t k l r s true e waits = rw e (got_does setup t k l s e)
claim_does setup t k l r s false e waits = rw e (WaitsFor r waits)

take_does : (setup : Setup) (t k : ℕ) (l : Sort) (r : LockReq) (s : State) → is_some (wait_for r) ≡ true → DoesToLocks setup t s (take l t k r s)
take_does setup t k l r s waits = if_does setup t s (is_lock l k s.holds) _ _ (λ _. claim_does setup t k l r s _ refl waits) (Says _)

attempt_does : (setup : Setup) (t k : ℕ) (l : Sort) (s : State) (b : Bool) → can_get l k s.holds (lock_waiters s.waits) ≡ b → DoesToLocks setup t s (tried (attempt l t k s.holds (lock_waiters s.waits)) s)
attempt_does setup t k l s true e = rw e (Gets l k (Number 1) refl e)
attempt_does setup t k l s false e = rw e (Says _)

try_does : (setup : Setup) (t k : ℕ) (l : Sort) (s : State) → DoesToLocks setup t s (try l t k s)
try_does setup t k l s = if_does setup t s (is_lock l k s.holds) _ _ (λ _. attempt_does setup t k l s _ refl) (Says _)

give_up_does : (setup : Setup) (t k : ℕ) (l : Sort) (s : State) → DoesToLocks setup t s (give_up l t k s)
give_up_does setup t k l s = if_does setup t s (has_lock l t k s.holds) _ _ (λ has. GivesUp l k has) (Says _)

sleep_does : (setup : Setup) (t r : ℕ) (s : State) → DoesToLocks setup t s (sleep_at setup t r s)
sleep_does setup t r s = if_does setup t s (may_call setup t r s) _ _ (λ may. Sleeps r may) (Says _)

wake_first_does : (setup : Setup) (t r : ℕ) (s : State) → DoesToLocks setup t s (wake_first setup t r s)
wake_first_does setup t r s = if_does setup t s (may_call setup t r s) _ _ (λ may. MovesFirst r (count_woken r (lock_waiters s.waits)) may) (Says _)

wake_sleepers_does : (setup : Setup) (t r : ℕ) (s : State) → DoesToLocks setup t s (wake_sleepers setup t r s)
wake_sleepers_does setup t r s = if_does setup t s (may_call setup t r s) _ _ (λ may. MovesAll r (length (sleepers r (lock_waiters s.waits))) may) (Says _)

meet_does : (setup : Setup) (t tag value : ℕ) (s : State) (o : Option LockWaiter) → partner tag (lock_waiters s.waits) ≡ o → DoesToLocks setup t s (meet_with t tag value s o)
meet_does setup t tag value s (Some w) e = Meets tag value w e
meet_does setup t tag value s None e = WaitsFor (ask.Rendezvous tag value) refl

pub lock_call_does : (setup : Setup) (t : ℕ) (r : LockReq) (s : State) → DoesToLocks setup t s (lock_call setup t r s)
unfolding lock_call
lock_call_does setup t (ask.Rendezvous tag value) s = meet_does setup t tag value s (partner tag (lock_waiters s.waits)) refl
lock_call_does setup t (ask.Lock k) s = take_does setup t k sort.Lock (ask.Lock k) s refl
lock_call_does setup t (ask.CanLock k) s = try_does setup t k sort.Lock s
lock_call_does setup t (ask.Unlock k) s = give_up_does setup t k sort.Lock s
lock_call_does setup t (ask.QLock k) s = take_does setup t k sort.QLock (ask.QLock k) s refl
lock_call_does setup t (ask.CanQLock k) s = try_does setup t k sort.QLock s
lock_call_does setup t (ask.QUnlock k) s = give_up_does setup t k sort.QLock s
lock_call_does setup t (ask.RLock k) s = take_does setup t k sort.Read (ask.RLock k) s refl
lock_call_does setup t (ask.CanRLock k) s = try_does setup t k sort.Read s
lock_call_does setup t (ask.RUnlock k) s = give_up_does setup t k sort.Read s
lock_call_does setup t (ask.WLock k) s = take_does setup t k sort.Write (ask.WLock k) s refl
lock_call_does setup t (ask.CanWLock k) s = try_does setup t k sort.Write s
lock_call_does setup t (ask.WUnlock k) s = give_up_does setup t k sort.Write s
lock_call_does setup t (ask.RSleep r) s = sleep_does setup t r s
lock_call_does setup t (ask.RWakeup r) s = wake_first_does setup t r s
lock_call_does setup t (ask.RWakeupAll r) s = wake_sleepers_does setup t r s
lock_call_does setup t (ask.IncRef k) s = raise_does setup t k s (by_id s.holds.refs k)
lock_call_does setup t (ask.DecRef k) s = lower_does setup t k s (by_id s.holds.refs k)
