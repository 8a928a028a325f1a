-- What an rsleep comes to.
use Rattle.std.proofs.Common.{◌≡◌, ℕ, ◌≤◌, Bool, true, false, ◌&&◌, ◌||◌, eqb, List, refl, ap, sym, subst, ◌∙◌}
use Rattle.p9_word.specs.declared.answer.Answer.TheVariants.{Bad}
use Rattle.p9_word.specs.declared.request.LockReq.TheVariants as ask
use Rattle.p9_word.specs.declared.request.Request.TheVariants.{Lock as LockRequest}
use Rattle.p9_word.specs.declared.setup.Setup.{Setup}
use Rattle.p9_word.specs.declared.trail.Reply.TheVariants.{Now, Waits}
use Rattle.p9_manual.specs.declared.locks.Sort.TheVariants as sort
use Rattle.p9_manual.specs.declared.locks.LockWait.TheVariants as wait
use Rattle.p9_manual.specs.declared.locks.LockWaiter.{LockWaiter}
use Rattle.p9_manual.specs.Claims.{has_lock}
use Rattle.p9_manual.specs.Holds.{Holds}
use Rattle.p9_manual.specs.LockCalls.{with_grant}
use Rattle.p9_manual.specs.LockWaits.{lock_waiters}
use Rattle.p9_manual.specs.Locks.{lock_call}
use Rattle.p9_manual.specs.Queues.{joined}
use Rattle.p9_manual.specs.Rendez.{sleep}
use Rattle.p9_manual.specs.RendezCalls.{qlock_of as qlock_at, may_call, sleep_at}
use Rattle.p9_manual.specs.Standing.{times}
use Rattle.p9_manual.specs.State.{State, bad, waiting}
use Rattle.p9_manual.specs.Unlocks.{Grant, release}
use Rattle.p9_lock.specs.Locking.{Locking, qlock_of, slept}
use Rattle.p9_sched.specs.Schedule.{Schedule}
use Rattle.p9_sched.specs.Stands.{SchedFor, Tracks, IsWaitBeside}
use Rattle.p9_lock_calls.specs.Granted.{TracksGranted}
use Rattle.p9_lock_calls.specs.Serves.{IsAt, ServesRequest}
use Rattle.p9_lock_calls.proofs.Grants.{is_tid, stand_once}
use Rattle.p9_lock_calls.proofs.Granting.{apart, granted_wait, grant_frame, grant_holds, grant_leaves, grant_tracks}
use Rattle.p9_lock_calls.proofs.Served.{same_bad, by_outcome, waiters_push}
use Rattle.p9_lock_calls.proofs.Standing.{parties_push}

-- who sleeps doesn't hold its proc
pub sleep_beside : (r : ℕ) → IsWaitBeside (LockRequest (ask.RSleep r))
sleep_beside r = λ t at. one (eqb t t)
  where
    one : (b : Bool) → ((b && false) || false) ≡ false
    one true = refl
    one false = refl

sleeps : (setup : Setup) (t r : ℕ) (m : State) → lock_call setup t (ask.RSleep r) m ≡ sleep_at setup t r m
unfolding lock_call
sleeps setup t r m = refl

sleep_bad : (setup : Setup) (t r : ℕ) (m : State) → may_call setup t r m ≡ false → sleep_at setup t r m ≡ bad m
sleep_bad setup t r m e = rw e refl

-- the QLock is that of the setup
pub may_is : (setup : Setup) (sched : Schedule) (x : Locking) (m : State) (t r : ℕ) → IsAt setup sched x m → may_call setup t r m ≡ has_lock sort.QLock t (qlock_of r x) x.holds
may_is setup sched x m t r h = ap (λ (rs : List ℕ). has_lock sort.QLock t (qlock_at r rs) m.holds) (sym h.locked.on) ∙ ap (has_lock sort.QLock t (qlock_of r x)) h.locked.holds

pub no_sleep : (t r : ℕ) (sched : Schedule) (x : Locking) → has_lock sort.QLock t (qlock_of r x) x.holds ≡ false → ServesRequest t (ask.RSleep r) sched x (Now Bad) sched x
no_sleep t r sched x e =
    record { serves = λ setup m h. by_outcome setup m _ (bad m) (Now Bad) sched x (sleeps setup t r m ∙ sleep_bad setup t r m (may_is setup sched x m t r h ∙ e)) (same_bad setup sched x m h) }

sleep_is : (setup : Setup) (t r q : ℕ) (hh : Holds) (ws : List LockWaiter) (m : State) → qlock_at r setup.rendezes ≡ q → m.holds ≡ hh → lock_waiters m.waits ≡ ws → may_call setup t r m ≡ true → sleep_at setup t r m ≡ waiting t (LockRequest (ask.RSleep r)) (with_grant (release sort.QLock t q hh ws) m)
sleep_is setup t r q hh ws m a b c may = rw (may, a, b, c) refl

-- the QLock is given up, and the caller sleeps
pub slept_is : (t r : ℕ) (sched mid after : Schedule) (x new : Locking) → has_lock sort.QLock t (qlock_of r x) x.holds ≡ true → new ≡ slept (sleep t r (qlock_of r x) x.holds x.waits) x → TracksGranted (release sort.QLock t (qlock_of r x) x.holds x.waits).granted sched mid → Tracks (λ m. (waiting t (LockRequest (ask.RSleep r)) m).state) mid after → ServesRequest t (ask.RSleep r) sched x Waits after new
slept_is t r sched mid after x new has e woken tracks = record {
  serves = λ setup m h.
      let q = qlock_of r x in
      let g : Grant = release sort.QLock t q x.holds x.waits in
      let n : State = with_grant g m in
      let frame = grant_frame setup g m (apart setup m g.granted h.sound (λ u. subst (λ (ws : List LockWaiter). times (λ y. eqb y u) g.granted ≤ times (is_tid u) ws) (sym h.locked.waits) (granted_wait sort.QLock t q x.holds x.waits u))) in
      let left : lock_waiters n.waits ≡ g.waits = grant_leaves sort.QLock t q x.holds x.waits m h.locked.waits (stand_once m.threads m.line m.waits h.sound.stand) in
      let held : SchedFor setup.places mid n = grant_tracks sort.QLock t q sched mid x (λ f. cc) woken setup m h in
      by_outcome setup m _ (waiting t (LockRequest (ask.RSleep r)) n) Waits after new (sleeps setup t r m ∙ sleep_is setup t r q x.holds x.waits m (ap (qlock_at r) (sym h.locked.on)) h.locked.holds h.locked.waits (may_is setup sched x m t r h ∙ has)) (record {
        reply_is = refl;
        threads = tracks setup.places n held;
        locked = record {
          holds = grant_holds g m ∙ sym (ap (λ (y : Locking). y.holds) e);
          waits = waiters_push n.waits (record { tid = t; request = LockRequest (ask.RSleep r); at = n.position }) ∙ (ap (joined t (wait.Sleep r) 0) left ∙ sym (ap (λ (y : Locking). y.waits) e));
          on = ap (λ (y : Locking). y.rendezes) e ∙ h.locked.on;
        };
        leaves = record {
          same = sleep_same t r m n frame.same;
          alts = parties_push n.waits t (ask.RSleep r) n.position ∙ frame.alts;
        };
        entry = refl;
      });
}
  where
    sleep_same : (t r : ℕ) (m n : State) → n ≡ record m { threads = n.threads; line = n.line; waits = n.waits; holds = n.holds } → (waiting t (LockRequest (ask.RSleep r)) n).state ≡ record m { threads = (waiting t (LockRequest (ask.RSleep r)) n).state.threads; line = n.line; waits = (waiting t (LockRequest (ask.RSleep r)) n).state.waits; holds = n.holds }
    sleep_same t r m n e = ap (λ (y : State). record y { threads = (waiting t (LockRequest (ask.RSleep r)) n).state.threads; waits = (waiting t (LockRequest (ask.RSleep r)) n).state.waits }) e
