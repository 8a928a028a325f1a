-- What wakeups of sleepers come to.
use Rattle.std.proofs.Common.{◌≡◌, ℕ, true, false, length, refl, ap, sym, ◌∙◌}
use Rattle.std.specs.List.{find, list_any}
use Rattle.p9_word.specs.declared.answer.Answer.TheVariants.{Bad, Number}
use Rattle.p9_word.specs.declared.request.LockReq.TheVariants as ask
use Rattle.p9_word.specs.declared.setup.Setup.{Setup}
use Rattle.p9_word.specs.declared.trail.Reply.TheVariants.{Now}
use Rattle.p9_manual.specs.declared.locks.Sort.TheVariants as sort
use Rattle.p9_manual.specs.Claims.{has_lock}
use Rattle.p9_manual.specs.Held.{holds_in}
use Rattle.p9_manual.specs.LockWaits.{lock_waiters}
use Rattle.p9_manual.specs.Locks.{lock_call}
use Rattle.p9_manual.specs.Rendez.{count_woken, sleepers, wakeup, wakeup_all}
use Rattle.p9_manual.specs.RendezCalls.{all_moved, first_moved, may_call, sleeps_at, wake_first, wake_sleepers, qlock_of as qlock_at}
use Rattle.p9_manual.specs.State.{State, bad, now}
use Rattle.p9_lock.specs.Locking.{Locking, qlock_of}
use Rattle.p9_sched.specs.Schedule.{Schedule}
use Rattle.p9_lock_calls.specs.Serves.{ServesRequest}
use Rattle.p9_lock_calls.proofs.Moved.{all_moved_waiters, first_moved_waiters}
use Rattle.p9_lock_calls.proofs.MovedAside.{all_moved_leaves, first_moved_leaves, wakeup_all_holds, wakeup_holds}
use Rattle.p9_lock_calls.proofs.Served.{same_bad, by_outcome}
use Rattle.p9_lock_calls.proofs.Sleeping.{may_is}
use Rattle.p9_lock_calls.proofs.Standing.{sched_same}

wakes : (setup : Setup) (t r : ℕ) (m : State) → lock_call setup t (ask.RWakeup r) m ≡ wake_first setup t r m
unfolding lock_call
wakes setup t r m = refl

wakes_all : (setup : Setup) (t r : ℕ) (m : State) → lock_call setup t (ask.RWakeupAll r) m ≡ wake_sleepers setup t r m
unfolding lock_call
wakes_all setup t r m = refl

wake_bad : (setup : Setup) (t r : ℕ) (m : State) → may_call setup t r m ≡ false → wake_first setup t r m ≡ bad m
wake_bad setup t r m e = rw e refl

wake_all_bad : (setup : Setup) (t r : ℕ) (m : State) → may_call setup t r m ≡ false → wake_sleepers setup t r m ≡ bad m
wake_all_bad setup t r m e = rw e refl

-- where the caller doesn't hold the QLock
pub no_wake : (t r : ℕ) (sched : Schedule) (x : Locking) → has_lock sort.QLock t (qlock_of r x) x.holds ≡ false → ServesRequest t (ask.RWakeup r) sched x (Now Bad) sched x
no_wake t r sched x e =
    record { serves = λ setup m h. by_outcome setup m _ (bad m) (Now Bad) sched x (wakes setup t r m ∙ wake_bad setup t r m (may_is setup sched x m t r h ∙ e)) (same_bad setup sched x m h) }

pub no_wake_all : (t r : ℕ) (sched : Schedule) (x : Locking) → has_lock sort.QLock t (qlock_of r x) x.holds ≡ false → ServesRequest t (ask.RWakeupAll r) sched x (Now Bad) sched x
no_wake_all t r sched x e =
    record { serves = λ setup m h. by_outcome setup m _ (bad m) (Now Bad) sched x (wakes_all setup t r m ∙ wake_all_bad setup t r m (may_is setup sched x m t r h ∙ e)) (same_bad setup sched x m h) }

wake_good : (setup : Setup) (t r q : ℕ) (m : State) → qlock_at r setup.rendezes ≡ q → may_call setup t r m ≡ true → wake_first setup t r m ≡ now (Number (count_woken r (lock_waiters m.waits))) (record m { waits = first_moved r q (find (sleeps_at r) m.waits) m.waits })
wake_good setup t r q m a may = rw (may, a) refl

-- the thread that has slept longest is moved
pub one_woken : (t r n : ℕ) (sched : Schedule) (x new : Locking) → has_lock sort.QLock t (qlock_of r x) x.holds ≡ true → n ≡ count_woken r x.waits → new ≡ record x { waits = wakeup r (qlock_of r x) x.waits } → ServesRequest t (ask.RWakeup r) sched x (Now (Number n)) sched new
one_woken t r n sched x new has count e = record {
  serves = λ setup m h.
      let q = qlock_of r x in
      let s : State = record m { waits = first_moved r q (find (sleeps_at r) m.waits) m.waits } in
      let waits : lock_waiters s.waits ≡ wakeup r q x.waits = first_moved_waiters r q m.waits ∙ ap (wakeup r q) h.locked.waits in
      by_outcome setup m _ (now (Number (count_woken r (lock_waiters m.waits))) s) (Now (Number n)) sched new (wakes setup t r m ∙ wake_good setup t r q m (ap (qlock_at r) (sym h.locked.on)) (may_is setup sched x m t r h ∙ has)) (record {
        reply_is = ap (λ (k : ℕ). Now (Number k)) (count ∙ ap (count_woken r) (sym h.locked.waits));
        threads = sched_same setup.places sched m s refl refl refl refl (λ p. ap (list_any (holds_in m.threads p)) waits ∙ (wakeup_holds r q p m.threads x.waits ∙ ap (list_any (holds_in m.threads p)) (sym h.locked.waits))) h.threads;
        locked = record {
          holds = h.locked.holds ∙ sym (ap (λ (y : Locking). y.holds) e);
          waits = waits ∙ sym (ap (λ (y : Locking). y.waits) e);
          on = ap (λ (y : Locking). y.rendezes) e ∙ h.locked.on;
        };
        leaves = record { same = refl; alts = first_moved_leaves r q (find (sleeps_at r) m.waits) m.waits };
        entry = refl;
      });
}

wake_all_good : (setup : Setup) (t r q : ℕ) (m : State) → qlock_at r setup.rendezes ≡ q → may_call setup t r m ≡ true → wake_sleepers setup t r m ≡ now (Number (length (sleepers r (lock_waiters m.waits)))) (record m { waits = all_moved r q m.waits })
wake_all_good setup t r q m a may = rw (may, a) refl

-- all sleepers are moved
pub all_woken : (t r n : ℕ) (sched : Schedule) (x new : Locking) → has_lock sort.QLock t (qlock_of r x) x.holds ≡ true → n ≡ length (sleepers r x.waits) → new ≡ record x { waits = wakeup_all r (qlock_of r x) x.waits } → ServesRequest t (ask.RWakeupAll r) sched x (Now (Number n)) sched new
all_woken t r n sched x new has count e = record {
  serves = λ setup m h.
      let q = qlock_of r x in
      let s : State = record m { waits = all_moved r q m.waits } in
      let waits : lock_waiters s.waits ≡ wakeup_all r q x.waits = all_moved_waiters r q m.waits ∙ ap (wakeup_all r q) h.locked.waits in
      by_outcome setup m _ (now (Number (length (sleepers r (lock_waiters m.waits)))) s) (Now (Number n)) sched new (wakes_all setup t r m ∙ wake_all_good setup t r q m (ap (qlock_at r) (sym h.locked.on)) (may_is setup sched x m t r h ∙ has)) (record {
        reply_is = ap (λ (k : ℕ). Now (Number k)) (count ∙ ap (λ ws. length (sleepers r ws)) (sym h.locked.waits));
        threads = sched_same setup.places sched m s refl refl refl refl (λ p. ap (list_any (holds_in m.threads p)) waits ∙ (wakeup_all_holds r q p m.threads x.waits ∙ ap (list_any (holds_in m.threads p)) (sym h.locked.waits))) h.threads;
        locked = record {
          holds = h.locked.holds ∙ sym (ap (λ (y : Locking). y.holds) e);
          waits = waits ∙ sym (ap (λ (y : Locking). y.waits) e);
          on = ap (λ (y : Locking). y.rendezes) e ∙ h.locked.on;
        };
        leaves = record { same = refl; alts = all_moved_leaves r q m.waits };
        entry = refl;
      });
}
