-- The requests on locks, Rendezes, Refs and tags keep a sound state sound.
use Rattle.std.proofs.Common.{◌≡◌, ℕ, List, Option, Some, None, refl, subst}
use Rattle.std.specs.Prelude.{◌==◌}
use Rattle.p9_word.specs.declared.answer.Answer.TheVariants.{Met, Number}
use Rattle.p9_word.specs.declared.request.LockReq.{LockReq}
use Rattle.p9_word.specs.declared.request.LockReq.TheVariants as ask
use Rattle.p9_word.specs.declared.setup.Setup.{Setup}
use Rattle.p9_manual.specs.declared.locks.Sort.TheVariants as sort
use Rattle.p9_manual.specs.declared.locks.LockWait.TheVariants as wait
use Rattle.p9_manual.specs.declared.locks.LockWaiter.{LockWaiter}
use Rattle.p9_manual.specs.Holds.{Holds}
use Rattle.p9_manual.specs.LockWaits.{lock_waiters}
use Rattle.p9_manual.specs.Locks.{lock_call}
use Rattle.p9_manual.specs.MeetCalls.{meet, meet_with}
use Rattle.p9_manual.specs.Queues.{waits_for}
use Rattle.p9_manual.specs.Refs.{greatest, with_value, with_ref, raise, lower}
use Rattle.p9_manual.specs.Rendezvous.{partner}
use Rattle.p9_manual.specs.Sound.{IsSound}
use Rattle.p9_manual.specs.Standing.{times}
use Rattle.p9_manual.specs.State.{State, by_id, wake}
use Rattle.p9_laws.proofs.LockWaiters.{found_locker}
use Rattle.p9_laws.proofs.Sound.Counts.{none_found}
use Rattle.p9_laws.proofs.Sound.LockHolds.{NoneWaits, held_sound, take_fine, try_fine}
use Rattle.p9_laws.proofs.Sound.LockRendez.{sleep_at_fine, wake_first_fine, wake_sleepers_fine}
use Rattle.p9_laws.proofs.Sound.LockUnlocks.{give_up_fine}
use Rattle.p9_laws.proofs.Sound.LockWaiting.{waits_so_fine}
use Rattle.p9_laws.proofs.Sound.Outcomes.{IsFine, RunsIn, if_fine, now_fine, bad_fine}
use Rattle.p9_laws.proofs.Sound.Stand.{eqb_equal}
use Rattle.p9_laws.proofs.Sound.Woken.{granted_sound}

meet_by : (setup : Setup) (t tag value : ℕ) (s : State) (o : Option LockWaiter) → partner tag (lock_waiters s.waits) ≡ o → IsSound setup s → RunsIn s t → IsFine setup s.position (meet_with t tag value s o)
meet_by setup t tag value s (Some w) e sound runs =
    now_fine setup (wake w.tid (Met value) s) (Met w.value) (granted_sound setup s w.tid (Met value) (found_locker (waits_for (wait.Tag tag)) (lock_waiters s.waits) w e) sound)
meet_by setup t tag value s None e sound runs =
    waits_so_fine setup s t (ask.Rendezvous tag value) (wait.Tag tag) value refl (λ a j u. refl) (λ other h. subst (λ (n : ℕ). times (waits_for (wait.Tag n)) (lock_waiters s.waits) ≡ 0) (eqb_equal tag other h) (none_found (waits_for (wait.Tag tag)) (lock_waiters s.waits) e)) sound runs

-- rendezvous
meet_fine : (setup : Setup) (t tag value : ℕ) (s : State) → IsSound setup s → RunsIn s t → IsFine setup s.position (meet t tag value s)
meet_fine setup t tag value s sound runs = meet_by setup t tag value s (partner tag (lock_waiters s.waits)) refl sound runs

-- a Ref holds no lock
refs_none : (k value : ℕ) (h : Holds) (ws : List LockWaiter) → NoneWaits h ws → NoneWaits (with_value k value h) ws
refs_none k value h ws free sort.Lock j u = free sort.Lock j u
refs_none k value h ws free sort.QLock j u = free sort.QLock j u
refs_none k value h ws free sort.Read j u = free sort.Read j u
refs_none k value h ws free sort.Write j u = free sort.Write j u

ref_sound : (setup : Setup) (k value : ℕ) (s : State) → IsSound setup s → IsSound setup (with_ref k value s)
ref_sound setup k value s sound = held_sound setup s (with_value k value s.holds) (refs_none k value s.holds (lock_waiters s.waits) sound.in_turn.free) sound

-- incref
raise_fine : (setup : Setup) (k : ℕ) (s : State) (o : Option ℕ) → IsSound setup s → IsFine setup s.position (raise k s o)
raise_fine setup k s None sound = bad_fine setup s sound
raise_fine setup k s (Some value) sound =
    if_fine setup s.position (value == greatest) _ _ (λ e. bad_fine setup s sound) (λ e. now_fine setup _ (Number _) (ref_sound setup k _ s sound))

-- decref
lower_fine : (setup : Setup) (k : ℕ) (s : State) (o : Option ℕ) → IsSound setup s → IsFine setup s.position (lower k s o)
lower_fine setup k s None sound = bad_fine setup s sound
lower_fine setup k s (Some value) sound =
    if_fine setup s.position (value == 0) _ _ (λ e. bad_fine setup s sound) (λ e. now_fine setup _ (Number _) (ref_sound setup k _ s sound))

-- each request on locks, Rendezes, Refs and tags
pub lock_call_fine : (setup : Setup) (t : ℕ) (r : LockReq) (s : State) → IsSound setup s → RunsIn s t → IsFine setup s.position (lock_call setup t r s)
unfolding lock_call
lock_call_fine setup t (ask.Rendezvous tag value) s sound runs = meet_fine setup t tag value s sound runs
lock_call_fine setup t (ask.Lock k) s sound runs = take_fine setup sort.Lock t k (ask.Lock k) s refl sound runs
lock_call_fine setup t (ask.CanLock k) s sound runs = try_fine setup sort.Lock t k s sound
lock_call_fine setup t (ask.Unlock k) s sound runs = give_up_fine setup sort.Lock t k s sound runs
lock_call_fine setup t (ask.QLock k) s sound runs = take_fine setup sort.QLock t k (ask.QLock k) s refl sound runs
lock_call_fine setup t (ask.CanQLock k) s sound runs = try_fine setup sort.QLock t k s sound
lock_call_fine setup t (ask.QUnlock k) s sound runs = give_up_fine setup sort.QLock t k s sound runs
lock_call_fine setup t (ask.RLock k) s sound runs = take_fine setup sort.Read t k (ask.RLock k) s refl sound runs
lock_call_fine setup t (ask.CanRLock k) s sound runs = try_fine setup sort.Read t k s sound
lock_call_fine setup t (ask.RUnlock k) s sound runs = give_up_fine setup sort.Read t k s sound runs
lock_call_fine setup t (ask.WLock k) s sound runs = take_fine setup sort.Write t k (ask.WLock k) s refl sound runs
lock_call_fine setup t (ask.CanWLock k) s sound runs = try_fine setup sort.Write t k s sound
lock_call_fine setup t (ask.WUnlock k) s sound runs = give_up_fine setup sort.Write t k s sound runs
lock_call_fine setup t (ask.RSleep r) s sound runs = sleep_at_fine setup t r s sound runs
lock_call_fine setup t (ask.RWakeup r) s sound runs = wake_first_fine setup t r s sound
lock_call_fine setup t (ask.RWakeupAll r) s sound runs = wake_sleepers_fine setup t r s sound
lock_call_fine setup t (ask.IncRef k) s sound runs = raise_fine setup k s (by_id s.holds.refs k) sound
lock_call_fine setup t (ask.DecRef k) s sound runs = lower_fine setup k s (by_id s.holds.refs k) sound
