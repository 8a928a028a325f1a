-- What a rendezvous comes to.
use Rattle.std.proofs.Common.{◌≡◌, ℕ, ◌≤◌, Bool, true, false, ◌&&◌, ◌||◌, eqb, [], ◌∷◌, Option, Some, None, refl, ap, sym, subst, ◌∙◌, arith, rules, tests}
use Rattle.std.specs.Option.{option_map, option_to_list}
use Rattle.p9_word.specs.declared.answer.Answer.TheVariants.{Met}
use Rattle.p9_word.specs.declared.request.LockReq.TheVariants as ask
use Rattle.p9_word.specs.declared.request.Request.TheVariants.{Lock as LockRequest}
use Rattle.p9_word.specs.declared.setup.Setup.{Setup}
use Rattle.p9_word.specs.declared.trail.Reply.{Reply}
use Rattle.p9_word.specs.declared.trail.Reply.TheVariants.{Now, Waits}
use Rattle.p9_manual.specs.declared.locks.LockWait.TheVariants as wait
use Rattle.p9_manual.specs.declared.locks.LockWaiter.{LockWaiter}
use Rattle.p9_manual.specs.LockWaits.{lock_waiters}
use Rattle.p9_manual.specs.Locks.{lock_call}
use Rattle.p9_manual.specs.MeetCalls.{meet_with}
use Rattle.p9_manual.specs.Queues.{waits_for, without_first, joined}
use Rattle.p9_manual.specs.Rendezvous.{partner, after_meeting, rendezvous}
use Rattle.p9_manual.specs.Standing.{times}
use Rattle.p9_manual.specs.State.{State, by_id, now, waiting, wake}
use Rattle.p9_manual.specs.Step.{makes_entry}
use Rattle.p9_lock.specs.Locking.{Locking, meet_of}
use Rattle.p9_lock.specs.declared.meet.Meet.TheVariants as meet
use Rattle.p9_sched.specs.Schedule.{Schedule}
use Rattle.p9_sched.specs.Stands.{Tracks, TracksHolder, IsWaitHolding}
use Rattle.p9_sched.specs.Turns.{place_of}
use Rattle.p9_sched.specs.declared.turns.Place.TheVariants as place
use Rattle.p9_lock_calls.specs.Serves.{ServesRequest, Stands}
use Rattle.p9_lock_calls.proofs.Grants.{is_tid, stand_once, found_out, found_waits, waiters_without}
use Rattle.p9_lock_calls.proofs.Granting.{are_waiting, find_counts, waits_once}
use Rattle.p9_lock_calls.proofs.Holders.{tag_held}
use Rattle.p9_lock_calls.proofs.Served.{by_outcome, waiters_push}
use Rattle.p9_lock_calls.proofs.Standing.{party_or_locker, parties_kept, parties_push}
use Rattle.p9_lock_calls.proofs.Waking.{first_waits}

meets : (setup : Setup) (t tag value : ℕ) (m : State) → lock_call setup t (ask.Rendezvous tag value) m ≡ meet_with t tag value m (partner tag (lock_waiters m.waits))
unfolding lock_call
meets setup t tag value m = refl

-- who waits in a rendezvous holds its proc
pub tag_holds : (tag value : ℕ) → IsWaitHolding (LockRequest (ask.Rendezvous tag value))
tag_holds tag value = λ t at. one (eqb t t) (same t)
  where
    same : (t : ℕ) → eqb t t ≡ true
    same t = search (rules, tests)

    one : (b : Bool) → b ≡ true → ((b && true) || false) ≡ true
    one true h = refl
    one false h = cc

met_with : (t tag value : ℕ) (sched after : Schedule) (x new : Locking) (w : LockWaiter) (reply : Reply) → partner tag x.waits ≡ Some w → new ≡ record x { waits = rendezvous t tag value x.waits; room = false } → reply ≡ Now (Met w.value) → TracksHolder w.tid (wake w.tid (Met value)) sched after → ServesRequest t (ask.Rendezvous tag value) sched x reply after new
met_with t tag value sched after x new w reply e is r tracks = record {
  serves = λ setup m h.
      let f : partner tag (lock_waiters m.waits) ≡ Some w = ap (partner tag) h.locked.waits ∙ e in
      let once = stand_once m.threads m.line m.waits h.sound.stand in
      let a = found_waits (waits_for (wait.Tag tag)) (lock_waiters m.waits) w f in
      let b = party_or_locker w.tid m.waits in
      let d = waits_once m.threads m.line m.waits h.sound.stand w.tid in
      let left : new.waits ≡ without_first (waits_for (wait.Tag tag)) x.waits = ap (λ (y : Locking). y.waits) is ∙ ap (λ o. after_meeting t tag value o x.waits) e in
      by_outcome setup m _ (now (Met w.value) (wake w.tid (Met value) m)) reply after new (meets setup t tag value m ∙ ap (meet_with t tag value m) f) (record {
        reply_is = r;
        threads = tracks setup.places m h.sound.stand (record { holds = tag_held tag (lock_waiters m.waits) w f; alone = h.sound.in_turn.held }) h.threads;
        locked = record {
          holds = h.locked.holds ∙ sym (ap (λ (y : Locking). y.holds) is);
          waits = waiters_without w.tid m.waits ∙ (found_out (waits_for (wait.Tag tag)) (lock_waiters m.waits) w f once ∙ (ap (without_first (waits_for (wait.Tag tag))) h.locked.waits ∙ sym left));
          on = ap (λ (y : Locking). y.rendezes) is ∙ h.locked.on;
        };
        leaves = record { same = refl; alts = parties_kept w.tid m.waits (omega (arith, a, b, d)) };
        entry = ap makes_entry r;
      });
}

met_by : (t tag value : ℕ) (sched after : Schedule) (x new : Locking) (u v : ℕ) (o : Option LockWaiter) → partner tag x.waits ≡ o → meet_of o ≡ meet.Met u v → new ≡ record x { waits = rendezvous t tag value x.waits; room = false } → TracksHolder u (wake u (Met value)) sched after → ServesRequest t (ask.Rendezvous tag value) sched x (Now (Met v)) after new
met_by t tag value sched after x new u v None e m is tracks = cc
met_by t tag value sched after x new u v (Some w) e m is tracks =
    let a : u ≡ w.tid = cc in
    let b : v ≡ w.value = cc in
    met_with t tag value sched after x new w (Now (Met v)) e is (ap (λ n. Now (Met n)) b) (subst (λ (z : ℕ). TracksHolder z (wake z (Met value)) sched after) a tracks)

-- the caller meets thread u, which brought v
pub met : (t tag value : ℕ) (sched after : Schedule) (x new : Locking) (u v : ℕ) → meet_of (partner tag x.waits) ≡ meet.Met u v → new ≡ record x { waits = rendezvous t tag value x.waits; room = false } → TracksHolder u (wake u (Met value)) sched after → ServesRequest t (ask.Rendezvous tag value) sched x (Now (Met v)) after new
met t tag value sched after x new u v m is tracks = met_by t tag value sched after x new u v (partner tag x.waits) refl m is tracks

none_by : (o : Option LockWaiter) → meet_of o ≡ meet.Waits → o ≡ None
none_by None m = refl
none_by (Some w) m = cc

-- the caller waits
pub met_none : (t tag value : ℕ) (sched after : Schedule) (x new : Locking) → meet_of (partner tag x.waits) ≡ meet.Waits → new ≡ record x { waits = rendezvous t tag value x.waits; room = false } → Tracks (λ m. (waiting t (LockRequest (ask.Rendezvous tag value)) m).state) sched after → ServesRequest t (ask.Rendezvous tag value) sched x Waits after new
met_none t tag value sched after x new none is tracks = record {
  serves = λ setup m h.
      let e : partner tag x.waits ≡ None = none_by (partner tag x.waits) none in
      let f : partner tag (lock_waiters m.waits) ≡ None = ap (partner tag) h.locked.waits ∙ e in
      let left : new.waits ≡ joined t (wait.Tag tag) value x.waits = ap (λ (y : Locking). y.waits) is ∙ ap (λ o. after_meeting t tag value o x.waits) e in
      by_outcome setup m _ (waiting t (LockRequest (ask.Rendezvous tag value)) m) Waits after new (meets setup t tag value m ∙ ap (meet_with t tag value m) f) (record {
        reply_is = refl;
        threads = tracks setup.places m h.threads;
        locked = record {
          holds = h.locked.holds ∙ sym (ap (λ (y : Locking). y.holds) is);
          waits = waiters_push m.waits (record { tid = t; request = LockRequest (ask.Rendezvous tag value); at = m.position }) ∙ (ap (joined t (wait.Tag tag) value) h.locked.waits ∙ sym left);
          on = ap (λ (y : Locking). y.rendezes) is ∙ h.locked.on;
        };
        leaves = record { same = refl; alts = parties_push m.waits t (ask.Rendezvous tag value) m.position };
        entry = refl;
      });
}

partner_by : (tag : ℕ) (sched : Schedule) (x : Locking) (u v : ℕ) (o : Option LockWaiter) → partner tag x.waits ≡ o → meet_of o ≡ meet.Met u v → Stands sched x → place_of (by_id sched.threads u) ≡ place.Waiting
partner_by tag sched x u v None e m parts = cc
partner_by tag sched x u v (Some w) e m parts =
    let a : w.tid ≡ u = cc in
    let few : (z : ℕ) → times (λ y. eqb y z) (w.tid ∷ []) ≤ times (is_tid z) x.waits = λ z. subst (λ (p : Option LockWaiter). times (λ y. eqb y z) (option_to_list (option_map (λ (y : LockWaiter). y.tid) p)) ≤ times (is_tid z) x.waits) e (find_counts (waits_for (wait.Tag tag)) z x.waits) in
    subst (λ (z : ℕ). place_of (by_id sched.threads z) ≡ place.Waiting) a (first_waits sched.threads w.tid [] (are_waiting sched x (w.tid ∷ []) parts few))

-- the thread that is met waits
pub partner_waits : (tag : ℕ) (sched : Schedule) (x : Locking) (u v : ℕ) → meet_of (partner tag x.waits) ≡ meet.Met u v → Stands sched x → place_of (by_id sched.threads u) ≡ place.Waiting
partner_waits tag sched x u v m parts = partner_by tag sched x u v (partner tag x.waits) refl m parts
