-- What an unlock comes to.
use Rattle.std.proofs.Common.{◌≡◌, ◌≢◌, ℕ, ◌+◌, ◌≤◌, Bool, true, false, cond, eqb, List, [], ◌∷◌, Option, Some, None, refl, ap, sym, subst, ◌∙◌, arith, rules, tests}
use Rattle.std.specs.Prelude.{slice_get}
use Rattle.std.specs.List.{find}
use Rattle.std.specs.Option.{option_map, option_to_list}
use Rattle.p9_word.specs.declared.answer.Answer.TheVariants.{Bad, Done}
use Rattle.p9_word.specs.declared.setup.Setup.{Setup}
use Rattle.p9_word.specs.declared.trail.Reply.TheVariants.{Now}
use Rattle.p9_manual.specs.declared.locks.Sort.{Sort}
use Rattle.p9_manual.specs.declared.locks.Sort.TheVariants as sort
use Rattle.p9_manual.specs.declared.locks.LockWait.TheVariants as wait
use Rattle.p9_manual.specs.declared.locks.LockWaiter.{LockWaiter}
use Rattle.p9_manual.specs.declared.state.Thread.{Thread}
use Rattle.p9_manual.specs.declared.state.Waiter.{Waiter}
use Rattle.p9_manual.specs.Claims.{has_lock}
use Rattle.p9_manual.specs.Holds.{Holds}
use Rattle.p9_manual.specs.LockCalls.{all_granted, with_grant, with_holds, give_up}
use Rattle.p9_manual.specs.LockWaits.{is_holding, lock_waiters}
use Rattle.p9_manual.specs.Offers.{parties}
use Rattle.p9_manual.specs.Queues.{waits_for}
use Rattle.p9_manual.specs.Sound.{IsSound}
use Rattle.p9_manual.specs.Standing.{StandOnce, times, times_in_waits, place_of as stand_of}
use Rattle.p9_manual.specs.State.{State, bad, now, wake, waits_without}
use Rattle.p9_manual.specs.Unlocks.{Grant, release}
use Rattle.p9_lock.specs.Locking.{Locking, granted}
use Rattle.p9_sched.specs.Schedule.{Schedule}
use Rattle.p9_sched.specs.Stands.{SchedFor}
use Rattle.p9_lock_calls.specs.Granted.{AreWaiting, AreBeside, TracksGranted, TracksHolder, give_up as give_for}
use Rattle.p9_lock_calls.specs.Serves.{IsAt, Leaves, ServesRequest, Stands}
use Rattle.p9_lock_calls.proofs.Grants.{is_tid, WaitOnce, stand_once, times_waiters, without_all, granted_waits, grant_waiters}
use Rattle.p9_lock_calls.proofs.Holders.{granted_counts, granted_beside, lock_held}
use Rattle.p9_lock_calls.proofs.Served.{same_bad, by_outcome, given}
use Rattle.p9_lock_calls.proofs.Standing.{is_party, party_or_locker, parties_kept, sched_holds}
use Rattle.p9_lock_calls.proofs.Waking.{at_most_one}

-- only the threads, their line and the waits change
pub granted_moves : (ts : List ℕ) (m : State) → all_granted ts m ≡ record m { threads = (all_granted ts m).threads; line = (all_granted ts m).line; waits = (all_granted ts m).waits }
granted_moves [] m = refl
granted_moves (t ∷ ts) m = granted_moves ts (wake t Done m)

-- those that are woken wait at locks, and so in no alt
abbrev pub AreApart : List ℕ → List Waiter → Type 0
AreApart ts waits = (u : ℕ) → 1 ≤ times (λ x. eqb x u) ts → times (is_party u) (parties waits) ≡ 0

head_counts : (t : ℕ) → cond {A = ℕ} (eqb t t) 1 0 ≡ 1
head_counts t = let e = same t in rw e refl
  where
    same : (t : ℕ) → eqb t t ≡ true
    same t = search (rules, tests)

-- the alts stay
apart_kept : (ts : List ℕ) (waits : List Waiter) → AreApart ts waits → parties (without_all ts waits) ≡ parties waits
apart_kept [] waits h = refl
apart_kept (t ∷ ts) waits h =
    let here : parties (waits_without t waits) ≡ parties waits = parties_kept t waits (h t (omega (arith, head_counts t))) in
    apart_kept ts (waits_without t waits) (λ u one. ap (times (is_party u)) here ∙ h u (omega (arith, one))) ∙ here

-- a thread waits once
pub waits_once : (threads : List Thread) (line : List ℕ) (waits : List Waiter) → StandOnce threads line waits → (u : ℕ) → times (λ w. eqb w.tid u) waits ≤ 1
waits_once threads line waits stand u = let a = stand.in_waits u in let b = at_most_one (stand_of threads u) in omega (arith, a, b)

find_step : (p : LockWaiter → Bool) (u : ℕ) (b : Bool) (w : LockWaiter) (ws : List LockWaiter) → times (λ x. eqb x u) (option_to_list (option_map (λ (x : LockWaiter). x.tid) (find p ws))) ≤ times (is_tid u) ws → times (λ x. eqb x u) (option_to_list (option_map (λ (x : LockWaiter). x.tid) (cond b (Some w) (find p ws)))) ≤ times (is_tid u) (w ∷ ws)
find_step p u true w ws h = omega arith
find_step p u false w ws h = omega (arith, h)

pub find_counts : (p : LockWaiter → Bool) (u : ℕ) (ws : List LockWaiter) → times (λ x. eqb x u) (option_to_list (option_map (λ (x : LockWaiter). x.tid) (find p ws))) ≤ times (is_tid u) ws
find_counts p u [] = omega arith
find_counts p u (w ∷ ws) = find_step p u (p w) w ws (find_counts p u ws)

-- those that are granted a lock wait
pub granted_wait : (s : Sort) (t k : ℕ) (h : Holds) (ws : List LockWaiter) (u : ℕ) → times (λ x. eqb x u) (release s t k h ws).granted ≤ times (is_tid u) ws
granted_wait sort.Lock t k h ws u = find_counts (waits_for (wait.Lock sort.Lock k)) u ws
granted_wait sort.QLock t k h ws u = find_counts (waits_for (wait.Lock sort.QLock k)) u ws
granted_wait sort.Read t k h ws u = let a = granted_counts sort.Read (λ e. cc) t k h ws u in omega (arith, a)
granted_wait sort.Write t k h ws u = let a = granted_counts sort.Write (λ e. cc) t k h ws u in omega (arith, a)

-- threads that wait at locks wait in no alt
pub apart : (setup : Setup) (s : State) (ts : List ℕ) → IsSound setup s → ((u : ℕ) → times (λ x. eqb x u) ts ≤ times (is_tid u) (lock_waiters s.waits)) → AreApart ts s.waits
apart setup s ts sound h u one =
    let a = h u in
    let b = party_or_locker u s.waits in
    let c = waits_once s.threads s.line s.waits sound.stand u in
    omega (arith, a, b, c, one)

-- and each stands in the waits
wait_there : (setup : Setup) (sched : Schedule) (x : Locking) (s : State) (ts : List ℕ) → IsAt setup sched x s → ((u : ℕ) → times (λ y. eqb y u) ts ≤ times (is_tid u) x.waits) → AreWaiting sched.threads ts
wait_there setup sched x s ts h few = record {
  wait = λ u.
      let a = few u in
      let b = ap (times (is_tid u)) h.locked.waits in
      let c = times_waiters u s.waits in
      let d = h.sound.stand.in_waits u ∙ ap (λ (us : List Thread). times_in_waits (stand_of us u)) h.threads.threads in
      omega (arith, a, b, c, d);
}

pub are_waiting : (sched : Schedule) (x : Locking) (ts : List ℕ) → Stands sched x → ((u : ℕ) → times (λ y. eqb y u) ts ≤ times (is_tid u) x.waits) → AreWaiting sched.threads ts
are_waiting sched x ts parts few = wait_there parts.0 sched x parts.1 ts parts.2 few

-- where the lock isn't held so
give_bad : (s : Sort) (t k : ℕ) (m : State) → has_lock s t k m.holds ≡ false → give_up s t k m ≡ bad m
give_bad s t k m e = rw e refl

pub no_give : (s : Sort) (t k : ℕ) (sched : Schedule) (x : Locking) → has_lock s t k x.holds ≡ false → ServesRequest t (give_for s k) sched x (Now Bad) sched x
no_give s t k sched x e =
    record { serves = λ setup m h. by_outcome setup m _ (bad m) (Now Bad) sched x (given setup t s k m ∙ give_bad s t k m (ap (has_lock s t k) h.locked.holds ∙ e)) (same_bad setup sched x m h) }

give_is : (s : Sort) (t k : ℕ) (h : Holds) (ws : List LockWaiter) (m : State) → m.holds ≡ h → lock_waiters m.waits ≡ ws → has_lock s t k h ≡ true → give_up s t k m ≡ now Done (with_grant (release s t k h ws) m)
give_is s t k h ws m e f there = rw (e, f, there) refl

-- who waits then
pub grant_leaves : (s : Sort) (t k : ℕ) (h : Holds) (ws : List LockWaiter) (m : State) → lock_waiters m.waits ≡ ws → WaitOnce (lock_waiters m.waits) → lock_waiters (with_grant (release s t k h ws) m).waits ≡ (release s t k h ws).waits
grant_leaves s t k h ws m e once = subst (λ (us : List LockWaiter). lock_waiters (with_grant (release s t k h us) m).waits ≡ (release s t k h us).waits) e (grant_waiters s t k h m once)

-- the rest of the state stays
pub grant_frame : (setup : Setup) (g : Grant) (m : State) → AreApart g.granted m.waits → Leaves m (with_grant g m)
grant_frame setup g m h =
    record {
      same = granted_moves g.granted (with_holds g.holds m) ∙ ap (λ (x : Holds). record m { threads = (with_grant g m).threads; line = (with_grant g m).line; waits = (with_grant g m).waits; holds = x }) (sym (ap (λ (n : State). n.holds) (granted_moves g.granted (with_holds g.holds m))));
      alts = ap parties (granted_waits g.granted (with_holds g.holds m)) ∙ apart_kept g.granted m.waits h;
    }

pub grant_holds : (g : Grant) (m : State) → (with_grant g m).holds ≡ g.holds
grant_holds g m = ap (λ (n : State). n.holds) (granted_moves g.granted (with_holds g.holds m))

-- the lock is given up, and those that are granted it go on
pub gave : (s : Sort) (t k : ℕ) (sched after : Schedule) (x new : Locking) → has_lock s t k x.holds ≡ true → new ≡ granted (release s t k x.holds x.waits) x → ((setup : Setup) (m : State) → IsAt setup sched x m → SchedFor setup.places after (with_grant (release s t k x.holds x.waits) m)) → ServesRequest t (give_for s k) sched x (Now Done) after new
gave s t k sched after x new has e tracks = record {
  serves = λ setup m h.
      let g : Grant = release s t k x.holds x.waits in
      by_outcome setup m _ (now Done (with_grant g m)) (Now Done) after new (given setup t s k m ∙ give_is s t k x.holds x.waits m h.locked.holds h.locked.waits has) (record {
        reply_is = refl;
        threads = tracks setup m h;
        locked = record {
          holds = grant_holds g m ∙ sym (ap (λ (y : Locking). y.holds) e);
          waits = grant_leaves s t k x.holds x.waits m h.locked.waits (stand_once m.threads m.line m.waits h.sound.stand) ∙ sym (ap (λ (y : Locking). y.waits) e);
          on = ap (λ (y : Locking). y.rendezes) e ∙ h.locked.on;
        };
        leaves = grant_frame setup g m (apart setup m g.granted h.sound (λ u. subst (λ (ws : List LockWaiter). times (λ y. eqb y u) g.granted ≤ times (is_tid u) ws) (sym h.locked.waits) (granted_wait s t k x.holds x.waits u)));
        entry = refl;
      });
}

-- those that hold no proc
pub grant_tracks : (s : Sort) (t k : ℕ) (sched after : Schedule) (x : Locking) → s ≢ sort.Lock → TracksGranted (release s t k x.holds x.waits).granted sched after → (setup : Setup) (m : State) → IsAt setup sched x m → SchedFor setup.places after (with_grant (release s t k x.holds x.waits) m)
grant_tracks s t k sched after x ne tracks setup m h =
    let g : Grant = release s t k x.holds x.waits in
    let once : WaitOnce x.waits = subst WaitOnce h.locked.waits (stand_once m.threads m.line m.waits h.sound.stand) in
    let beside : AreBeside g.granted (with_holds g.holds m) = subst (λ (ws : List LockWaiter). (u : ℕ) → 1 ≤ times (λ y. eqb y u) g.granted → is_holding u ws ≡ false) (sym h.locked.waits) (granted_beside g.granted x.waits once (granted_counts s ne t k x.holds x.waits)) in
    tracks setup.places (with_holds g.holds m) beside (sched_holds setup.places sched g.holds m h.threads)

-- the one that holds its proc
pub lock_tracks : (t k : ℕ) (sched after : Schedule) (x : Locking) → TracksHolder (release sort.Lock t k x.holds x.waits).granted sched after → (setup : Setup) (m : State) → IsAt setup sched x m → SchedFor setup.places after (with_grant (release sort.Lock t k x.holds x.waits) m)
lock_tracks t k sched after x tracks setup m h =
    let g : Grant = release sort.Lock t k x.holds x.waits in
    tracks setup.places (with_holds g.holds m) h.sound.stand (holders t k x m (find (waits_for (wait.Lock sort.Lock k)) x.waits) refl h.locked.waits) h.sound.in_turn.held (sched_holds setup.places sched g.holds m h.threads)
  where
    one_of : (u v : ℕ) (b : Bool) → eqb v u ≡ b → 1 ≤ cond b 1 0 + 0 → v ≡ u
    one_of u v true e one = search (rules, tests)
    one_of u v false e one = absurd (omega arith)

    in_found : (t k : ℕ) (x : Locking) (m : State) (o : Option LockWaiter) → find (waits_for (wait.Lock sort.Lock k)) x.waits ≡ o → lock_waiters m.waits ≡ x.waits → (u : ℕ) → 1 ≤ times (λ y. eqb y u) (option_to_list (option_map (λ (w : LockWaiter). w.tid) o)) → is_holding u (lock_waiters m.waits) ≡ true
    in_found t k x m None e f u one = absurd (omega arith)
    in_found t k x m (Some w) e f u one = subst (λ (v : ℕ). is_holding v (lock_waiters m.waits) ≡ true) (one_of u w.tid (eqb w.tid u) refl one) (subst (λ (ws : List LockWaiter). is_holding w.tid ws ≡ true) (sym f) (lock_held k x.waits w e))

    holders : (t k : ℕ) (x : Locking) (m : State) (o : Option LockWaiter) → find (waits_for (wait.Lock sort.Lock k)) x.waits ≡ o → lock_waiters m.waits ≡ x.waits → (u : ℕ) → 1 ≤ times (λ y. eqb y u) (release sort.Lock t k x.holds x.waits).granted → is_holding u (lock_waiters m.waits) ≡ true
    holders t k x m o e f = in_found t k x m (find (waits_for (wait.Lock sort.Lock k)) x.waits) refl f

-- one that is granted a Lock is the first of those that are
pub first_of : (o : Option ℕ) → option_to_list (slice_get (option_to_list o) 0) ≡ option_to_list o
first_of None = refl
first_of (Some t) = refl
