-- A lock is given up: who holds it then, and those that are granted it go on. A sound state stays sound.
use Rattle.std.proofs.Common.{◌≡◌, ℕ, ◌+◌, ◌≤◌, Bool, true, false, cond, ◌&&◌, ◌||◌, eqb, List, [], ◌∷◌, ◌++◌, Option, Some, None, refl, subst, arith}
use Rattle.std.specs.Prelude.{is_none}
use Rattle.std.specs.List.{find, list_any}
use Rattle.std.specs.Option.{option_map, option_to_list}
use Rattle.std.proofs.lemmas.Bool.{and_parts}
use Rattle.p9_word.specs.declared.answer.Answer.TheVariants.{Done}
use Rattle.p9_word.specs.declared.setup.Setup.{Setup}
use Rattle.p9_manual.specs.declared.locks.Sort.{Sort}
use Rattle.p9_manual.specs.declared.locks.Sort.TheVariants as sort
use Rattle.p9_manual.specs.declared.locks.LockWait.TheVariants as wait
use Rattle.p9_manual.specs.declared.locks.LockWaiter.{LockWaiter}
use Rattle.p9_manual.specs.Claims.{is_thread, holder_in, is_empty, rw_hold, rw_at, has_lock}
use Rattle.p9_manual.specs.Holds.{Holds, RwHold}
use Rattle.p9_manual.specs.LockCalls.{with_holds, with_grant, give_up}
use Rattle.p9_manual.specs.LockWaits.{lock_waiters}
use Rattle.p9_manual.specs.Queues.{waits_for, waits_at_rw, without_first, writer_of, readers_in}
use Rattle.p9_manual.specs.Sound.{IsSound}
use Rattle.p9_manual.specs.Standing.{times}
use Rattle.p9_manual.specs.State.{State, by_id, now}
use Rattle.p9_manual.specs.Unlocks.{release, rw_passed, read_released}
use Rattle.p9_laws.proofs.Sound.Counts.{found_counts, none_found}
use Rattle.p9_laws.proofs.Sound.LockGrants.{is_tid, readers_wait}
use Rattle.p9_laws.proofs.Sound.LockHolds.{NoneWaits, lock_none, qlock_none, rwlock_none, held_sound}
use Rattle.p9_laws.proofs.Sound.LockWaking.{all_granted_sound, all_granted_run, granted_position}
use Rattle.p9_laws.proofs.Sound.Outcomes.{IsFine, RunsIn, if_fine, now_fine, bad_fine}

-- a lock that a thread holds is there
held_there : (t : ℕ) (o : Option (Option ℕ)) → is_thread t (holder_in o) ≡ true → (x : Option ℕ) × (o ≡ Some x)
held_there t None h = cc
held_there t (Some x) h = (x, refl)

read_there : (t : ℕ) (o : Option RwHold) → list_any (λ r. eqb r t) (rw_hold o).readers ≡ true → (x : RwHold) × (o ≡ Some x)
read_there t None h = cc
read_there t (Some x) h = (x, refl)

written_there : (t : ℕ) (o : Option RwHold) → is_thread t (rw_hold o).writer ≡ true → (x : RwHold) × (o ≡ Some x)
written_there t None h = cc
written_there t (Some x) h = (x, refl)

-- nobody waits where nobody is first
first_none : (p : LockWaiter → Bool) (ws : List LockWaiter) (o : Option LockWaiter) → find p ws ≡ o → option_map (λ w. w.tid) o ≡ None → times p ws ≡ 0
first_none p ws None e h = none_found p ws e
first_none p ws (Some w) e h = cc

empty_parts : (xs ys : List ℕ) → is_empty (xs ++ ys) ≡ true → ys ≡ []
empty_parts [] [] h = refl
empty_parts [] (y ∷ ys) h = cc
empty_parts (x ∷ xs) ys h = cc

queue_step : (k : ℕ) (b c : Bool) (x : LockWaiter) (xs : List LockWaiter) → waits_for (wait.Lock sort.Write k) x ≡ c → writer_of k (cond (b || c) (Some x) (find (waits_at_rw k) xs)) ≡ None → cond c [] (cond b (x.tid ∷ readers_in k xs) (readers_in k xs)) ≡ [] → (writer_of k (find (waits_at_rw k) xs) ≡ None → readers_in k xs ≡ [] → (times (waits_for (wait.Lock sort.Read k)) xs ≡ 0) × (times (waits_for (wait.Lock sort.Write k)) xs ≡ 0)) → (cond b 1 0 + times (waits_for (wait.Lock sort.Read k)) xs ≡ 0) × (cond c 1 0 + times (waits_for (wait.Lock sort.Write k)) xs ≡ 0)
queue_step k true true x xs e w r h = let f = rw e at w in cc
queue_step k false true x xs e w r h = let f = rw e at w in cc
queue_step k true false x xs e w r h = cc
queue_step k false false x xs e w r h = let rest = h w r in (omega (arith, rest.0), omega (arith, rest.1))

-- nobody waits at an RWLock where no writer is first and no readers are
queue_none : (k : ℕ) → (ws : List LockWaiter) → writer_of k (find (waits_at_rw k) ws) ≡ None → readers_in k ws ≡ [] → (times (waits_for (wait.Lock sort.Read k)) ws ≡ 0) × (times (waits_for (wait.Lock sort.Write k)) ws ≡ 0)
queue_none k [] w r = (refl, refl)
queue_none k (x ∷ xs) w r = queue_step k (waits_for (wait.Lock sort.Read k) x) (waits_for (wait.Lock sort.Write k) x) x xs refl w r (queue_none k xs)

passed_none : (k : ℕ) (readers : List ℕ) (x : RwHold) (h : Holds) (ws : List LockWaiter) (o : Option ℕ) → writer_of k (find (waits_at_rw k) ws) ≡ o → by_id h.rwlocks k ≡ Some x → NoneWaits h ws → NoneWaits (rw_passed k readers o h ws).holds ws
passed_none k readers x h ws (Some t) f e free = rwlock_none k x (record { writer = Some t; readers = readers }) h ws e (λ n. cc) free
passed_none k readers x h ws None f e free =
    rwlock_none k x (record { writer = None; readers = readers ++ readers_in k ws }) h ws e (λ n. queue_none k ws f (empty_parts readers (readers_in k ws) n)) free

read_none : (k : ℕ) (readers : List ℕ) (x : RwHold) (h : Holds) (ws : List LockWaiter) → by_id h.rwlocks k ≡ Some x → NoneWaits h ws → NoneWaits (read_released k readers h ws).holds ws
read_none k [] x h ws e free = passed_none k [] x h ws (writer_of k (find (waits_at_rw k) ws)) refl e free
read_none k (r ∷ rs) x h ws e free = rwlock_none k x (record (rw_at k h) { readers = r ∷ rs }) h ws e (λ n. absurd (reads n)) free
  where
    reads : (is_none (rw_at k h).writer && is_empty (r ∷ rs)) ≡ true → ⊥
    reads n = let a = (and_parts (is_none (rw_at k h).writer) false n).1 in cc

-- after an unlock nobody waits for a lock that nobody holds
pub released_none : (s : Sort) (t k : ℕ) (h : Holds) (ws : List LockWaiter) → has_lock s t k h ≡ true → NoneWaits h ws → NoneWaits (release s t k h ws).holds ws
released_none sort.Lock t k h ws e free =
    let there = held_there t (by_id h.locks k) e in
    lock_none k there.0 (option_map (λ w. w.tid) (find (waits_for (wait.Lock sort.Lock k)) ws)) h ws there.1 (first_none (waits_for (wait.Lock sort.Lock k)) ws (find (waits_for (wait.Lock sort.Lock k)) ws) refl) free
released_none sort.QLock t k h ws e free =
    let there = held_there t (by_id h.qlocks k) e in
    qlock_none k there.0 (option_map (λ w. w.tid) (find (waits_for (wait.Lock sort.QLock k)) ws)) h ws there.1 (first_none (waits_for (wait.Lock sort.QLock k)) ws (find (waits_for (wait.Lock sort.QLock k)) ws) refl) free
released_none sort.Read t k h ws e free = let there = read_there t (by_id h.rwlocks k) e in read_none k (without_first (λ r. eqb r t) (rw_at k h).readers) there.0 h ws there.1 free
released_none sort.Write t k h ws e free =
    let there = written_there t (by_id h.rwlocks k) e in passed_none k (rw_at k h).readers there.0 h ws (writer_of k (find (waits_at_rw k) ws)) refl there.1 free

found_one : (p : LockWaiter → Bool) (ws : List LockWaiter) (w : LockWaiter) (u : ℕ) → find p ws ≡ Some w → times (λ t. eqb t u) (w.tid ∷ []) ≤ times (is_tid u) ws
found_one p ws w u e = by_id_of (eqb w.tid u) refl
  where
    by_id_of : (b : Bool) → eqb w.tid u ≡ b → cond b 1 0 + 0 ≤ times (is_tid u) ws
    by_id_of true h = let k = (found_counts p (is_tid u) ws w h e).1 in omega (arith, k)
    by_id_of false h = omega arith

first_wait : (p : LockWaiter → Bool) (ws : List LockWaiter) (o : Option LockWaiter) (u : ℕ) → find p ws ≡ o → times (λ t. eqb t u) (option_to_list (option_map (λ w. w.tid) o)) ≤ times (is_tid u) ws
first_wait p ws None u e = omega arith
first_wait p ws (Some w) u e = found_one p ws w u e

passed_by : (k : ℕ) (readers : List ℕ) (h : Holds) (ws : List LockWaiter) (w : LockWaiter) (b : Bool) (u : ℕ) → find (waits_at_rw k) ws ≡ Some w → times (λ t. eqb t u) (rw_passed k readers (cond b (Some w.tid) None) h ws).granted ≤ times (is_tid u) ws
passed_by k readers h ws w true u e = found_one (waits_at_rw k) ws w u e
passed_by k readers h ws w false u e = readers_wait k u ws

passed_wait : (k : ℕ) (readers : List ℕ) (h : Holds) (ws : List LockWaiter) (o : Option LockWaiter) (u : ℕ) → find (waits_at_rw k) ws ≡ o → times (λ t. eqb t u) (rw_passed k readers (writer_of k o) h ws).granted ≤ times (is_tid u) ws
passed_wait k readers h ws None u e = readers_wait k u ws
passed_wait k readers h ws (Some w) u e = passed_by k readers h ws w (waits_for (wait.Lock sort.Write k) w) u e

read_wait : (k : ℕ) (readers : List ℕ) (h : Holds) (ws : List LockWaiter) (u : ℕ) → times (λ t. eqb t u) (read_released k readers h ws).granted ≤ times (is_tid u) ws
read_wait k [] h ws u = passed_wait k [] h ws (find (waits_at_rw k) ws) u refl
read_wait k (r ∷ rs) h ws u = omega arith

-- those that are granted a lock wait
pub released_wait : (s : Sort) (t k : ℕ) (h : Holds) (ws : List LockWaiter) (u : ℕ) → times (λ x. eqb x u) (release s t k h ws).granted ≤ times (is_tid u) ws
released_wait sort.Lock t k h ws u = first_wait (waits_for (wait.Lock sort.Lock k)) ws (find (waits_for (wait.Lock sort.Lock k)) ws) u refl
released_wait sort.QLock t k h ws u = first_wait (waits_for (wait.Lock sort.QLock k)) ws (find (waits_for (wait.Lock sort.QLock k)) ws) u refl
released_wait sort.Read t k h ws u = read_wait k (without_first (λ r. eqb r t) (rw_at k h).readers) h ws u
released_wait sort.Write t k h ws u = passed_wait k (rw_at k h).readers h ws (find (waits_at_rw k) ws) u refl

-- what is left after an unlock: a sound state, in which the caller runs on, at the same position
pub record IsGranted (setup : Setup) (t : ℕ) (old new : State) : Type 0 where
  pub sound : IsSound setup new
  pub runs : RunsIn new t
  pub position : new.position ≡ old.position

pub release_grants : (setup : Setup) (s : Sort) (t k : ℕ) (state : State) → has_lock s t k state.holds ≡ true → IsSound setup state → RunsIn state t → IsGranted setup t state (with_grant (release s t k state.holds (lock_waiters state.waits)) state)
release_grants setup s t k state has sound runs =
    let g = release s t k state.holds (lock_waiters state.waits) in
    let held = held_sound setup state g.holds (released_none s t k state.holds (lock_waiters state.waits) has sound.in_turn.free) sound in
    record {
      sound = all_granted_sound setup g.granted (with_holds g.holds state) (released_wait s t k state.holds (lock_waiters state.waits)) held;
      runs = all_granted_run setup g.granted (with_holds g.holds state) t (released_wait s t k state.holds (lock_waiters state.waits)) held runs;
      position = granted_position g.granted (with_holds g.holds state);
    }

-- unlock, qunlock, runlock, wunlock
pub give_up_fine : (setup : Setup) (s : Sort) (t k : ℕ) (state : State) → IsSound setup state → RunsIn state t → IsFine setup state.position (give_up s t k state)
give_up_fine setup s t k state sound runs =
    if_fine setup state.position (has_lock s t k state.holds) _ _ (λ has. told (release_grants setup s t k state has sound runs)) (λ f. bad_fine setup state sound)
  where
    told : IsGranted setup t state (with_grant (release s t k state.holds (lock_waiters state.waits)) state) → IsFine setup state.position (now Done (with_grant (release s t k state.holds (lock_waiters state.waits)) state))
    told g = subst (λ (n : ℕ). IsFine setup n (now Done (with_grant (release s t k state.holds (lock_waiters state.waits)) state))) g.position (now_fine setup _ Done g.sound)
