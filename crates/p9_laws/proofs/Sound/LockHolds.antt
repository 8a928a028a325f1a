-- Where a lock gets another holder, still nobody waits for a lock that nobody holds; and the claims of locks.
use Rattle.std.proofs.Common.{◌≡◌, inl, inr, ℕ, ◌-◌, ◌+◌, Bool, true, false, not, cond, ◌&&◌, ◌||◌, eqb, List, [], ◌∷◌, ◌++◌, Option, Some, None, refl, ap, sym, subst, ◌∙◌, arith}
use Rattle.std.specs.Prelude.{is_none}
use Rattle.std.specs.List.{list_any}
use Rattle.std.specs.Option.{is_some}
use Rattle.std.proofs.lemmas.Bool.{cases_Bool, cases_eq, and_parts}
use Rattle.p9_word.specs.declared.answer.Answer.TheVariants.{Done, Number}
use Rattle.p9_word.specs.declared.request.LockReq.{LockReq}
use Rattle.p9_word.specs.declared.setup.Setup.{Setup}
use Rattle.p9_manual.specs.declared.locks.Sort.{Sort}
use Rattle.p9_manual.specs.declared.locks.Sort.TheVariants as sort
use Rattle.p9_manual.specs.declared.locks.LockWait.TheVariants as wait
use Rattle.p9_manual.specs.declared.locks.LockWaiter.{LockWaiter}
use Rattle.p9_manual.specs.Claims.{is_free, is_empty, rw_hold, rw_at, can_get, with_lock, with_qlock, with_rwlock, with_hold}
use Rattle.p9_manual.specs.Holds.{Holds, RwHold}
use Rattle.p9_manual.specs.LockCalls.{is_lock, with_holds, got, taken, take, tried, try}
use Rattle.p9_manual.specs.LockWaits.{wait_for, lock_waiters}
use Rattle.p9_manual.specs.Queues.{same_sort, waits_for, waits_at_rw, joined}
use Rattle.p9_manual.specs.Sound.{IsSound}
use Rattle.p9_manual.specs.SoundLocks.{is_unheld}
use Rattle.p9_manual.specs.Standing.{times}
use Rattle.p9_manual.specs.State.{State, by_id, changed}
use Rattle.p9_laws.proofs.Sound.LockWaiting.{waits_so_fine}
use Rattle.p9_laws.proofs.Sound.Outcomes.{IsFine, RunsIn, if_fine, now_fine, bad_fine, done_fine}
use Rattle.p9_laws.proofs.Sound.Places.{by_id-changed_same, by_id-changed_other}
use Rattle.p9_laws.proofs.Sound.Stand.{eqb_equal}

-- nobody waits for a lock that nobody holds
abbrev pub NoneWaits : Holds → List LockWaiter → Type 0
NoneWaits h ws = (s : Sort) (k : ℕ) → is_unheld s k h ≡ true → times (waits_for (wait.Lock s k)) ws ≡ 0

-- nobody holds this RWLock
abbrev pub nobody : Option RwHold → Bool
nobody o = is_none (rw_hold o).writer && is_empty (rw_hold o).readers

slot_changed : {A : Type 0} (test : Option A → Bool) (xs : List A) (k j : ℕ) (x y : A) (P : ℕ → Type 0) → by_id xs k ≡ Some x → (test (Some y) ≡ true → P k) → (test (by_id xs j) ≡ true → P j) → test (by_id (changed (λ _. y) xs (k - 1)) j) ≡ true → P j
slot_changed test xs k j x y P e here there u = elim (cases_eq j k) [
  | inl same ↦ subst P (sym same) (here (sym (ap test (by_id-changed_same (λ _. y) xs k x e)) ∙ ap (λ i. test (by_id (changed (λ _. y) xs (k - 1)) i)) (sym same) ∙ u))
  | inr ne ↦ there (sym (ap test (by_id-changed_other (λ _. y) xs k j x e ne)) ∙ u)
]

no_holder : (holder : Option ℕ) → is_free (Some holder) ≡ true → holder ≡ None
no_holder None h = refl
no_holder (Some t) h = cc

-- a Lock that is there has this holder, or nobody waits for it
pub lock_none : (k : ℕ) (x holder : Option ℕ) (h : Holds) (ws : List LockWaiter) → by_id h.locks k ≡ Some x → (holder ≡ None → times (waits_for (wait.Lock sort.Lock k)) ws ≡ 0) → NoneWaits h ws → NoneWaits (with_lock k holder h) ws
lock_none k x holder h ws e none free sort.Lock j u =
    slot_changed is_free h.locks k j x holder (λ i. times (waits_for (wait.Lock sort.Lock i)) ws ≡ 0) e (λ f. none (no_holder holder f)) (free sort.Lock j) u
lock_none k x holder h ws e none free sort.QLock j u = free sort.QLock j u
lock_none k x holder h ws e none free sort.Read j u = free sort.Read j u
lock_none k x holder h ws e none free sort.Write j u = free sort.Write j u

-- likewise a QLock
pub qlock_none : (k : ℕ) (x holder : Option ℕ) (h : Holds) (ws : List LockWaiter) → by_id h.qlocks k ≡ Some x → (holder ≡ None → times (waits_for (wait.Lock sort.QLock k)) ws ≡ 0) → NoneWaits h ws → NoneWaits (with_qlock k holder h) ws
qlock_none k x holder h ws e none free sort.Lock j u = free sort.Lock j u
qlock_none k x holder h ws e none free sort.QLock j u =
    slot_changed is_free h.qlocks k j x holder (λ i. times (waits_for (wait.Lock sort.QLock i)) ws ≡ 0) e (λ f. none (no_holder holder f)) (free sort.QLock j) u
qlock_none k x holder h ws e none free sort.Read j u = free sort.Read j u
qlock_none k x holder h ws e none free sort.Write j u = free sort.Write j u

-- and an RWLock
pub rwlock_none : (k : ℕ) (x hold : RwHold) (h : Holds) (ws : List LockWaiter) → by_id h.rwlocks k ≡ Some x → (nobody (Some hold) ≡ true → (times (waits_for (wait.Lock sort.Read k)) ws ≡ 0) × (times (waits_for (wait.Lock sort.Write k)) ws ≡ 0)) → NoneWaits h ws → NoneWaits (with_rwlock k hold h) ws
rwlock_none k x hold h ws e none free sort.Lock j u = free sort.Lock j u
rwlock_none k x hold h ws e none free sort.QLock j u = free sort.QLock j u
rwlock_none k x hold h ws e none free sort.Read j u =
    slot_changed nobody h.rwlocks k j x hold (λ i. times (waits_for (wait.Lock sort.Read i)) ws ≡ 0) e (λ f. (none f).0) (free sort.Read j) u
rwlock_none k x hold h ws e none free sort.Write j u =
    slot_changed nobody h.rwlocks k j x hold (λ i. times (waits_for (wait.Lock sort.Write i)) ws ≡ 0) e (λ f. (none f).1) (free sort.Write j) u

-- locks that are held otherwise keep a sound state sound, where nobody waits for one that nobody holds
pub held_sound : (setup : Setup) (s : State) (h : Holds) → NoneWaits h (lock_waiters s.waits) → IsSound setup s → IsSound setup (with_holds h s)
held_sound setup s h none sound =
    record {
      stand = sound.stand;
      members = sound.members;
      opened = sound.opened;
      waits_right = sound.waits_right;
      within = sound.within;
      in_turn = record { held = sound.in_turn.held; free = none; tags = sound.in_turn.tags };
      order = sound.order;
      calls = sound.calls;
      notes = sound.notes;
    }

there_is : {A : Type 0} (o : Option A) → is_some o ≡ true → (x : A) × (o ≡ Some x)
there_is None h = cc
there_is (Some x) h = (x, refl)

never_empty : (xs : List ℕ) (t : ℕ) → is_empty (xs ++ t ∷ []) ≡ false
never_empty [] t = refl
never_empty (x ∷ xs) t = refl

-- t gets a lock that is there
claimed_none : (s : Sort) (t k : ℕ) (h : Holds) (ws : List LockWaiter) → is_lock s k h ≡ true → NoneWaits h ws → NoneWaits (with_hold s t k h) ws
claimed_none sort.Lock t k h ws e free = let there = there_is (by_id h.locks k) e in lock_none k there.0 (Some t) h ws there.1 (λ n. cc) free
claimed_none sort.QLock t k h ws e free = let there = there_is (by_id h.qlocks k) e in qlock_none k there.0 (Some t) h ws there.1 (λ n. cc) free
claimed_none sort.Read t k h ws e free =
    let there = there_is (by_id h.rwlocks k) e in
    rwlock_none k there.0 (record (rw_at k h) { readers = (rw_at k h).readers ++ t ∷ [] }) h ws there.1 (λ n. absurd (reads n)) free
  where
    reads : (is_none (rw_at k h).writer && is_empty ((rw_at k h).readers ++ t ∷ [])) ≡ true → ⊥
    reads n =
        let a = (and_parts (is_none (rw_at k h).writer) (is_empty ((rw_at k h).readers ++ t ∷ [])) n).1 in
        let b = never_empty (rw_at k h).readers t in cc
claimed_none sort.Write t k h ws e free =
    let there = there_is (by_id h.rwlocks k) e in
    rwlock_none k there.0 (record (rw_at k h) { writer = Some t }) h ws there.1 (λ n. absurd (writes n)) free
  where
    writes : (is_none (Some t) && is_empty (rw_at k h).readers) ≡ true → ⊥
    writes n = cc

none_any : {A : Type 0} (p q : A → Bool) → (xs : List A) → times p xs ≡ 0 → times q xs ≡ 0 → list_any (λ x. p x || q x) xs ≡ false
none_any p q [] a b = refl
none_any p q (x ∷ xs) a b = any_step (p x) (q x) (times p xs) (times q xs) (list_any (λ y. p y || q y) xs) a b (none_any p q xs)
  where
    any_step : (b c : Bool) (m n : ℕ) (rest : Bool) → cond b 1 0 + m ≡ 0 → cond c 1 0 + n ≡ 0 → (m ≡ 0 → n ≡ 0 → rest ≡ false) → ((b || c) || rest) ≡ false
    any_step true c m n rest h j k = absurd (omega arith)
    any_step false true m n rest h j k = absurd (omega arith)
    any_step false false m n rest h j k = k (omega arith) (omega arith)

-- a lock that a thread can't get is held
held_by : (s : Sort) (k : ℕ) (h : Holds) (ws : List LockWaiter) → can_get s k h ws ≡ false → NoneWaits h ws → is_unheld s k h ≡ false
held_by sort.Lock k h ws e free = e
held_by sort.QLock k h ws e free = e
held_by sort.Write k h ws e free = e
held_by sort.Read k h ws e free = elim (cases_Bool (is_unheld sort.Read k h)) [
  | inl u ↦ absurd (can u)
  | inr f ↦ f
]
  where
    gets : (b c : Bool) → b ≡ true → c ≡ false → (b && not c) ≡ false → ⊥
    gets true false f g k = cc
    gets false c f g k = cc
    gets true true f g k = cc

    can : is_unheld sort.Read k h ≡ true → ⊥
    can u =
        let none = none_any (waits_for (wait.Lock sort.Read k)) (waits_for (wait.Lock sort.Write k)) ws (free sort.Read k u) (free sort.Write k u) in
        let one = (and_parts (is_none (rw_at k h).writer) (is_empty (rw_at k h).readers) u).0 in
        gets (is_none (rw_at k h).writer) (list_any (waits_at_rw k) ws) one none e

same_is : (a b : Sort) → same_sort a b ≡ true → a ≡ b
same_is sort.Lock sort.Lock h = refl
same_is sort.QLock sort.QLock h = refl
same_is sort.Read sort.Read h = refl
same_is sort.Write sort.Write h = refl
same_is a b h = cc

-- one lock is held and another isn't, so they differ
pub apart : (a b : Sort) (j k : ℕ) (h : Holds) → is_unheld a j h ≡ false → is_unheld b k h ≡ true → (same_sort a b && eqb j k) ≡ false
apart a b j k h e f = elim (cases_Bool (same_sort a b && eqb j k)) [
  | inl both ↦ absurd (one both)
  | inr differ ↦ differ
]
  where
    one : (same_sort a b && eqb j k) ≡ true → ⊥
    one both =
        let parts = and_parts (same_sort a b) (eqb j k) both in
        let g = subst (λ (s : Sort). is_unheld s j h ≡ false) (same_is a b parts.0) e in
        let i = subst (λ (n : ℕ). is_unheld b n h ≡ false) (eqb_equal j k parts.1) g in
        cc (i, f)

got_fine : (setup : Setup) (s : Sort) (t : ℕ) (state : State) → IsSound setup state → RunsIn state t → IsFine setup state.position (got s t state)
got_fine setup sort.Lock t state sound runs = now_fine setup state Done sound
got_fine setup sort.QLock t state sound runs = done_fine setup state t Done sound runs
got_fine setup sort.Read t state sound runs = done_fine setup state t Done sound runs
got_fine setup sort.Write t state sound runs = done_fine setup state t Done sound runs

claim_fine : (setup : Setup) (s : Sort) (t k : ℕ) (r : LockReq) (state : State) (b : Bool) → can_get s k state.holds (lock_waiters state.waits) ≡ b → is_lock s k state.holds ≡ true → wait_for r ≡ Some (wait.Lock s k, 0) → IsSound setup state → RunsIn state t → IsFine setup state.position (taken s t r (cond b (record { got = true; holds = with_hold s t k state.holds; waits = lock_waiters state.waits }) (record { got = false; holds = state.holds; waits = joined t (wait.Lock s k) 0 (lock_waiters state.waits) })) state)
claim_fine setup s t k r state true e l w sound runs =
    got_fine setup s t (with_holds (with_hold s t k state.holds) state) (held_sound setup state (with_hold s t k state.holds) (claimed_none s t k state.holds (lock_waiters state.waits) l sound.in_turn.free) sound) runs
claim_fine setup s t k r state false e l w sound runs =
    waits_so_fine setup state t r (wait.Lock s k) 0 w (λ a j u. apart s a k j state.holds (held_by s k state.holds (lock_waiters state.waits) e sound.in_turn.free) u) (λ tag h. cc) sound runs

-- lock, qlock, rlock, wlock
pub take_fine : (setup : Setup) (s : Sort) (t k : ℕ) (r : LockReq) (state : State) → wait_for r ≡ Some (wait.Lock s k, 0) → IsSound setup state → RunsIn state t → IsFine setup state.position (take s t k r state)
take_fine setup s t k r state w sound runs =
    if_fine setup state.position (is_lock s k state.holds) _ _ (λ l. claim_fine setup s t k r state (can_get s k state.holds (lock_waiters state.waits)) refl l w sound runs) (λ l. bad_fine setup state sound)

attempt_fine : (setup : Setup) (s : Sort) (t k : ℕ) (state : State) (b : Bool) → is_lock s k state.holds ≡ true → IsSound setup state → IsFine setup state.position (tried (cond b (record { got = true; holds = with_hold s t k state.holds; waits = lock_waiters state.waits }) (record { got = false; holds = state.holds; waits = lock_waiters state.waits })) state)
attempt_fine setup s t k state true l sound =
    now_fine setup (with_holds (with_hold s t k state.holds) state) (Number 1) (held_sound setup state (with_hold s t k state.holds) (claimed_none s t k state.holds (lock_waiters state.waits) l sound.in_turn.free) sound)
attempt_fine setup s t k state false l sound = now_fine setup state (Number 0) sound

-- canlock, canqlock, canrlock, canwlock
pub try_fine : (setup : Setup) (s : Sort) (t k : ℕ) (state : State) → IsSound setup state → IsFine setup state.position (try s t k state)
try_fine setup s t k state sound =
    if_fine setup state.position (is_lock s k state.holds) _ _ (λ l. attempt_fine setup s t k state (can_get s k state.holds (lock_waiters state.waits)) l sound) (λ l. bad_fine setup state sound)
