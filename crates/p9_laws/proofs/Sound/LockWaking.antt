-- Threads that wait for a lock are granted it, one after the other: each is woken, and a sound state stays sound.
use Rattle.std.proofs.Common.{◌≡◌, ◌≢◌, inl, inr, ℕ, ◌≤◌, true, false, cond, eqb, List, [], ◌∷◌, refl, ap, sym, subst, arith}
use Rattle.std.proofs.lemmas.Bool.{cases_eq}
use Rattle.p9_word.specs.declared.answer.Answer.TheVariants.{Done}
use Rattle.p9_word.specs.declared.setup.Setup.{Setup}
use Rattle.p9_manual.specs.declared.locks.LockWaiter.{LockWaiter}
use Rattle.p9_manual.specs.declared.state.Waiter.{Waiter}
use Rattle.p9_manual.specs.LockCalls.{all_granted}
use Rattle.p9_manual.specs.LockWaits.{lock_waiters}
use Rattle.p9_manual.specs.Sound.{IsSound}
use Rattle.p9_manual.specs.Standing.{times}
use Rattle.p9_manual.specs.State.{State, wake, waits_without}
use Rattle.p9_laws.proofs.LockWaiters.{locker_waits}
use Rattle.p9_laws.proofs.Sound.Woken.{granted_sound, others_run_on}
use Rattle.p9_laws.proofs.Sound.Counts.{all_kept}
use Rattle.p9_laws.proofs.Sound.LockGrants.{is_tid, stand_once, waiters_without}
use Rattle.p9_laws.proofs.Sound.Outcomes.{RunsIn}
use Rattle.p9_laws.proofs.Sound.Stand.{eqb_same, eqb_other, eqb_equal}

-- thread t waits for a lock, at a Rendez or to meet
abbrev pub WaitsSo : ℕ → List Waiter → Type 0
WaitsSo t waits = 1 ≤ times (is_tid t) (lock_waiters waits)

-- these threads all wait so, each no oftener here than there
abbrev pub AllWait : List ℕ → List Waiter → Type 0
AllWait ts waits = (u : ℕ) → times (λ t. eqb t u) ts ≤ times (is_tid u) (lock_waiters waits)

first_waits : (t : ℕ) (ts : List ℕ) (waits : List Waiter) → AllWait (t ∷ ts) waits → WaitsSo t waits
first_waits t ts waits h = let k = h t in let one = ap (λ b. cond {A = ℕ} b 1 0) (eqb_same t) in omega (arith, k, one)

others_wait : (t : ℕ) (ts : List ℕ) (waits : List Waiter) → times (is_tid t) (lock_waiters waits) ≤ 1 → AllWait (t ∷ ts) waits → AllWait ts (waits_without t waits)
others_wait t ts waits once h u = elim (cases_eq u t) [
  | inl same ↦ subst (λ (x : ℕ). times (λ y. eqb y x) ts ≤ times (is_tid x) (lock_waiters (waits_without t waits))) (sym same) gone
  | inr ne ↦ other u ne
]
  where
    gone : times (λ y. eqb y t) ts ≤ times (is_tid t) (lock_waiters (waits_without t waits))
    gone = let k = h t in let one = ap (λ b. cond {A = ℕ} b 1 0) (eqb_same t) in omega (arith, k, one, once)

    not_t : (u : ℕ) → u ≢ t → (w : LockWaiter) → is_tid t w ≡ true → is_tid u w ≡ false
    not_t u ne w e = let f = eqb_equal w.tid t e in rw (ap (λ x. eqb x u) f) (eqb_other t u ne)

    other : (u : ℕ) → u ≢ t → times (λ y. eqb y u) ts ≤ times (is_tid u) (lock_waiters (waits_without t waits))
    other u ne =
        let k = h u in
        let a = ap (times (is_tid u)) (waiters_without t waits) in
        let b = all_kept (is_tid u) (is_tid t) (not_t u ne) (lock_waiters waits) in
        let c = ap (λ b. cond {A = ℕ} b 1 0) (eqb_other t u ne) in
        omega (arith, k, a, b, c)

-- threads that wait so are granted what they wait for
pub all_granted_sound : (setup : Setup) (ts : List ℕ) (s : State) → AllWait ts s.waits → IsSound setup s → IsSound setup (all_granted ts s)
all_granted_sound setup [] s h sound = sound
all_granted_sound setup (t ∷ ts) s h sound =
    all_granted_sound setup ts (wake t Done s) (others_wait t ts s.waits (stand_once s.threads s.line s.waits sound.stand t) h) (granted_sound setup s t Done (first_waits t ts s.waits h) sound)

-- and another thread, which runs, runs on
pub all_granted_run : (setup : Setup) (ts : List ℕ) (s : State) (u : ℕ) → AllWait ts s.waits → IsSound setup s → RunsIn s u → RunsIn (all_granted ts s) u
all_granted_run setup [] s u h sound runs = runs
all_granted_run setup (t ∷ ts) s u h sound runs =
    all_granted_run setup ts (wake t Done s) u (others_wait t ts s.waits (stand_once s.threads s.line s.waits sound.stand t) h) (granted_sound setup s t Done (first_waits t ts s.waits h) sound) (others_run_on s t Done u (locker_waits s.threads s.line s.waits t sound.stand (first_waits t ts s.waits h)).0 runs)

-- no entry is made meanwhile
pub granted_position : (ts : List ℕ) (s : State) → (all_granted ts s).position ≡ s.position
granted_position [] s = refl
granted_position (t ∷ ts) s = granted_position ts (wake t Done s)
