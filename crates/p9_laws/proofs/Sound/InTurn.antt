-- How threads wait in turn at locks and with tags, where a thread was put somewhere, or waits or waits no more.
use Rattle.std.proofs.Common.{◌≡◌, inl, inr, ℕ, ◌+◌, ◌-◌, ◌≤◌, Bool, true, false, not, ◌&&◌, eqb, List, [], ◌∷◌, ◌++◌, length, Some, refl, ap, sym, subst, arith, rules, tests}
use Rattle.std.specs.List.{filter, list_any}
use Rattle.std.proofs.lemmas.Bool.{cases_eq}
use Rattle.p9_word.specs.declared.answer.Answer.{Answer}
use Rattle.p9_manual.specs.declared.locks.LockWait.TheVariants as wait
use Rattle.p9_manual.specs.declared.locks.LockWaiter.{LockWaiter}
use Rattle.p9_manual.specs.declared.state.Place.{Place}
use Rattle.p9_manual.specs.declared.state.Place.TheVariants.{Running, Ready}
use Rattle.p9_manual.specs.declared.state.Thread.{Thread}
use Rattle.p9_manual.specs.declared.state.Waiter.{Waiter}
use Rattle.p9_manual.specs.Held.{holds_in}
use Rattle.p9_manual.specs.Holds.{Holds}
use Rattle.p9_manual.specs.Ends.{Gone, ended_if}
use Rattle.p9_manual.specs.LockWaits.{holds_proc, lock_waiter_of, lock_waiters}
use Rattle.p9_manual.specs.Places.{runs_in, is_running}
use Rattle.p9_manual.specs.Queues.{waits_for}
use Rattle.p9_manual.specs.SoundLocks.{WaitInTurn}
use Rattle.p9_manual.specs.Standing.{times}
use Rattle.p9_manual.specs.State.{by_id, each_from, placed, waits_without}
use Rattle.p9_laws.proofs.EndedWhere.{is_of-ended}
use Rattle.p9_laws.proofs.LockWaiters.{is_locker, holders_placed, holders_push, lock_waiters_off, lock_waiters_other, times_same}
use Rattle.p9_laws.proofs.Sound.Counts.{times-push, times_none, times_parts}
use Rattle.p9_laws.proofs.Sound.Places.{get_from_by_id}
use Rattle.p9_laws.proofs.Sound.Running.{runs-changed, runs-ended, runs-started, runs-started_elsewhere}

-- a thread was put where it doesn't run
pub placed_in_turn : (threads : List Thread) (holds : Holds) (ws : List LockWaiter) (t : ℕ) (pl : Place) → is_running pl ≡ false → WaitInTurn threads holds ws → WaitInTurn (placed t pl threads) holds ws
placed_in_turn threads holds ws t pl rest turn =
    record {
      held = λ p.
          let same = holders_placed t pl p threads ws in
          let fewer = runs-changed p pl threads (t - 1) rest in
          let one = turn.held p in
          omega (arith, same, fewer, one);
      free = turn.free;
      tags = turn.tags;
    }

-- t of proc p, of which no thread runs and none waits that holds it, was made to run
pub started_in_turn : (threads : List Thread) (holds : Holds) (ws : List LockWaiter) (p t : ℕ) (thread : Thread) → list_any (runs_in p) threads ≡ false → times (holds_in threads p) ws ≡ 0 → by_id threads t ≡ Some thread → eqb thread.proc_no p ≡ true → WaitInTurn threads holds ws → WaitInTurn (placed t Running threads) holds ws
started_in_turn threads holds ws p t thread none nobody at of turn = record { held = one; free = turn.free; tags = turn.tags }
  where
    differs : (a b c : ℕ) → eqb a b ≡ true → (c ≡ b → ⊥) → eqb a c ≡ false
    differs a b c h ne = search (rules, tests)

    one : (r : ℕ) → times (holds_in (placed t Running threads) r) ws + times (runs_in r) (placed t Running threads) ≤ 1
    one r = elim (cases_eq r p) [
      | inl e ↦ subst (λ (x : ℕ). times (holds_in (placed t Running threads) x) ws + times (runs_in x) (placed t Running threads) ≤ 1) (sym e)
          (let same = holders_placed t Running p threads ws in
          let more = runs-started p threads (t - 1) in
          let zero = times_none (runs_in p) threads none in
          omega (arith, same, more, zero, nobody))
      | inr ne ↦
          let same = holders_placed t Running r threads ws in
          let more = runs-started_elsewhere r threads (t - 1) thread (get_from_by_id threads t thread at) (differs thread.proc_no p r of ne) in
          let before = turn.held r in
          omega (arith, same, more, before)
    ]

-- a thread was made that doesn't run, and of which there is no wait
pub made_in_turn : (threads : List Thread) (holds : Holds) (ws : List LockWaiter) (y : Thread) → ((p : ℕ) → runs_in p y ≡ false) → times (is_locker (length threads + 1)) ws ≡ 0 → WaitInTurn threads holds ws → WaitInTurn (threads ++ y ∷ []) holds ws
made_in_turn threads holds ws y rest nowhere turn =
    record {
      held = λ p.
          let same = holders_push p threads y ws nowhere in
          let more = times-push (runs_in p) false threads y (rest p) in
          let one = turn.held p in
          omega (arith, same, more, one);
      free = turn.free;
      tags = turn.tags;
    }

-- no more pass where some threads wait no more
fewer_lockers : (q : LockWaiter → Bool) (off : ℕ → Bool) (waits : List Waiter) → times q (lock_waiters (filter (λ w. not (off w.tid)) waits)) ≤ times q (lock_waiters waits)
fewer_lockers q off waits =
    let a = ap (times q) (lock_waiters_off off waits) in
    let b = times_parts q (λ w. off w.tid) (lock_waiters waits) in
    omega (arith, a, b)

-- some threads wait no more
off_in_turn : (threads : List Thread) (holds : Holds) (waits : List Waiter) (off : ℕ → Bool) → WaitInTurn threads holds (lock_waiters waits) → WaitInTurn threads holds (lock_waiters (filter (λ w. not (off w.tid)) waits))
off_in_turn threads holds waits off turn =
    record {
      held = λ p. let fewer = fewer_lockers (holds_in threads p) off waits in let one = turn.held p in omega (arith, fewer, one);
      free = λ s k h. let fewer = fewer_lockers (waits_for (wait.Lock s k)) off waits in let none = turn.free s k h in omega (arith, fewer, none);
      tags = λ tag. let fewer = fewer_lockers (waits_for (wait.Tag tag)) off waits in let one = turn.tags tag in omega (arith, fewer, one);
    }

-- and have ended
pub ended_in_turn : (ends : Gone) (threads : List Thread) (holds : Holds) (waits : List Waiter) → WaitInTurn threads holds (lock_waiters waits) → WaitInTurn (each_from (ended_if ends) 1 threads) holds (lock_waiters (filter (λ w. not (ends w.tid)) waits))
ended_in_turn ends threads holds waits turn =
    let left = off_in_turn threads holds waits ends turn in
    record {
      held = λ p.
          let same = times_same (holds_in (each_from (ended_if ends) 1 threads) p) (holds_in threads p) (λ w. ap (λ b. holds_proc w.what && b) (is_of-ended ends threads p w.tid)) (lock_waiters (filter (λ w. not (ends w.tid)) waits)) in
          let fewer = runs-ended ends p 1 threads in
          let one = left.held p in
          omega (arith, same, fewer, one);
      free = left.free;
      tags = left.tags;
    }

-- a thread waits no more
without_in_turn : (threads : List Thread) (holds : Holds) (waits : List Waiter) (t : ℕ) → WaitInTurn threads holds (lock_waiters waits) → WaitInTurn threads holds (lock_waiters (waits_without t waits))
without_in_turn threads holds waits t turn = off_in_turn threads holds waits (λ u. eqb u t) turn

-- and is ready
pub woken_in_turn : (threads : List Thread) (holds : Holds) (waits : List Waiter) (t : ℕ) (a : Answer) → WaitInTurn threads holds (lock_waiters waits) → WaitInTurn (placed t (Ready a) threads) holds (lock_waiters (waits_without t waits))
woken_in_turn threads holds waits t a turn =
    placed_in_turn threads holds (lock_waiters (waits_without t waits)) t (Ready a) refl (without_in_turn threads holds waits t turn)

-- one more wait, in an alt or a call, of a thread that was put where it doesn't run
pub aside_in_turn : (threads : List Thread) (holds : Holds) (waits : List Waiter) (w : Waiter) (t : ℕ) (pl : Place) → is_running pl ≡ false → lock_waiter_of w ≡ [] → WaitInTurn threads holds (lock_waiters waits) → WaitInTurn (placed t pl threads) holds (lock_waiters (waits ++ w ∷ []))
aside_in_turn threads holds waits w t pl rest none turn =
    subst (λ (ws : List LockWaiter). WaitInTurn (placed t pl threads) holds ws) (sym (lock_waiters_other waits w none)) (placed_in_turn threads holds (lock_waiters waits) t pl rest turn)

-- nobody waits
pub nobody_in_turn : (threads : List Thread) (holds : Holds) → ((p : ℕ) → times (runs_in p) threads ≤ 1) → WaitInTurn threads holds []
nobody_in_turn threads holds ones = record { held = λ p. let one = ones p in omega (arith, one); free = λ s k h. refl; tags = λ tag. omega arith }
