-- Threads wait in turn for locks and to meet where one that ran waits too.
use Rattle.std.proofs.Common.{◌≡◌, inl, inr, ℕ, zero, suc, ◌+◌, ◌-◌, ◌≤◌, Bool, true, false, cond, ◌&&◌, eqb, List, [], ◌∷◌, ◌++◌, Some, ap, sym, ◌∙◌, arith}
use Rattle.std.specs.Prelude.{slice_get}
use Rattle.std.proofs.lemmas.Bool.{cases_Bool}
use Rattle.p9_manual.specs.declared.locks.Sort.{Sort}
use Rattle.p9_manual.specs.declared.locks.LockWait.TheVariants as wait
use Rattle.p9_manual.specs.declared.locks.LockWaiter.{LockWaiter}
use Rattle.p9_manual.specs.declared.state.Place.{Place}
use Rattle.p9_manual.specs.declared.state.Place.TheVariants.{Running, Waiting}
use Rattle.p9_manual.specs.declared.state.Thread.{Thread}
use Rattle.p9_manual.specs.Held.{holds_in}
use Rattle.p9_manual.specs.Holds.{Holds}
use Rattle.p9_manual.specs.LockWaits.{holds_proc}
use Rattle.p9_manual.specs.Places.{runs_in, is_of, is_running}
use Rattle.p9_manual.specs.Queues.{waits_for}
use Rattle.p9_manual.specs.SoundLocks.{WaitInTurn, is_unheld}
use Rattle.p9_manual.specs.Standing.{times, place_of, place_in}
use Rattle.p9_manual.specs.State.{by_id, changed, placed, at_place}
use Rattle.p9_laws.proofs.LockWaiters.{holders_placed}
use Rattle.p9_laws.proofs.Sound.Counts.{times-append}
use Rattle.p9_laws.proofs.Sound.Places.{made_from_place, get_from_by_id}

one_stops : (b : Bool) (pl : Place) (n : ℕ) → pl ≡ Running → cond b 1 0 + (cond (b && false) 1 0 + n) ≤ cond (b && is_running pl) 1 0 + n
one_stops true pl n h = rw h (omega arith)
one_stops false pl n h = omega arith

stop_step : (p : ℕ) → (threads : List Thread) (i : ℕ) (thread : Thread) → slice_get threads i ≡ Some thread → thread.place ≡ Running → cond (eqb thread.proc_no p) 1 0 + times (runs_in p) (changed (at_place Waiting) threads i) ≤ times (runs_in p) threads
stop_step p [] i thread at r = cc
stop_step p (x ∷ xs) zero thread at r =
    let same : x ≡ thread = cc in
    rw (← same) (one_stops (eqb x.proc_no p) x.place (times (runs_in p) xs) (rw same r))
stop_step p (x ∷ xs) (suc i) thread at r = omega (arith, stop_step p xs i thread at r)

one_of : (b c : Bool) → cond (b && c) 1 0 ≤ cond c 1 0
one_of true c = omega arith
one_of false true = omega arith
one_of false false = omega arith

-- a thread that ran and waits now holds its proc in the place of running there
stops : (p : ℕ) (threads : List Thread) (w : LockWaiter) → place_of threads w.tid ≡ Running → cond (holds_in threads p w) 1 0 + times (runs_in p) (placed w.tid Waiting threads) ≤ times (runs_in p) threads
stops p threads w runs =
    let made = made_from_place threads w.tid (λ e. cc) in
    let here = stop_step p threads (w.tid - 1) made.0 (get_from_by_id threads w.tid made.0 made.1) (sym (ap place_in made.1) ∙ runs) in
    let proc = ap (λ o. cond {A = ℕ} (is_of p o) 1 0) made.1 in
    let one = one_of (holds_proc w.what) (is_of p (by_id threads w.tid)) in
    omega (arith, here, proc, one)

-- a thread, which ran, waits, for no lock that nobody holds and with no tag with which another waits
pub waiting_turns : (threads : List Thread) (holds : Holds) (ws : List LockWaiter) (w : LockWaiter) → place_of threads w.tid ≡ Running → ((s : Sort) (k : ℕ) → is_unheld s k holds ≡ true → waits_for (wait.Lock s k) w ≡ false) → ((tag : ℕ) → waits_for (wait.Tag tag) w ≡ true → times (waits_for (wait.Tag tag)) ws ≡ 0) → WaitInTurn threads holds ws → WaitInTurn (placed w.tid Waiting threads) holds (ws ++ w ∷ [])
waiting_turns threads holds ws w runs locks tags turns =
    record {
      held = λ p. let k = holders_placed w.tid Waiting p threads (ws ++ w ∷ []) in
          let sum = times-append (holds_in threads p) ws (w ∷ []) in
          let here = stops p threads w runs in
          let one = turns.held p in omega (arith, k, sum, here, one);
      free = λ s k h. one_more (waits_for (wait.Lock s k)) false (locks s k h) (turns.free s k h);
      tags = λ tag. elim (cases_Bool (waits_for (wait.Tag tag) w)) [
        | inl e ↦ first (waits_for (wait.Tag tag)) e (tags tag e)
        | inr e ↦ let k = count (waits_for (wait.Tag tag)) false e in let one = turns.tags tag in omega (arith, k, one)
      ];
    }
  where
    count : (q : LockWaiter → Bool) (b : Bool) → q w ≡ b → times q (ws ++ w ∷ []) ≡ times q ws + (cond b 1 0 + 0)
    count q b h = times-append q ws (w ∷ []) ∙ ap (λ x. times q ws + (cond x 1 0 + 0)) h

    one_more : (q : LockWaiter → Bool) (b : Bool) → q w ≡ false → times q ws ≡ 0 → times q (ws ++ w ∷ []) ≡ 0
    one_more q b h z = let k = count q false h in omega (arith, k, z)

    first : (q : LockWaiter → Bool) → q w ≡ true → times q ws ≡ 0 → times q (ws ++ w ∷ []) ≤ 1
    first q h z = let k = count q true h in omega (arith, k, z)
