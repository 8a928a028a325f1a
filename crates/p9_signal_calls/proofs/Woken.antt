-- A thread that waits is woken: what an interrupt needs of a state stays.
use Rattle.std.proofs.Common.{◌≡◌, ◌≢◌, inl, inr, ℕ, zero, suc, ◌+◌, ◌-◌, ◌≤◌, Bool, true, false, not, cond, ◌&&◌, eqb, List, [], ◌∷◌, Option, Some, None, refl, ap, ◌∙◌, arith}
use Rattle.std.specs.Prelude.{All, slice_get}
use Rattle.std.specs.List.{filter, AllByRecursion}
use Rattle.std.proofs.lemmas.Bool.{cases_eq}
use Rattle.std.proofs.lemmas.List.Elements.{All-from_recursion, recursion_from_All}
use Rattle.p9_word.specs.declared.answer.Answer.{Answer}
use Rattle.p9_manual.specs.declared.locks.LockWaiter.{LockWaiter}
use Rattle.p9_manual.specs.declared.state.Place.{Place}
use Rattle.p9_manual.specs.declared.state.Place.TheVariants.{Ready, Waiting}
use Rattle.p9_manual.specs.declared.state.Thread.{Thread}
use Rattle.p9_manual.specs.declared.state.Waiter.{Waiter}
use Rattle.p9_manual.specs.Held.{holds_in}
use Rattle.p9_manual.specs.LockWaits.{holds_proc, is_holding, lined, lock_waiters}
use Rattle.p9_manual.specs.Places.{is_of, is_running, runs_in}
use Rattle.p9_manual.specs.Sound.{can_wait}
use Rattle.p9_manual.specs.Standing.{StandOnce, times, place_in, place_of, times_in_line}
use Rattle.p9_manual.specs.State.{State, at_place, by_id, changed, placed, waits_without, wake}
use Rattle.p9_signal_calls.specs.Fit.{IsFit}
use Rattle.p9_signal_calls.proofs.Lists.{all_kept, by_id_changed_other, by_id_changed_same, by_id_suc, cleared, eqb_equal, eqb_other, eqb_same, fewer, times_append, times_same}
use Rattle.p9_signal_calls.proofs.Waits.{is_locker, lockers_without}

-- there is a thread t
abbrev pub IsThread : ℕ → List Thread → Type 0
IsThread t threads = (thread : Thread) × (by_id threads t ≡ Some thread)

waits_made : (o : Option Thread) → place_in o ≡ Waiting → (thread : Thread) × (o ≡ Some thread)
waits_made None e = absurd (cc e)
waits_made (Some thread) e = (thread, refl)

pub made_waiting : (threads : List Thread) (t : ℕ) → place_of threads t ≡ Waiting → IsThread t threads
made_waiting threads t e = waits_made (by_id threads t) e

place_same : (threads : List Thread) (t : ℕ) (place : Place) → IsThread t threads → place_of (placed t place threads) t ≡ place
place_same threads t place made = ap place_in (by_id_changed_same (at_place place) threads t made.0 made.1)

place_other : (threads : List Thread) (t u : ℕ) (place : Place) → IsThread t threads → u ≢ t → place_of (placed t place threads) u ≡ place_of threads u
place_other threads t u place made ne = ap place_in (by_id_changed_other (at_place place) threads t u made.0 made.1 ne)

one_put : (p : ℕ) (pl : Place) (x : Thread) (b : Bool) (n : ℕ) → is_running pl ≡ false → cond (b && is_running pl) 1 0 + n ≤ cond (runs_in p x) 1 0 + n
one_put p pl x true n e = rw e (omega arith)
one_put p pl x false n e = omega arith

-- no more run where a thread was put somewhere where it doesn't
pub rest_runs : (p : ℕ) (pl : Place) → (threads : List Thread) (i : ℕ) → is_running pl ≡ false → times (runs_in p) (changed (at_place pl) threads i) ≤ times (runs_in p) threads
rest_runs p pl [] i e = omega arith
rest_runs p pl (x ∷ xs) zero e = one_put p pl x (eqb x.proc_no p) (times (runs_in p) xs) e
rest_runs p pl (x ∷ xs) (suc i) e = let k = rest_runs p pl xs i e in omega (arith, k)

-- one more in the line, first or last
times_lined : (q : ℕ → Bool) (held : Bool) (t : ℕ) (line : List ℕ) → times q (lined held t line) ≡ times q line + cond (q t) 1 0
times_lined q true t line = omega arith
times_lined q false t line = let a = times_append q line (t ∷ []) in omega (arith, a)

-- t, which waits, is ready, and all its waits are taken out
woken_stands : (threads : List Thread) (line : List ℕ) (waits : List Waiter) (t : ℕ) (a : Answer) (held : Bool) → StandOnce threads line waits → place_of threads t ≡ Waiting → StandOnce (placed t (Ready a) threads) (lined held t line) (waits_without t waits)
woken_stands threads line waits t a held stand here =
    let none = stand.in_line t ∙ ap times_in_line here in
    let made = made_waiting threads t here in
    record {
      in_line = λ u. elim (cases_eq u t) [
        | inl e ↦ rw (e, place_same threads t (Ready a) made, times_lined (λ x. eqb x t) held t line, eqb_same t, none) refl
        | inr ne ↦ rw (place_other threads t u (Ready a) made ne, times_lined (λ x. eqb x u) held t line, eqb_other t u ne) (let k = stand.in_line u in omega (arith, k))
      ];
      in_waits = λ u. elim (cases_eq u t) [
        | inl e ↦ rw (e, place_same threads t (Ready a) made) (cleared (λ w. eqb w.tid t) waits)
        | inr ne ↦ rw (place_other threads t u (Ready a) made ne) (all_kept (λ w. eqb w.tid u) (λ w. eqb w.tid t) (λ w e. let f = eqb_equal w.tid t e in rw f (eqb_other t u ne)) waits ∙ stand.in_waits u)
      ];
      one_runs = λ p. let k = rest_runs p (Ready a) threads (t - 1) refl in let one = stand.one_runs p in omega (arith, k, one);
    }

every_kept : (P : Waiter → Type 0) (q : Waiter → Bool) → (ws : List Waiter) → AllByRecursion P ws → AllByRecursion P (filter q ws)
every_kept P q [] h = tt
every_kept P q (w ∷ ws) h = one_kept P (q w) w (filter q ws) h.0 (every_kept P q ws h.1)
  where
    one_kept : (P : Waiter → Type 0) (b : Bool) (w : Waiter) (fs : List Waiter) → P w → AllByRecursion P fs → AllByRecursion P (cond b (w ∷ fs) fs)
    one_kept P true w fs h k = (h, k)
    one_kept P false w fs h k = k

-- what holds of all waits holds of those that are left
pub All_kept : (P : Waiter → Type 0) (q : Waiter → Bool) (ws : List Waiter) → All P ws → All P (filter q ws)
All_kept P q ws h = All-from_recursion P (filter q ws) (every_kept P q ws (recursion_from_All P ws h))

is_of_step : (f : Thread → Thread) → ((x : Thread) → (f x).proc_no ≡ x.proc_no) → (p : ℕ) (threads : List Thread) (i j : ℕ) → is_of p (slice_get (changed f threads i) j) ≡ is_of p (slice_get threads j)
is_of_step f same p [] i j = refl
is_of_step f same p (x ∷ xs) zero zero = ap (λ n. eqb n p) (same x)
is_of_step f same p (x ∷ xs) zero (suc j) = refl
is_of_step f same p (x ∷ xs) (suc i) zero = refl
is_of_step f same p (x ∷ xs) (suc i) (suc j) = is_of_step f same p xs i j

-- each thread is in its proc, where one was changed and stays in its own
pub is_of_changed : (f : Thread → Thread) → ((x : Thread) → (f x).proc_no ≡ x.proc_no) → (p : ℕ) (threads : List Thread) (i u : ℕ) → is_of p (by_id (changed f threads i) u) ≡ is_of p (by_id threads u)
is_of_changed f same p threads i zero = refl
is_of_changed f same p threads i (suc j) = rw (by_id_suc (changed f threads i) j, by_id_suc threads j) (is_of_step f same p threads i j)

-- each proc has as many holders, where a thread was changed so
pub holders_changed : (f : Thread → Thread) → ((x : Thread) → (f x).proc_no ≡ x.proc_no) → (p : ℕ) (threads : List Thread) (i : ℕ) (ws : List LockWaiter) → times (holds_in (changed f threads i) p) ws ≡ times (holds_in threads p) ws
holders_changed f same p threads i ws =
    times_same (holds_in (changed f threads i) p) (holds_in threads p) (λ w. ap (λ b. holds_proc w.what && b) (is_of_changed f same p threads i w.tid)) ws

-- a thread that waits, woken, leaves the state fit
pub woken_fit : (t : ℕ) (a : Answer) (s : State) → place_of s.threads t ≡ Waiting → IsFit s → IsFit (wake t a s)
woken_fit t a s here fit =
    record {
      stand = woken_stands s.threads s.line s.waits t a (is_holding t (lock_waiters s.waits)) fit.stand here;
      kinds = All_kept (λ w. can_wait w.request ≡ true) (λ w. not (eqb w.tid t)) s.waits fit.kinds;
      held = λ p.
          let gone = ap (times (holds_in (placed t (Ready a) s.threads) p)) (lockers_without t s.waits) in
          let less = fewer (λ x. not (is_locker t x)) (holds_in (placed t (Ready a) s.threads) p) (lock_waiters s.waits) in
          let same = holders_changed (at_place (Ready a)) (λ x. refl) p s.threads (t - 1) (lock_waiters s.waits) in
          let runs = rest_runs p (Ready a) s.threads (t - 1) refl in
          let one = fit.held p in
          omega (arith, gone, less, same, runs, one);
    }
