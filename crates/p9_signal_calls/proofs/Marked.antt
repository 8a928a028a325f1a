-- A thread is marked to die: what an interrupt needs of a state stays, and a thread that has ended stays as it is.
use Rattle.std.proofs.Common.{◌≡◌, ℕ, zero, suc, ◌+◌, ◌-◌, ◌≤◌, Bool, true, false, cond, List, [], ◌∷◌, refl, ap, sym, ◌∙◌, arith}
use Rattle.std.specs.Prelude.{slice_get}
use Rattle.p9_manual.specs.declared.state.Place.{Place as Stand}
use Rattle.p9_manual.specs.declared.state.Place.TheVariants as stand
use Rattle.p9_manual.specs.declared.state.Thread.{Thread}
use Rattle.p9_manual.specs.Interrupt.{doomed, marked, with_mark}
use Rattle.p9_manual.specs.LockWaits.{lock_waiters}
use Rattle.p9_manual.specs.Places.{is_ended, lives, runs_in}
use Rattle.p9_manual.specs.Standing.{times, place_in, place_of, times_in_line, times_in_waits}
use Rattle.p9_manual.specs.State.{State, by_id, changed}
use Rattle.p9_sched.specs.Schedule.{Schedule, IsMade}
use Rattle.p9_sched.specs.Stands.{Tracks}
use Rattle.p9_sched.specs.Turns.{place_at, place_of as sched_place}
use Rattle.p9_sched.specs.declared.turns.Place.TheVariants as place
use Rattle.p9_signal_calls.specs.Fit.{IsFit}
use Rattle.p9_signal_calls.proofs.Lists.{by_id_suc}
use Rattle.p9_signal_calls.proofs.Woken.{holders_changed}

doomed_by : (b : Bool) (x : Thread) → (cond b (with_mark x) x).place ≡ x.place
doomed_by true x = refl
doomed_by false x = refl

doomed_in : (b : Bool) (x : Thread) → (cond b (with_mark x) x).proc_no ≡ x.proc_no
doomed_in true x = refl
doomed_in false x = refl

doomed_group : (b : Bool) (x : Thread) → (cond b (with_mark x) x).group ≡ x.group
doomed_group true x = refl
doomed_group false x = refl

-- it stays where it is, in its proc and in its group
pub doomed_place : (x : Thread) → (doomed x).place ≡ x.place
doomed_place x = doomed_by (lives x) x

pub doomed_proc : (x : Thread) → (doomed x).proc_no ≡ x.proc_no
doomed_proc x = doomed_in (lives x) x

pub doomed_stays : (x : Thread) → (doomed x).group ≡ x.group
doomed_stays x = doomed_group (lives x) x

place_at_index : (threads : List Thread) (i j : ℕ) → place_in (slice_get (changed doomed threads i) j) ≡ place_in (slice_get threads j)
place_at_index [] i j = refl
place_at_index (x ∷ xs) zero zero = doomed_place x
place_at_index (x ∷ xs) zero (suc j) = refl
place_at_index (x ∷ xs) (suc i) zero = refl
place_at_index (x ∷ xs) (suc i) (suc j) = place_at_index xs i j

place_left : (threads : List Thread) (i t : ℕ) → place_of (changed doomed threads i) t ≡ place_of threads t
place_left threads i zero = refl
place_left threads i (suc j) = rw (by_id_suc (changed doomed threads i) j, by_id_suc threads j) (place_at_index threads i j)

runs_left : (p : ℕ) → (threads : List Thread) (i : ℕ) → times (runs_in p) (changed doomed threads i) ≡ times (runs_in p) threads
runs_left p [] i = refl
runs_left p (x ∷ xs) zero = rw (doomed_proc x, doomed_place x) refl
runs_left p (x ∷ xs) (suc i) = ap (λ n. cond (runs_in p x) 1 0 + n) (runs_left p xs i)

-- the state with a marked thread is fit
pub marked_fit : (t : ℕ) (s : State) → IsFit s → IsFit (marked t s)
marked_fit t s fit =
    record {
      stand = record {
        in_line = λ u. fit.stand.in_line u ∙ ap times_in_line (sym (place_left s.threads (t - 1) u));
        in_waits = λ u. fit.stand.in_waits u ∙ ap times_in_waits (sym (place_left s.threads (t - 1) u));
        one_runs = λ p. let same = runs_left p s.threads (t - 1) in let one = fit.stand.one_runs p in omega (arith, same, one);
      };
      kinds = fit.kinds;
      held = λ p.
          let same = holders_changed doomed doomed_proc p s.threads (t - 1) (lock_waiters s.waits) in
          let runs = runs_left p s.threads (t - 1) in
          let one = fit.held p in
          omega (arith, same, runs, one);
    }

ended_at : (pl : Stand) → place_at pl ≡ place.Ended → is_ended pl ≡ true
ended_at stand.Ended h = refl
ended_at stand.Running h = absurd (cc h)
ended_at stand.New h = absurd (cc h)
ended_at (stand.Ready a) h = absurd (cc h)
ended_at stand.Waiting h = absurd (cc h)

unmarked : (threads : List Thread) (i : ℕ) → sched_place (slice_get threads i) ≡ place.Ended → changed doomed threads i ≡ threads
unmarked [] i h = refl
unmarked (x ∷ xs) zero h = rw (ended_at x.place h) refl
unmarked (x ∷ xs) (suc i) h = ap (λ ys. x ∷ ys) (unmarked xs i h)

unmarked_id : (threads : List Thread) (t : ℕ) → 1 ≤ t → sched_place (by_id threads t) ≡ place.Ended → changed doomed threads (t - 1) ≡ threads
unmarked_id threads zero h e = absurd (omega arith)
unmarked_id threads (suc i) h e = rw before (unmarked threads i (rw by_id_suc at e))
  where
    before : (suc i) - 1 ≡ i
    before = omega arith

-- where thread t has ended nothing changes
pub marks_none : (t : ℕ) (sched : Schedule) → IsMade t sched → sched_place (by_id sched.threads t) ≡ place.Ended → Tracks (marked t) sched sched
marks_none t sched made ended places s h =
    let same : changed doomed s.threads (t - 1) ≡ s.threads = rw h.threads (unmarked_id sched.threads t made.from ended) in
    rw same h
