-- A thread that runs waits nowhere.
use Rattle.std.proofs.Common.{◌≡◌, ℕ, ◌+◌, Bool, true, false, cond, eqb, List, [], ◌∷◌, Option, Some, None, refl, ap, sym, ◌∙◌, arith}
use Rattle.std.specs.List.{find}
use Rattle.std.specs.Option.{option_map}
use Rattle.p9_word.specs.declared.setup.Setup.{Setup}
use Rattle.p9_manual.specs.declared.locks.LockWaiter.{LockWaiter}
use Rattle.p9_manual.specs.declared.state.Place.{Place as Stand}
use Rattle.p9_manual.specs.declared.state.Place.TheVariants as stand
use Rattle.p9_manual.specs.declared.state.Thread.{Thread}
use Rattle.p9_manual.specs.Standing.{times, times_in_waits, place_in, place_of as stand_of}
use Rattle.p9_manual.specs.State.{State, by_id}
use Rattle.p9_lock.specs.Locking.{Locking, IsIdle}
use Rattle.p9_sched.specs.Schedule.{Schedule}
use Rattle.p9_sched.specs.Turns.{place_at, place_of}
use Rattle.p9_sched.specs.declared.turns.Place.TheVariants as place
use Rattle.p9_lock_calls.specs.Serves.{IsAt, Stands}
use Rattle.p9_lock_calls.proofs.Grants.{is_tid, times_waiters}

runs_at : (pl : Stand) → place_at pl ≡ place.Running → pl ≡ stand.Running
runs_at stand.Running h = refl
runs_at stand.New h = absurd (cc h)
runs_at (stand.Ready a) h = absurd (cc h)
runs_at stand.Waiting h = absurd (cc h)
runs_at stand.Ended h = absurd (cc h)

runs_in : (o : Option Thread) → place_of o ≡ place.Running → place_in o ≡ stand.Running
runs_in None h = absurd (cc h)
runs_in (Some thread) h = runs_at thread.place h

-- it stands nowhere in the waits
pub runs_alone : (setup : Setup) (sched : Schedule) (locks : Locking) (s : State) (t : ℕ) → IsAt setup sched locks s → place_of (by_id sched.threads t) ≡ place.Running → times (λ w. eqb w.tid t) s.waits ≡ 0
runs_alone setup sched locks s t h runs =
    let there : place_in (by_id sched.threads t) ≡ stand.Running = runs_in (by_id sched.threads t) runs in
    h.sound.stand.in_waits t ∙ ap (λ (ts : List Thread). times_in_waits (stand_of ts t)) h.threads.threads ∙ ap times_in_waits there

idle_step : (b : Bool) (t : ℕ) (w : LockWaiter) (ws : List LockWaiter) → eqb w.tid t ≡ b → cond b 1 0 + times (is_tid t) ws ≡ 0 → (times (is_tid t) ws ≡ 0 → find (λ x. eqb x.tid t) ws ≡ None) → cond b (Some w) (find (λ x. eqb x.tid t) ws) ≡ None
idle_step true t w ws e h k = absurd (omega arith)
idle_step false t w ws e h k = k (omega arith)

not_found : (t : ℕ) → (ws : List LockWaiter) → times (is_tid t) ws ≡ 0 → find (λ x. eqb x.tid t) ws ≡ None
not_found t [] h = refl
not_found t (w ∷ ws) h = idle_step (eqb w.tid t) t w ws refl h (not_found t ws)

idle_at : (setup : Setup) (sched : Schedule) (locks : Locking) (s : State) (t : ℕ) → IsAt setup sched locks s → place_of (by_id sched.threads t) ≡ place.Running → IsIdle t locks
idle_at setup sched locks s t h runs =
    let none = runs_alone setup sched locks s t h runs in
    let few = times_waiters t s.waits in
    let here : times (is_tid t) locks.waits ≡ 0 = ap (times (is_tid t)) (sym h.locked.waits) ∙ omega (arith, none, few) in
    ap (option_map (λ (w : LockWaiter). w.what)) (not_found t locks.waits here)

-- so it waits at no lock
pub idle : (sched : Schedule) (locks : Locking) (t : ℕ) → Stands sched locks → place_of (by_id sched.threads t) ≡ place.Running → IsIdle t locks
idle sched locks t parts runs = idle_at parts.0 sched locks parts.1 t parts.2 runs
