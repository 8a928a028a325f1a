-- Threads that are woken, and by which requests locks of each sort are asked for and given up.
use Rattle.std.specs.Prelude.{ℕ, ◌==◌, ◌+◌, ◌≤◌, ◌≡◌, List, true, false}
use Rattle.p9_word.specs.declared.request.LockReq.{LockReq}
use Rattle.p9_word.specs.declared.request.LockReq.TheVariants as ask
use Rattle.p9_manual.specs.declared.locks.Sort.{Sort}
use Rattle.p9_manual.specs.declared.locks.Sort.TheVariants as sort
use Rattle.p9_manual.specs.declared.state.Thread.{Thread}
use Rattle.p9_manual.specs.Held.{holds_in}
use Rattle.p9_manual.specs.LockCalls.{all_granted}
use Rattle.p9_manual.specs.LockWaits.{is_holding, lock_waiters}
use Rattle.p9_manual.specs.Places.{runs_in}
use Rattle.p9_manual.specs.Standing.{StandOnce, times, times_in_waits, place_of}
use Rattle.p9_manual.specs.State.{State, by_id}
use Rattle.p9_sched.specs.Schedule.{Schedule}
use Rattle.p9_sched.specs.Stands.{SchedFor}
use Rattle.p9_sched.specs.Turns.{place_of as sched_place}
use Rattle.p9_sched.specs.declared.turns.Place.TheVariants as running

-- the request for lock k of a sort, that for it where it can be had at once, and that which gives it up
abbrev pub ask_for : Sort → ℕ → LockReq
ask_for sort.Lock k = ask.Lock k
ask_for sort.QLock k = ask.QLock k
ask_for sort.Read k = ask.RLock k
ask_for sort.Write k = ask.WLock k

abbrev pub try_for : Sort → ℕ → LockReq
try_for sort.Lock k = ask.CanLock k
try_for sort.QLock k = ask.CanQLock k
try_for sort.Read k = ask.CanRLock k
try_for sort.Write k = ask.CanWLock k

abbrev pub give_up : Sort → ℕ → LockReq
give_up sort.Lock k = ask.Unlock k
give_up sort.QLock k = ask.QUnlock k
give_up sort.Read k = ask.RUnlock k
give_up sort.Write k = ask.WUnlock k

-- each of these threads waits, and none is there twice
pub record AreWaiting (threads : List Thread) (ts : List ℕ) : Type 0 where
  pub wait : (t : ℕ) → times (λ u. u == t) ts ≤ times_in_waits (place_of threads t)

-- a thread that ran runs on
abbrev pub StillRuns : List Thread → List Thread → Type 0
StillRuns old new = (t : ℕ) → sched_place (by_id old t) ≡ running.Running → sched_place (by_id new t) ≡ running.Running

-- none of these threads holds its proc
abbrev pub AreBeside : List ℕ → State → Type 0
AreBeside ts s = (t : ℕ) → 1 ≤ times (λ u. u == t) ts → is_holding t (lock_waiters s.waits) ≡ false

-- these threads, none of which holds its proc, are woken in this order
abbrev pub TracksGranted : List ℕ → Schedule → Schedule → Type 0
TracksGranted ts old new = (places : ℕ) (s : State) → AreBeside ts s → SchedFor places old s → SchedFor places new (all_granted ts s)

-- these threads are woken in this order: each holds its proc, as no other thread does
abbrev pub TracksHolder : List ℕ → Schedule → Schedule → Type 0
TracksHolder ts old new =
    (places : ℕ) (s : State) → StandOnce s.threads s.line s.waits → ((t : ℕ) → 1 ≤ times (λ u. u == t) ts → is_holding t (lock_waiters s.waits) ≡ true)
    → ((p : ℕ) → times (holds_in s.threads p) (lock_waiters s.waits) + times (runs_in p) s.threads ≤ 1) → SchedFor places old s → SchedFor places new (all_granted ts s)
