-- The requests on Rendezes. rsleep, rwakeup and rwakeupall in lock(2).
use Rattle.std.specs.Prelude.{ℕ, ◌++◌, [], ◌∷◌, not, Bool, List, Option, Some, None, map, length, unwrap_or, if◌then◌else◌}
use Rattle.std.specs.List.{filter, find, list_any}
use Rattle.p9_word.specs.declared.answer.Answer.TheVariants.{Number}
use Rattle.p9_word.specs.declared.request.LockReq.TheVariants as ask
use Rattle.p9_word.specs.declared.request.Request.TheVariants.{Lock as LockRequest}
use Rattle.p9_word.specs.declared.setup.Setup.{Setup}
use Rattle.p9_manual.specs.declared.locks.Sort.TheVariants as sort
use Rattle.p9_manual.specs.declared.locks.LockWait.TheVariants as wait
use Rattle.p9_manual.specs.declared.state.Waiter.{Waiter}
use Rattle.p9_manual.specs.Claims.{has_lock}
use Rattle.p9_manual.specs.LockCalls.{with_grant}
use Rattle.p9_manual.specs.LockWaits.{lock_waiter_of, lock_waiters}
use Rattle.p9_manual.specs.Queues.{waits_for, without_first}
use Rattle.p9_manual.specs.Rendez.{sleep, count_woken, sleepers}
use Rattle.p9_manual.specs.State.{State, Outcome, by_id, bad, now, waiting}

-- the QLock of Rendez r; no QLock is number 0
abbrev pub qlock_of : ℕ → List ℕ → ℕ
qlock_of r rendezes = unwrap_or (by_id rendezes r) 0

-- thread t holds the QLock of Rendez r, as each of these requests needs
abbrev pub may_call : Setup → ℕ → ℕ → State → Bool
may_call setup t r s = has_lock sort.QLock t (qlock_of r setup.rendezes) s.holds

-- rsleep of thread t at Rendez r: who is granted the QLock goes on, and t waits
abbrev pub sleep_at : Setup → ℕ → ℕ → State → Outcome
sleep_at setup t r s =
    if may_call setup t r s
    then waiting t (LockRequest (ask.RSleep r)) (with_grant (sleep t r (qlock_of r setup.rendezes) s.holds (lock_waiters s.waits)) s)
    else bad s

-- the thread sleeps at Rendez r
abbrev pub sleeps_at : ℕ → Waiter → Bool
sleeps_at r w = list_any (waits_for (wait.Sleep r)) (lock_waiter_of w)

-- the thread, as one that waits for QLock q
abbrev pub for_qlock : ℕ → Waiter → Waiter
for_qlock q w = record w { request = LockRequest (ask.QLock q) }

-- the first sleeper, if there is one, leaves its place and stands behind all others, as a thread that waits for QLock q. It
-- keeps the position of its call
abbrev pub first_moved : ℕ → ℕ → Option Waiter → List Waiter → List Waiter
first_moved r q None waits = waits
first_moved r q (Some w) waits = without_first (sleeps_at r) waits ++ for_qlock q w ∷ []

-- rwakeup: the thread that has slept longest is moved so
abbrev pub wake_first : Setup → ℕ → ℕ → State → Outcome
wake_first setup t r s =
    if may_call setup t r s
    then now (Number (count_woken r (lock_waiters s.waits)))
    (record s { waits = first_moved r (qlock_of r setup.rendezes) (find (sleeps_at r) s.waits) s.waits })
    else bad s

-- all sleepers are moved so, in order
abbrev pub all_moved : ℕ → ℕ → List Waiter → List Waiter
all_moved r q waits = filter (λ w. not (sleeps_at r w)) waits ++ map (for_qlock q) (filter (sleeps_at r) waits)

-- rwakeupall
abbrev pub wake_sleepers : Setup → ℕ → ℕ → State → Outcome
wake_sleepers setup t r s =
    if may_call setup t r s
    then now (Number (length (sleepers r (lock_waiters s.waits)))) (record s { waits = all_moved r (qlock_of r setup.rendezes) s.waits })
    else bad s
