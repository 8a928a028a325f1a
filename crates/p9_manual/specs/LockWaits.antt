-- What threads wait for at locks, at Rendezes and with tags, read off the requests in which they wait; and which of them hold
-- their proc. lock(2), rendezvous(2).
use Rattle.std.specs.Prelude.{ℕ, ◌==◌, ◌&&◌, ◌++◌, Bool, true, false, List, [], ◌∷◌, Option, Some, None, if◌then◌else◌}
use Rattle.std.specs.List.{flat_map, list_any}
use Rattle.p9_word.specs.declared.request.Request.{Request}
use Rattle.p9_word.specs.declared.request.Request.TheVariants.{Thread as ThreadRequest, Signal as SignalRequest, Chan as ChanRequest, Lock as LockRequest, Io as IoRequest}
use Rattle.p9_word.specs.declared.request.LockReq.{LockReq}
use Rattle.p9_word.specs.declared.request.LockReq.TheVariants as ask
use Rattle.p9_manual.specs.declared.locks.Sort.TheVariants as sort
use Rattle.p9_manual.specs.declared.locks.LockWait.{LockWait}
use Rattle.p9_manual.specs.declared.locks.LockWait.TheVariants as wait
use Rattle.p9_manual.specs.declared.locks.LockWaiter.{LockWaiter}
use Rattle.p9_manual.specs.declared.state.Waiter.{Waiter}

-- what a request waits for where it waits, and the value that it brings; the others never wait
abbrev pub wait_for : LockReq → Option (LockWait × ℕ)
wait_for (ask.Rendezvous tag value) = Some (wait.Tag tag, value)
wait_for (ask.Lock k) = Some (wait.Lock sort.Lock k, 0)
wait_for (ask.QLock k) = Some (wait.Lock sort.QLock k, 0)
wait_for (ask.RLock k) = Some (wait.Lock sort.Read k, 0)
wait_for (ask.WLock k) = Some (wait.Lock sort.Write k, 0)
wait_for (ask.RSleep r) = Some (wait.Sleep r, 0)
wait_for (ask.CanLock k) = None
wait_for (ask.Unlock k) = None
wait_for (ask.CanQLock k) = None
wait_for (ask.QUnlock k) = None
wait_for (ask.CanRLock k) = None
wait_for (ask.RUnlock k) = None
wait_for (ask.CanWLock k) = None
wait_for (ask.WUnlock k) = None
wait_for (ask.RWakeup r) = None
wait_for (ask.RWakeupAll r) = None
wait_for (ask.IncRef k) = None
wait_for (ask.DecRef k) = None

-- the same of any request
abbrev pub lock_wait_of : Request → Option (LockWait × ℕ)
lock_wait_of (LockRequest r) = wait_for r
lock_wait_of (ThreadRequest r) = None
lock_wait_of (SignalRequest r) = None
lock_wait_of (ChanRequest r) = None
lock_wait_of (IoRequest r) = None

-- the thread, if it waits so
abbrev pub lock_waiter : ℕ → Option (LockWait × ℕ) → List LockWaiter
lock_waiter t None = []
lock_waiter t (Some (what, value)) = record { tid = t; what = what; value = value } ∷ []

abbrev pub lock_waiter_of : Waiter → List LockWaiter
lock_waiter_of w = lock_waiter w.tid (lock_wait_of w.request)

-- the threads that wait so, in the order of the waits
abbrev pub lock_waiters : List Waiter → List LockWaiter
lock_waiters waits = flat_map lock_waiter_of waits

-- who waits in a rendezvous or for a Lock holds its whole proc: no thread of it runs
abbrev pub holds_proc : LockWait → Bool
holds_proc (wait.Tag tag) = true
holds_proc (wait.Lock sort.Lock k) = true
holds_proc (wait.Lock sort.QLock k) = false
holds_proc (wait.Lock sort.Read k) = false
holds_proc (wait.Lock sort.Write k) = false
holds_proc (wait.Sleep r) = false

-- thread t waits so
abbrev pub is_holding : ℕ → List LockWaiter → Bool
is_holding t waits = list_any (λ w. (w.tid == t) && holds_proc w.what) waits

-- the line with a thread that was woken: first where its wait held its proc, and else last
abbrev pub lined : Bool → ℕ → List ℕ → List ℕ
lined held t line = if held then t ∷ line else line ++ t ∷ []
