-- The requests on locks, Rendezes, Refs and tags. lock(2), rendezvous(2).
use Rattle.std.specs.Prelude.{ℕ}
use Rattle.p9_word.specs.declared.request.LockReq.{LockReq}
use Rattle.p9_word.specs.declared.request.LockReq.TheVariants as ask
use Rattle.p9_word.specs.declared.setup.Setup.{Setup}
use Rattle.p9_manual.specs.declared.locks.Sort.TheVariants as sort
use Rattle.p9_manual.specs.LockCalls.{take, try, give_up}
use Rattle.p9_manual.specs.MeetCalls.{meet}
use Rattle.p9_manual.specs.Refs.{raise, lower}
use Rattle.p9_manual.specs.RendezCalls.{sleep_at, wake_first, wake_sleepers}
use Rattle.p9_manual.specs.State.{State, Outcome, by_id}

-- a request of thread t on them
unfoldable pub lock_call : Setup → ℕ → LockReq → State → Outcome
lock_call setup t (ask.Rendezvous tag value) s = meet t tag value s
lock_call setup t (ask.Lock k) s = take sort.Lock t k (ask.Lock k) s
lock_call setup t (ask.CanLock k) s = try sort.Lock t k s
lock_call setup t (ask.Unlock k) s = give_up sort.Lock t k s
lock_call setup t (ask.QLock k) s = take sort.QLock t k (ask.QLock k) s
lock_call setup t (ask.CanQLock k) s = try sort.QLock t k s
lock_call setup t (ask.QUnlock k) s = give_up sort.QLock t k s
lock_call setup t (ask.RLock k) s = take sort.Read t k (ask.RLock k) s
lock_call setup t (ask.CanRLock k) s = try sort.Read t k s
lock_call setup t (ask.RUnlock k) s = give_up sort.Read t k s
lock_call setup t (ask.WLock k) s = take sort.Write t k (ask.WLock k) s
lock_call setup t (ask.CanWLock k) s = try sort.Write t k s
lock_call setup t (ask.WUnlock k) s = give_up sort.Write t k s
lock_call setup t (ask.RSleep r) s = sleep_at setup t r s
lock_call setup t (ask.RWakeup r) s = wake_first setup t r s
lock_call setup t (ask.RWakeupAll r) s = wake_sleepers setup t r s
lock_call setup t (ask.IncRef k) s = raise k s (by_id s.holds.refs k)
lock_call setup t (ask.DecRef k) s = lower k s (by_id s.holds.refs k)
