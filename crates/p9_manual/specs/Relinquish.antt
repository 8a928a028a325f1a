-- The requests that relinquish the processor: they let other threads of the proc run. thread(2), lock(2).
use Rattle.std.specs.Prelude.{Bool, true, false, is_some}
use Rattle.p9_word.specs.declared.request.Request.{Request}
use Rattle.p9_word.specs.declared.request.Request.TheVariants.{Thread as ThreadRequest, Signal as SignalRequest, Chan as ChanRequest, Lock as LockRequest, Io as IoRequest}
use Rattle.p9_word.specs.declared.request.ThreadReq.{ThreadReq}
use Rattle.p9_word.specs.declared.request.ThreadReq.TheVariants as thread
use Rattle.p9_word.specs.declared.request.LockReq.{LockReq}
use Rattle.p9_word.specs.declared.request.LockReq.TheVariants as lock
use Rattle.p9_manual.specs.Offers.{alternation}

-- of those on threads
abbrev pub thread_relinquishes : ThreadReq → Bool
thread_relinquishes (thread.ProcCreate program arg) = true
thread_relinquishes (thread.ThreadExits text) = true
thread_relinquishes thread.Yield = true
thread_relinquishes (thread.ThreadCreate program arg) = false
thread_relinquishes (thread.ThreadExitsAll text) = false
thread_relinquishes thread.ThreadId = false
thread_relinquishes (thread.ThreadPid t) = false
thread_relinquishes thread.ThreadGetGrp = false
thread_relinquishes (thread.ThreadSetGrp group) = false
thread_relinquishes (thread.ThreadSetName name) = false
thread_relinquishes thread.ThreadGetName = false
thread_relinquishes thread.ThreadWord = false
thread_relinquishes (thread.ThreadSetWord word) = false
thread_relinquishes thread.ProcWord = false
thread_relinquishes (thread.ProcSetWord word) = false

-- of those on locks
abbrev pub lock_relinquishes : LockReq → Bool
lock_relinquishes (lock.QLock k) = true
lock_relinquishes (lock.RLock k) = true
lock_relinquishes (lock.WLock k) = true
lock_relinquishes (lock.RSleep r) = true
lock_relinquishes (lock.Rendezvous tag value) = false
lock_relinquishes (lock.Lock k) = false
lock_relinquishes (lock.CanLock k) = false
lock_relinquishes (lock.Unlock k) = false
lock_relinquishes (lock.CanQLock k) = false
lock_relinquishes (lock.QUnlock k) = false
lock_relinquishes (lock.CanRLock k) = false
lock_relinquishes (lock.RUnlock k) = false
lock_relinquishes (lock.CanWLock k) = false
lock_relinquishes (lock.WUnlock k) = false
lock_relinquishes (lock.RWakeup r) = false
lock_relinquishes (lock.RWakeupAll r) = false
lock_relinquishes (lock.IncRef k) = false
lock_relinquishes (lock.DecRef k) = false

-- of all: those on channels do that are alts, send and recv among them
abbrev pub relinquishes : Request → Bool
relinquishes (ThreadRequest r) = thread_relinquishes r
relinquishes (SignalRequest r) = false
relinquishes (ChanRequest r) = is_some (alternation r)
relinquishes (LockRequest r) = lock_relinquishes r
relinquishes (IoRequest r) = false
