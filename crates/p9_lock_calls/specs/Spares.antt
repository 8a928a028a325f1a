-- The memory that a request on locks needs.
use Rattle.std.specs.Prelude.{◌≡◌, ◌≤◌, true, [], length}
use Rattle.p9_word.specs.declared.request.LockReq.{LockReq}
use Rattle.p9_word.specs.declared.request.LockReq.TheVariants as ask
use Rattle.p9_lock.specs.Locking.{Locking}
use Rattle.p9_lock_calls.specs.declared.memory.Spare.{Spare}
use Rattle.p9_lock_calls.specs.declared.memory.Spare.TheVariants.{Nothing, Woken}

-- the spare has room for all threads that wait, since each of them may be woken
abbrev pub HasRoom : Spare → Locking → Type 0
HasRoom (Woken room) locks = (room.items ≡ []) × (length locks.waits ≤ room.spare)
HasRoom Nothing locks = ⊥

-- there is memory for the request: for one more thread that waits or holds a lock; and for those that are woken where one is given up
abbrev pub IsSpare : LockReq → Spare → Locking → Type 0
IsSpare (ask.Rendezvous tag value) spare locks = locks.room ≡ true
IsSpare (ask.Lock k) spare locks = locks.room ≡ true
IsSpare (ask.CanLock k) spare locks = locks.room ≡ true
IsSpare (ask.Unlock k) spare locks = HasRoom spare locks
IsSpare (ask.QLock k) spare locks = locks.room ≡ true
IsSpare (ask.CanQLock k) spare locks = locks.room ≡ true
IsSpare (ask.QUnlock k) spare locks = HasRoom spare locks
IsSpare (ask.RLock k) spare locks = locks.room ≡ true
IsSpare (ask.CanRLock k) spare locks = locks.room ≡ true
IsSpare (ask.RUnlock k) spare locks = HasRoom spare locks
IsSpare (ask.WLock k) spare locks = locks.room ≡ true
IsSpare (ask.CanWLock k) spare locks = locks.room ≡ true
IsSpare (ask.WUnlock k) spare locks = HasRoom spare locks
IsSpare (ask.RSleep r) spare locks = (locks.room ≡ true) × HasRoom spare locks
IsSpare (ask.RWakeup r) spare locks = Unit {0}
IsSpare (ask.RWakeupAll r) spare locks = Unit {0}
IsSpare (ask.IncRef k) spare locks = Unit {0}
IsSpare (ask.DecRef k) spare locks = Unit {0}
