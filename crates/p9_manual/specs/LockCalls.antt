-- The requests on Locks, QLocks and RWLocks, which the rules on claims and unlocks decide. lock(2).
use Rattle.std.specs.Prelude.{ℕ, Bool, List, [], ◌∷◌, if◌then◌else◌}
use Rattle.std.specs.Option.{is_some}
use Rattle.p9_word.specs.declared.answer.Answer.TheVariants.{Done, Number}
use Rattle.p9_word.specs.declared.request.LockReq.{LockReq}
use Rattle.p9_word.specs.declared.request.Request.TheVariants.{Lock as LockRequest}
use Rattle.p9_manual.specs.declared.locks.Sort.{Sort}
use Rattle.p9_manual.specs.declared.locks.Sort.TheVariants as sort
use Rattle.p9_manual.specs.Claims.{Claim, claim, attempt, has_lock}
use Rattle.p9_manual.specs.Holds.{Holds}
use Rattle.p9_manual.specs.LockWaits.{lock_waiters}
use Rattle.p9_manual.specs.State.{State, Outcome, by_id, bad, now, done, waiting, wake}
use Rattle.p9_manual.specs.Unlocks.{Grant, release}

-- there is a lock of this sort with number k
abbrev pub is_lock : Sort → ℕ → Holds → Bool
is_lock sort.Lock k h = is_some (by_id h.locks k)
is_lock sort.QLock k h = is_some (by_id h.qlocks k)
is_lock sort.Read k h = is_some (by_id h.rwlocks k)
is_lock sort.Write k h = is_some (by_id h.rwlocks k)

-- the state, where locks are held so
abbrev pub with_holds : Holds → State → State
with_holds h s = record s { holds = h }

-- thread t has got a lock: with a Lock it runs on, and with one of the other sorts it lets others run
abbrev pub got : Sort → ℕ → State → Outcome
got sort.Lock t s = now Done s
got sort.QLock t s = done t Done s
got sort.Read t s = done t Done s
got sort.Write t s = done t Done s

-- what a claim comes to: its caller has got the lock, or waits with its request
abbrev pub taken : Sort → ℕ → LockReq → Claim → State → Outcome
taken s t request c state = if c.got then got s t (with_holds c.holds state) else waiting t (LockRequest request) state

-- lock, qlock, rlock, wlock of lock k by thread t, asked for by this request
abbrev pub take : Sort → ℕ → ℕ → LockReq → State → Outcome
take s t k request state =
    if is_lock s k state.holds then taken s t request (claim s t k state.holds (lock_waiters state.waits)) state else bad state

-- what an attempt comes to: its caller is told whether it got the lock
abbrev pub tried : Claim → State → Outcome
tried c state = if c.got then now (Number 1) (with_holds c.holds state) else now (Number 0) state

-- canlock, canqlock, canrlock, canwlock of lock k by thread t
abbrev pub try : Sort → ℕ → ℕ → State → Outcome
try s t k state =
    if is_lock s k state.holds then tried (attempt s t k state.holds (lock_waiters state.waits)) state else bad state

-- these threads are granted what they waited for, and are woken in this order
abbrev pub all_granted : List ℕ → State → State
all_granted [] s = s
all_granted (t ∷ ts) s = all_granted ts (wake t Done s)

-- a lock was given up: who holds it now, and those that are granted it go on
abbrev pub with_grant : Grant → State → State
with_grant g s = all_granted g.granted (with_holds g.holds s)

-- unlock, qunlock, runlock, wunlock of lock k by thread t, which must hold it so
abbrev pub give_up : Sort → ℕ → ℕ → State → Outcome
give_up s t k state =
    if has_lock s t k state.holds then now Done (with_grant (release s t k state.holds (lock_waiters state.waits)) state) else bad state
