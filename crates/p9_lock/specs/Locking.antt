-- What callers see of the locks and of the threads that wait at them, and what each call changes. lock(2), rendezvous(2).
use Rattle.std.specs.List.{filter}
use Rattle.std.specs.Prelude.{ℕ, ◌≡◌, Bool, false, not, List, [], Option, Some, None, replicate, length, IsSome}
use Rattle.p9_word.specs.Setup.{IsBetween}
use Rattle.p9_manual.specs.declared.locks.Sort.{Sort}
use Rattle.p9_manual.specs.declared.locks.Sort.TheVariants as sort
use Rattle.p9_manual.specs.declared.locks.LockWaiter.{LockWaiter}
use Rattle.p9_manual.specs.Holds.{Holds}
use Rattle.p9_manual.specs.Claims.{Claim, rw_at}
use Rattle.p9_manual.specs.Queues.{writer_first}
use Rattle.p9_manual.specs.Unlocks.{Grant, rw_passed}
use Rattle.p9_manual.specs.Refs.{with_value}
use Rattle.p9_manual.specs.RendezCalls.{qlock_of as qlock_at}
use Rattle.p9_manual.specs.State.{by_id}
use Rattle.p9_lock.specs.Waiting.{others, wait_of}
use Rattle.p9_lock.specs.declared.meet.Meet.{Meet}
use Rattle.p9_lock.specs.declared.meet.Meet.TheVariants.{Met, Waits}

-- who holds the locks, and what the Refs have; the QLock of each Rendez; the threads that wait, in the order in which they came;
-- and whether there is memory for one more that waits and one more reader
pub record Locking : Type 0 where
  pub holds : Holds
  pub rendezes : List ℕ
  pub waits : List LockWaiter
  pub room : Bool

-- so many locks of each sort, none of which is held, and Refs with these values
abbrev pub begin_holds : ℕ → ℕ → ℕ → List ℕ → Holds
begin_holds locks qlocks rwlocks refs =
    record {
      locks = replicate locks None;
      qlocks = replicate qlocks None;
      rwlocks = replicate rwlocks (record { writer = None; readers = [] });
      refs = refs;
    }

-- so many locks and these Rendezes and Refs, and nobody waits
abbrev pub begin_locking : ℕ → ℕ → ℕ → List ℕ → List ℕ → Locking
begin_locking locks qlocks rwlocks rendezes refs =
    record { holds = begin_holds locks qlocks rwlocks refs; rendezes = rendezes; waits = []; room = false }

-- there is a lock of this sort with number k
abbrev pub IsLock : Sort → ℕ → Locking → Type 0
IsLock sort.Lock k x = IsSome (by_id x.holds.locks k)
IsLock sort.QLock k x = IsSome (by_id x.holds.qlocks k)
IsLock sort.Read k x = IsSome (by_id x.holds.rwlocks k)
IsLock sort.Write k x = IsSome (by_id x.holds.rwlocks k)

-- thread t doesn't wait here
abbrev pub IsIdle : ℕ → Locking → Type 0
IsIdle t x = wait_of t x.waits ≡ None

-- after a request for a lock, which uses up the memory at hand
abbrev pub claimed : Claim → Locking → Locking
claimed c x = record x { holds = c.holds; waits = c.waits; room = false }

-- after an unlock
abbrev pub granted : Grant → Locking → Locking
granted g x = record x { holds = g.holds; waits = g.waits }

-- RWLock k is given up by the last that held it
abbrev pub passed_on : ℕ → Locking → Grant
passed_on k x = rw_passed k (rw_at k x.holds).readers (writer_first k x.waits) x.holds x.waits

-- after an rsleep, whose caller waits in the memory at hand
abbrev pub slept : Grant → Locking → Locking
slept g x = record x { holds = g.holds; waits = g.waits; room = false }

-- thread t waits no more: the others wait as before, and nobody is granted a lock
abbrev pub left_by : ℕ → Locking → Locking
left_by t x = record x { waits = others t x.waits }

-- these threads wait no more: the others wait as before, and nobody is granted a lock
abbrev pub left_where : (ℕ → Bool) → Locking → Locking
left_where ends x = record x { waits = filter (λ w. not (ends w.tid)) x.waits }

-- the QLock of Rendez r; no QLock is number 0
abbrev pub qlock_of : ℕ → Locking → ℕ
qlock_of r x = qlock_at r x.rendezes

-- what one who comes with a tag is told
abbrev pub meet_of : Option LockWaiter → Meet
meet_of (Some w) = Met w.tid w.value
meet_of None = Waits

-- Ref x is there. They count from 1
abbrev pub IsRef : ℕ → Locking → Type 0
IsRef x l = IsBetween 1 (length l.holds.refs) x

-- the value of a Ref that is there
abbrev pub value_in : Option ℕ → ℕ
value_in (Some value) = value
value_in None = 0

-- Ref x has this value
abbrev pub with_ref : ℕ → ℕ → Locking → Locking
with_ref x value l = record l { holds = with_value x value l.holds }
