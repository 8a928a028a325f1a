-- What a schedule stands for of a manual's state, and when a call does to the schedule what the manual does to the state.
use Rattle.std.specs.Prelude.{ℕ, ◌≡◌, ◌≤◌, ◌+◌, true, false, List, length, map}
use Rattle.std.specs.List.{filter}
use Rattle.p9_word.specs.declared.request.Request.{Request}
use Rattle.p9_manual.specs.Create.{with_thread}
use Rattle.p9_manual.specs.Held.{holds_in, is_held as state_is_held}
use Rattle.p9_manual.specs.LockWaits.{is_holding, lock_waiter_of, lock_waiters}
use Rattle.p9_manual.specs.Next.{first_ready, next_of}
use Rattle.p9_manual.specs.Places.{is_of, runs_in}
use Rattle.p9_manual.specs.Standing.{StandOnce, times}
use Rattle.p9_manual.specs.State.{State, by_id}
use Rattle.p9_sched.specs.Holding.{is_held}
use Rattle.p9_sched.specs.Schedule.{Schedule, line_of}

-- each proc's line is that proc's part of the line of all ready threads
pub record AreLines (sched : Schedule) (line : List ℕ) : Type 0 where
  pub part : (p : ℕ) → 1 ≤ p → p ≤ length sched.lines → line_of p sched ≡ filter (λ t. is_of p (by_id sched.threads t)) line

-- the procs that are held are those that a waiting thread of theirs holds
pub record AreHeld (sched : Schedule) (s : State) : Type 0 where
  pub held : (p : ℕ) → 1 ≤ p → p ≤ length sched.lines → is_held p sched ≡ state_is_held p s

-- a schedule of so many proc places stands for the threads of a state, the line of all ready threads, the words of the procs,
-- how many are open, and which are held
pub record SchedFor (places : ℕ) (sched : Schedule) (s : State) : Type 0 where
  pub threads : s.threads ≡ sched.threads
  pub lines : AreLines sched s.line
  pub words : map (λ p. p.word) s.procs ≡ sched.words
  pub opened : s.opened ≡ sched.opened
  pub count : length sched.lines ≡ places
  pub held : AreHeld sched s

-- whatever state the old schedule stands for, the new one stands for what f makes of it
abbrev pub Tracks : (State → State) → Schedule → Schedule → Type 0
Tracks f old new = (places : ℕ) (s : State) → SchedFor places old s → SchedFor places new (f s)

-- the same for each state whose line has the ready threads and no others
abbrev pub TracksStanding : (State → State) → Schedule → Schedule → Type 0
TracksStanding f old new =
    (places : ℕ) (s : State) → StandOnce s.threads s.line s.waits → SchedFor places old s → SchedFor places new (f s)

-- the same for each state in which thread t waits, but not so that its proc is held
abbrev pub TracksBeside : ℕ → (State → State) → Schedule → Schedule → Type 0
TracksBeside t f old new =
    (places : ℕ) (s : State) → is_holding t (lock_waiters s.waits) ≡ false → SchedFor places old s → SchedFor places new (f s)

-- the state once proc p was given its next turn
abbrev pub after_next : ℕ → State → State
after_next p s = (next_of s (first_ready p s)).state

-- a request in which a thread waits, but not so that its proc is held; and one in which it is
abbrev pub IsWaitBeside : Request → Type 0
IsWaitBeside r = (t at : ℕ) → is_holding t (lock_waiter_of (record { tid = t; request = r; at = at })) ≡ false

abbrev pub IsWaitHolding : Request → Type 0
IsWaitHolding r = (t at : ℕ) → is_holding t (lock_waiter_of (record { tid = t; request = r; at = at })) ≡ true

-- of each proc at most one thread runs or holds it, and thread t waits so
pub record IsHolder (t : ℕ) (s : State) : Type 0 where
  pub holds : is_holding t (lock_waiters s.waits) ≡ true
  pub alone : (p : ℕ) → times (holds_in s.threads p) (lock_waiters s.waits) + times (runs_in p) s.threads ≤ 1

-- whatever state the old schedule stands for in which thread t holds its proc, the new one stands for what f makes of it
abbrev pub TracksHolder : ℕ → (State → State) → Schedule → Schedule → Type 0
TracksHolder t f old new =
    (places : ℕ) (s : State) → StandOnce s.threads s.line s.waits → IsHolder t s → SchedFor places old s → SchedFor places new (f s)

-- the state with a new thread in the next proc
abbrev pub with_proc_in : ℕ → ℕ → ℕ → State → State
with_proc_in program arg group s = with_thread (s.opened + 1) program arg group (record s { opened = s.opened + 1 })
