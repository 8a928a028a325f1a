-- Interrupts and kills. threadint, threadkill, threadintgrp and threadkillgrp in thread(2).
use Rattle.std.specs.Prelude.{ℕ, suc, ◌+◌, ◌-◌, ◌==◌, ◌&&◌, Bool, true, false, List, [], ◌∷◌, Option, Some, None, if◌then◌else◌}
use Rattle.std.specs.List.{list_any}
use Rattle.p9_word.specs.declared.answer.Answer.TheVariants.{Interrupted, Number}
use Rattle.p9_word.specs.declared.request.Request.{Request}
use Rattle.p9_word.specs.declared.request.Request.TheVariants as ask
use Rattle.p9_manual.specs.declared.locks.LockWait.{LockWait}
use Rattle.p9_manual.specs.declared.locks.LockWait.TheVariants as wait
use Rattle.p9_manual.specs.declared.state.Thread.{Thread}
use Rattle.p9_manual.specs.declared.state.Waiter.{Waiter}
use Rattle.p9_manual.specs.LockWaits.{lock_wait_of}
use Rattle.p9_manual.specs.Places.{lives}
use Rattle.p9_manual.specs.State.{State, Outcome, changed, bad, now, wake}

-- what is waited for at locks is another thread with the same tag
abbrev pub is_meeting : Option (LockWait × ℕ) → Bool
is_meeting (Some (wait.Tag tag, value)) = true
is_meeting (Some (wait.Lock s k, value)) = false
is_meeting (Some (wait.Sleep r, value)) = false
is_meeting None = false

-- the requests whose wait an interrupt ends: those on channels and rendezvous, and no others
abbrev pub can_interrupt : Request → Bool
can_interrupt (ask.Chan r) = true
can_interrupt (ask.Lock r) = is_meeting (lock_wait_of (ask.Lock r))
can_interrupt (ask.Thread r) = false
can_interrupt (ask.Signal r) = false
can_interrupt (ask.Io r) = false

-- thread t waits so that an interrupt ends its wait
abbrev pub is_interruptible : ℕ → List Waiter → Bool
is_interruptible t waits = list_any (λ w. (w.tid == t) && can_interrupt w.request) waits

-- what interrupts come to: how many waits they ended, and the state after them
pub record Interruption : Type 0 where
  pub count : ℕ
  pub state : State

-- an interrupt of thread t ends its wait, if it waits so; on any other thread it has no effect, then or later
abbrev pub interrupt : ℕ → State → Interruption
interrupt t s =
    if is_interruptible t s.waits then record { count = 1; state = wake t Interrupted s } else record { count = 0; state = s }

-- the thread, marked to die
abbrev pub with_mark : Thread → Thread
with_mark thread = record thread { marked = true }

-- the same if it lives; one that has ended stays as it is
abbrev pub doomed : Thread → Thread
doomed thread = if lives thread then with_mark thread else thread

-- the state with thread t marked, if it lives
abbrev pub marked : ℕ → State → State
marked t s = record s { threads = changed doomed s.threads (t - 1) }

-- a kill marks a thread and interrupts it; the thread ends later, at a request that lets others run
abbrev pub kill : ℕ → State → Interruption
kill t s = interrupt t (marked t s)

-- so many waits were ended before
abbrev pub added : ℕ → Interruption → Interruption
added n i = record i { count = n + i.count }

-- each of these threads is interrupted, or killed, in order
abbrev pub each : (ℕ → State → Interruption) → List ℕ → State → Interruption
each signal [] s = record { count = 0; state = s }
each signal (t ∷ ts) s = added (signal t s).count (each signal ts (signal t s).state)

-- the ids of the threads that pass, where the first thread has id n
abbrev pub ids_where : (Thread → Bool) → ℕ → List Thread → List ℕ
ids_where p n [] = []
ids_where p n (x ∷ xs) = if p x then n ∷ ids_where p (suc n) xs else ids_where p (suc n) xs

-- the thread lives and is of this group
abbrev pub is_in_group : ℕ → Thread → Bool
is_in_group group thread = lives thread && thread.group == group

-- the living threads of a group, by rising id
abbrev pub members : ℕ → State → List ℕ
members group s = ids_where (is_in_group group) 1 s.threads

-- the caller is told how many waits were ended, and runs on
abbrev pub told : Interruption → Outcome
told i = now (Number i.count) i.state

-- a thread is interrupted, or killed, if it was made
abbrev pub signal_thread : (ℕ → State → Interruption) → ℕ → State → Option Thread → Outcome
signal_thread signal t s None = bad s
signal_thread signal t s (Some thread) = told (signal t s)

-- each living thread of a group is, in one step
abbrev pub signal_group : (ℕ → State → Interruption) → ℕ → State → Outcome
signal_group signal group s = told (each signal (members group s) s)
