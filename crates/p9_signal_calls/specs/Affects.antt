-- What interrupts and kills do to the threads, the alts and the locks.
use Rattle.std.specs.Prelude.{ℕ, ◌≡◌, ◌&&◌, Bool, false, Option, Some, None, nat_le, nat_lt}
use Rattle.std.specs.List.{find, list_any}
use Rattle.p9_word.specs.declared.setup.Setup.{Setup}
use Rattle.p9_manual.specs.declared.locks.LockWait.{LockWait}
use Rattle.p9_manual.specs.Interrupt.{Interruption, interrupt, kill}
use Rattle.p9_manual.specs.NoteCalls.{interrupted, meets_in}
use Rattle.p9_manual.specs.Places.{lives_in}
use Rattle.p9_manual.specs.State.{State}
use Rattle.p9_alt.specs.Exchange.{Exchange}
use Rattle.p9_alt.specs.For.{AltsFor}
use Rattle.p9_lock.specs.Locking.{Locking}
use Rattle.p9_lock.specs.Meetings.{is_tag}
use Rattle.p9_lock.specs.Stands.{LocksFor}
use Rattle.p9_sched.specs.Schedule.{Schedule}
use Rattle.p9_sched.specs.Stands.{SchedFor}
use Rattle.p9_signal_calls.specs.Fit.{IsFit}
use Rattle.p9_signal_calls.specs.declared.interrupts.Signal.{Signal}
use Rattle.p9_signal_calls.specs.declared.interrupts.Signal.TheVariants as signal

-- the threads, the alts and the locks stand for those of a state
pub record PartsFor (setup : Setup) (sched : Schedule) (exchange : Exchange) (locking : Locking) (s : State) : Type 0 where
  pub threads : SchedFor setup.places sched s
  pub alts : AltsFor exchange s
  pub locks : LocksFor setup.rendezes locking s

-- so many waits were ended, and the parts stand for the state after it
pub record IsDone (setup : Setup) (i : Interruption) (count : ℕ) (sched : Schedule) (alts : Exchange) (locks : Locking) : Type 0 where
  pub count_is : count ≡ i.count
  pub parts : PartsFor setup sched alts locks i.state
  pub fit : IsFit i.state

-- whatever fit state the old parts stood for, what f makes of it was done
abbrev pub Does : (State → Interruption) → Schedule → Exchange → Locking → ℕ → Schedule → Exchange → Locking → Type 0
Does f old_sched old_alts old_locks count sched alts locks =
    (setup : Setup) (s : State) → PartsFor setup old_sched old_alts old_locks s → IsFit s → IsDone setup (f s) count sched alts locks

-- what is done to a thread
abbrev pub effect : Signal → ℕ → State → Interruption
effect signal.Interrupt t s = interrupt t s
effect signal.Kill t s = kill t s

-- it is a wait with a tag
abbrev pub is_meeting_wait : Option LockWait → Bool
is_meeting_wait None = false
is_meeting_wait (Some what) = is_tag what

-- proc p is open, and a thread of it lives
abbrev pub is_alive_in : ℕ → Schedule → Bool
is_alive_in p sched = nat_lt 0 p && (nat_le p sched.opened && list_any (lives_in p) sched.threads)

-- whatever fit state the old parts stood for, the new ones stand for it once the thread of proc p that waits in a rendezvous, if one does,
-- is interrupted
abbrev pub WakesMeeting : ℕ → Schedule → Exchange → Locking → Schedule → Exchange → Locking → Type 0
WakesMeeting p old_sched old_alts old_locks sched alts locks =
    (setup : Setup) (s : State) → PartsFor setup old_sched old_alts old_locks s → IsFit s
    → PartsFor setup sched alts locks (interrupted (find (meets_in p s.threads) s.waits) s)
