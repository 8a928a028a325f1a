-- What a request on locks comes to.
use Rattle.std.specs.Prelude.{ℕ, ◌≡◌, true}
use Rattle.p9_word.specs.declared.request.LockReq.{LockReq}
use Rattle.p9_word.specs.declared.setup.Setup.{Setup}
use Rattle.p9_word.specs.declared.trail.Reply.{Reply}
use Rattle.p9_manual.specs.Locks.{lock_call}
use Rattle.p9_manual.specs.Offers.{parties}
use Rattle.p9_manual.specs.Sound.{IsSound}
use Rattle.p9_manual.specs.State.{State, Outcome}
use Rattle.p9_manual.specs.Step.{makes_entry}
use Rattle.p9_lock.specs.Locking.{Locking}
use Rattle.p9_lock.specs.Stands.{LocksFor}
use Rattle.p9_sched.specs.Schedule.{Schedule}
use Rattle.p9_sched.specs.Stands.{SchedFor}

-- the threads and the locks stand for a sound state of a setup
pub record IsAt (setup : Setup) (sched : Schedule) (locks : Locking) (s : State) : Type 0 where
  pub threads : SchedFor setup.places sched s
  pub locked : LocksFor setup.rendezes locks s
  pub sound : IsSound setup s

-- there is such a state, of some setup
abbrev pub Stands : Schedule → Locking → Type 0
Stands sched locks = (setup : Setup) × (s : State) × IsAt setup sched locks s

-- of a state all stays but the threads, their line, the waits that are in no alt, and who holds the locks
pub record Leaves (s n : State) : Type 0 where
  pub same : n ≡ record s { threads = n.threads; line = n.line; waits = n.waits; holds = n.holds }
  pub alts : parties n.waits ≡ parties s.waits

-- the reply is that of the outcome and makes an entry, the threads and the locks stand for the state after it, and the rest stays
pub record Serves (setup : Setup) (s : State) (o : Outcome) (reply : Reply) (sched : Schedule) (locks : Locking) : Type 0 where
  pub reply_is : reply ≡ o.reply
  pub threads : SchedFor setup.places sched o.state
  pub locked : LocksFor setup.rendezes locks o.state
  pub leaves : Leaves s o.state
  pub entry : makes_entry reply ≡ true

-- whatever sound state the old parts stood for, they serve this request of thread t in it
pub record ServesRequest (t : ℕ) (r : LockReq) (old_sched : Schedule) (old : Locking) (reply : Reply) (sched : Schedule) (new : Locking) : Type 0 where
  pub serves : (setup : Setup) (s : State) → IsAt setup old_sched old s → Serves setup s (lock_call setup t r s) reply sched new
