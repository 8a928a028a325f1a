-- What a request on interrupts and notes comes to.
use Rattle.std.specs.Prelude.{◌≡◌, true, List}
use Rattle.p9_word.specs.declared.setup.Setup.{Setup}
use Rattle.p9_word.specs.declared.trail.Reply.{Reply}
use Rattle.p9_manual.specs.Sound.{IsSound}
use Rattle.p9_manual.specs.State.{State, Outcome}
use Rattle.p9_manual.specs.Step.{makes_entry}
use Rattle.p9_alt.specs.Exchange.{Exchange}
use Rattle.p9_alt.specs.For.{AltsFor}
use Rattle.p9_lock.specs.Locking.{Locking}
use Rattle.p9_lock.specs.Stands.{LocksFor}
use Rattle.p9_note.specs.For.{NotesFor}
use Rattle.p9_note.specs.ProcNotes.{ProcNotes}
use Rattle.p9_sched.specs.Schedule.{Schedule}
use Rattle.p9_sched.specs.Stands.{SchedFor}

-- the threads, the alts, the locks and the notes stand for those of a state
pub record StandFor (setup : Setup) (sched : Schedule) (exchange : Exchange) (locking : Locking) (noted : List ProcNotes) (s : State) : Type 0 where
  pub threads : SchedFor setup.places sched s
  pub alts : AltsFor exchange s
  pub locks : LocksFor setup.rendezes locking s
  pub notes : NotesFor setup.places noted s

-- they stand so for a sound state of some setup
abbrev pub Stands : Schedule → Exchange → Locking → List ProcNotes → Type 0
Stands sched alts locks notes = (setup : Setup) × (s : State) × (StandFor setup sched alts locks notes s × IsSound setup s)

-- the reply is that of the outcome and makes an entry, the parts stand for the state after it, and of that state all but the
-- threads, their line, the waits and the notes of the procs is as before
pub record Serves (setup : Setup) (s : State) (o : Outcome) (reply : Reply) (sched : Schedule) (alts : Exchange) (locks : Locking) (notes : List ProcNotes) : Type 0 where
  pub reply_is : reply ≡ o.reply
  pub stands : StandFor setup sched alts locks notes o.state
  pub leaves : o.state ≡ record s { threads = o.state.threads; line = o.state.line; waits = o.state.waits; procs = o.state.procs }
  pub entry : makes_entry reply ≡ true

-- whatever sound state the old parts stood for, they serve what f makes of it
pub record ServesAll (f : State → Outcome) (old_sched : Schedule) (old_alts : Exchange) (old_locks : Locking) (old_notes : List ProcNotes) (reply : Reply) (sched : Schedule) (alts : Exchange) (locks : Locking) (notes : List ProcNotes) : Type 0 where
  pub serves : (setup : Setup) (s : State) → StandFor setup old_sched old_alts old_locks old_notes s → IsSound setup s
      → Serves setup s (f s) reply sched alts locks notes
