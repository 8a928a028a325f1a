-- What the parts of a machine that know threads stand for together, and when ending threads does to them what the manual does.
use Rattle.std.specs.Prelude.{ℕ, zero, suc, ◌≡◌, Bool, List, [], ◌∷◌, if◌then◌else◌}
use Rattle.std.specs.List.{list_any}
use Rattle.p9_word.specs.declared.setup.Setup.{Setup}
use Rattle.p9_manual.specs.Sound.{IsSound}
use Rattle.p9_manual.specs.declared.state.Thread.{Thread}
use Rattle.p9_manual.specs.Ends.{with_no_note}
use Rattle.p9_manual.specs.Places.{lives_in}
use Rattle.p9_manual.specs.State.{State, Proc}
use Rattle.p9_alt.specs.Exchange.{Exchange}
use Rattle.p9_alt.specs.For.{AltsFor}
use Rattle.p9_io.specs.Calls.{begun_count}
use Rattle.p9_io.specs.Desks.{Desks}
use Rattle.p9_io.specs.Stands.{IoFor}
use Rattle.p9_lock.specs.Locking.{Locking}
use Rattle.p9_lock.specs.Stands.{LocksFor}
use Rattle.p9_note.specs.For.{NotesFor}
use Rattle.p9_note.specs.ProcNotes.{ProcNotes}
use Rattle.p9_sched.specs.Schedule.{Schedule}
use Rattle.p9_sched.specs.Stands.{SchedFor}

-- the parts stand for the threads, the alts, the locks, the ioprocs and the notes of a state
pub record StandFor (setup : Setup) (sched : Schedule) (exchange : Exchange) (locking : Locking) (desks : Desks) (noted : List ProcNotes) (s : State) : Type 0 where
  pub threads : SchedFor setup.places sched s
  pub alts : AltsFor exchange s
  pub locks : LocksFor setup.rendezes locking s
  pub io : IoFor desks s
  pub notes : NotesFor setup.places noted s

-- whatever sound state the old threads, ioprocs and notes stood for beside the alts and the locks, the new ones stand for what f
-- makes of it beside the same
pub record EndsAlone (f : State → State) (old_sched : Schedule) (old_io : Desks) (old_notes : List ProcNotes) (sched : Schedule) (io : Desks) (notes : List ProcNotes) : Type 0 where
  pub stands : (setup : Setup) (alts : Exchange) (locks : Locking) (s : State) → StandFor setup old_sched alts locks old_io old_notes s → IsSound setup s
      → StandFor setup sched alts locks io notes (f s)

-- whatever sound state the old parts stood for, the new ones stand for what f makes of it
pub record Ends (f : State → State) (old_sched : Schedule) (old_alts : Exchange) (old_locks : Locking) (old_io : Desks) (old_notes : List ProcNotes) (sched : Schedule) (alts : Exchange) (locks : Locking) (io : Desks) (notes : List ProcNotes) : Type 0 where
  pub stands : (setup : Setup) (s : State) → StandFor setup old_sched old_alts old_locks old_io old_notes s → IsSound setup s
      → StandFor setup sched alts locks io notes (f s)

-- no buffer goes or comes, and no call begins or ends
pub record KeepsCalls (old new : Desks) : Type 0 where
  pub rooms : new.rooms ≡ old.rooms
  pub calls : begun_count new.ioprocs ≡ begun_count old.ioprocs

-- the proc, without its pending notes where it dies out
abbrev pub quiet_if : Bool → Proc → Proc
quiet_if dies proc = if dies then with_no_note proc else proc

-- the first of the procs, so many of them, without their pending notes where they die out; the first one has id n
abbrev pub first_quiet : (ℕ → Bool) → ℕ → ℕ → List Proc → List Proc
first_quiet dies n k [] = []
first_quiet dies n zero (x ∷ xs) = x ∷ xs
first_quiet dies n (suc k) (x ∷ xs) = quiet_if (dies n) x ∷ first_quiet dies (suc n) k xs

-- no note is pending in those of the first procs where a thread lives
abbrev pub living_quiet : List Thread → ℕ → State → State
living_quiet threads k s = record s { procs = first_quiet (λ p. list_any (lives_in p) threads) 1 k s.procs }
