-- What the notes stand for of a manual's state, and when a call does to them what the manual does to the state. notify(2).
use Rattle.std.specs.Prelude.{ℕ, ◌≡◌, List, length, map}
use Rattle.p9_manual.specs.NoteCalls.{noted}
use Rattle.p9_manual.specs.State.{State}
use Rattle.p9_note.specs.ProcNotes.{ProcNotes}

-- the handlers and the pending notes of a proc, whatever the memory at hand
abbrev pub bare : ProcNotes → List (ℕ × List ℕ) × List (List ℕ)
bare x = (x.handlers, x.pending)

-- the notes of so many proc places stand for the handlers and the pending notes of the procs of a state
pub record NotesFor (places : ℕ) (notes : List ProcNotes) (s : State) : Type 0 where
  pub procs : map noted s.procs ≡ map bare notes
  pub count : length notes ≡ places

-- whatever state the old notes stand for, the new ones stand for what f makes of it
abbrev pub Tracks : (State → State) → List ProcNotes → List ProcNotes → Type 0
Tracks f old new = (places : ℕ) (s : State) → NotesFor places old s → NotesFor places new (f s)
