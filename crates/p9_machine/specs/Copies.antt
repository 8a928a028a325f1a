-- The messages that an event needs beside its own, so that it takes no memory.
use Rattle.std.specs.Prelude.{ℕ, ◌≡◌, List, Option, Some, None, slice_get}
use Rattle.p9_word.specs.declared.answer.Answer.{Answer}
use Rattle.p9_manual.specs.declared.state.Ioproc.{Ioproc}
use Rattle.p9_manual.specs.declared.state.Ioproc.TheVariants as stand
use Rattle.p9_note.specs.ProcNotes.{ProcNotes, notes_of}
use Rattle.p9_sched.specs.Messages.{IsOfAnswer, IsOfCall}

-- m is the message of the answer that a thread goes on with, if it has one
abbrev pub IsOfNext : Option Answer → List ℕ → Type 0
IsOfNext None m = Unit {0}
IsOfNext (Some a) m = IsOfAnswer a m

-- the oldest note that is pending at proc p
abbrev pub oldest_note : ℕ → List ProcNotes → Option (List ℕ)
oldest_note p notes = slice_get (notes_of p notes).pending 0

-- m is the message of what a proc is told next: its oldest note, or else the answer that its next thread goes on with
abbrev pub IsOfTurn : Option (List ℕ) → Option Answer → List ℕ → Type 0
IsOfTurn (Some note) answer m = m ≡ note
IsOfTurn None answer m = IsOfNext answer m

-- m is the message of the call that is posted there, if it has one
abbrev pub IsOfPosted : Option Ioproc → List ℕ → Type 0
IsOfPosted (Some (stand.Posted t call)) m = IsOfCall call m
IsOfPosted (Some (stand.Begun t call)) m = Unit {0}
IsOfPosted (Some stand.Unmade) m = Unit {0}
IsOfPosted (Some stand.Idle) m = Unit {0}
IsOfPosted (Some stand.Closed) m = Unit {0}
IsOfPosted None m = Unit {0}
