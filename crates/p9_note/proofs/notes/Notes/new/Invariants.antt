use Rattle.std.proofs.Common.{◌≡◌, replicate}
use Rattle.p9_note.specs.ProcNotes.{no_notes}
use Rattle.p9_note.proofs.notes.Notes.new.Given as goal

abbrev pub invariant-loop : goal.invariant-loop
invariant-loop l = l.procs.items ≡ replicate l.counter no_notes
