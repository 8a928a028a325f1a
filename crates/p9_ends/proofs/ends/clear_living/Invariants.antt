use Rattle.std.proofs.Common.{◌≡◌, length}
use Rattle.p9_note.specs.For.{Tracks as NoteTracks}
use Rattle.p9_ends.specs.Parts.{living_quiet}
use Rattle.p9_ends.proofs.ends.clear_living.Given as goal

abbrev pub invariant-loop-i : goal.invariant-loop-i
invariant-loop-i l = record {
  stands : NoteTracks (living_quiet l.sched.threads l.i) l.fn.notes l.notes;
  count : length l.notes ≡ length l.sched.lines;
}
