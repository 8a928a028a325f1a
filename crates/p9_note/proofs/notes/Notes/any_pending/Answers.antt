use Rattle.std.proofs.Common.{rules}
use Rattle.std.proofs.Common.{◌∙◌}
use Rattle.p9_note.proofs.Standing.{any_pending}
use Rattle.p9_note.proofs.notes.Notes.any_pending.Goals as goal

pub returns-clause-stands : goal.returns-clause-stands
returns-clause-stands c = λ places s n. (search rules) ∙ any_pending s.procs c.args.self.now n.procs
