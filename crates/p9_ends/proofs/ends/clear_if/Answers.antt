use Rattle.std.proofs.Common.{length, ◌-◌, ap, ◌∙◌, rules}
use Rattle.p9_note.specs.ProcNotes.{cleared}
use Rattle.p9_ends.proofs.Parting.{cleared_if, stay_if}
use Rattle.p9_ends.proofs.Quiet.{changed_length}
use Rattle.p9_ends.proofs.ends.clear_if.Goals as goal

pub returns-then-dies-clause-stands : goal.returns-then-dies-clause-stands
returns-then-dies-clause-stands c = cleared_if c.args.dies c.args.p c.args.notes.now c.clear.new.self (search rules) c.clear.ensures.stands

pub returns-then-dies-clause-count : goal.returns-then-dies-clause-count
returns-then-dies-clause-count c = ap length c.clear.ensures.after ∙ changed_length cleared c.args.notes.now (c.args.p - 1)

pub returns-else-dies-clause-stands : goal.returns-else-dies-clause-stands
returns-else-dies-clause-stands c = stay_if c.args.dies c.args.p c.args.notes.now (search rules)
