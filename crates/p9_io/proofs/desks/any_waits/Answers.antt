use Rattle.std.proofs.Common.{sym, ◌∙◌}
use Rattle.p9_io.specs.Calls.{waits_at}
use Rattle.p9_io.specs.declared.desk.Desk.{Desk}
use Rattle.p9_io.proofs.Counts.{any_map}
use Rattle.p9_io.proofs.desks.any_waits.Goals as goal

pub returns : goal.returns
returns c = c.some_waits.ensures ∙ sym (any_map (λ (d : Desk). d.ioproc) (waits_at c.args.t) c.args.desks.now)
