use Rattle.std.proofs.Common.{sym, ◌∙◌}
use Rattle.p9_manual.specs.Places.{has_call}
use Rattle.p9_io.specs.declared.desk.Desk.{Desk}
use Rattle.p9_io.proofs.Counts.{any_map}
use Rattle.p9_io.proofs.desks.any_has_call.Goals as goal

pub returns : goal.returns
returns c = c.some_has_call.ensures ∙ sym (any_map (λ (d : Desk). d.ioproc) has_call c.args.desks.now)
