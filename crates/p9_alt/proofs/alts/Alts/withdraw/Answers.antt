use Rattle.std.proofs.Common.{ap, rules, ◌∙◌}
use Rattle.std.specs.Prelude.{is_some}
use Rattle.std.specs.List.{list_any}
use Rattle.p9_alt.specs.Exchange.{Exchange}
use Rattle.p9_alt.proofs.Waits.{is_of, found_any}
use Rattle.p9_alt.proofs.Withdrawing.{withdrawn_one_state}
use Rattle.p9_alt.proofs.alts.Alts.withdraw.Goals as goal

pub returns-in-Some-clause-waited : goal.returns-in-Some-clause-waited
returns-in-Some-clause-waited c =
    let p = is_of c.args.tid in
    ap is_some c.in-Some.ensures.alt ∙ (found_any p c.self.inside.waits.items ∙ ap (λ (x : Exchange). list_any p x.waits) c.self.view_is)

pub returns-in-None-clause-waited : goal.returns-in-None-clause-waited
returns-in-None-clause-waited c =
    let p = is_of c.args.tid in
    ap is_some c.in-None.ensures.alt ∙ (found_any p c.self.inside.waits.items ∙ ap (λ (x : Exchange). list_any p x.waits) c.self.view_is)

pub returns-in-Some-clause-stands : goal.returns-in-Some-clause-stands
returns-in-Some-clause-stands c = withdrawn_one_state c.args.tid c.args.self.now _ (search rules)

pub returns-in-None-clause-stands : goal.returns-in-None-clause-stands
returns-in-None-clause-stands c = withdrawn_one_state c.args.tid c.args.self.now _ (search rules)
