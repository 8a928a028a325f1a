use Rattle.std.proofs.Common.{◌∙◌, sym, ap, unwrap_or}
use Rattle.p9_sched.proofs.Seen.{seen_group}
use Rattle.p9_sched.proofs.table.Table.group.Goals as goal

pub returns-in-Some : goal.returns-in-Some
returns-in-Some c =
    ap (λ o. unwrap_or o 0) c.in-Some.ensures.value ∙ sym (seen_group c.self.inside c.args.self.now c.args.t c.self.view_is c.requires)

pub returns-in-None : goal.returns-in-None
returns-in-None c =
    ap (λ o. unwrap_or o 0) c.in-None.ensures.value ∙ sym (seen_group c.self.inside c.args.self.now c.args.t c.self.view_is c.requires)
