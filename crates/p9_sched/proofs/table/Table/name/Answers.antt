use Rattle.std.proofs.Common.{◌∙◌, [], sym, ap, unwrap_or}
use Rattle.p9_sched.proofs.Seen.{seen_name}
use Rattle.p9_sched.proofs.table.Table.name.Goals as goal

pub returns-in-Some : goal.returns-in-Some
returns-in-Some c =
    c.as_slice.ensures ∙ (ap (λ o. unwrap_or o []) c.in-Some.ensures.value ∙ sym (seen_name c.self.inside c.args.self.now c.args.t c.self.view_is c.requires))

pub returns-in-None : goal.returns-in-None
returns-in-None c =
    ap (λ o. unwrap_or o []) c.in-None.ensures.value ∙ sym (seen_name c.self.inside c.args.self.now c.args.t c.self.view_is c.requires)
