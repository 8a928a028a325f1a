use Rattle.std.proofs.Common.{◌≡◌, sym, ◌∙◌, rules}
use Rattle.std.specs.Prelude.{is_some}
use Rattle.std.proofs.lemmas.Fn.{filter_same}
use Rattle.p9_lock.specs.Waiting.{others, wait_of}
use Rattle.p9_lock.proofs.Leaving.{all_others}
use Rattle.p9_lock.proofs.waits.leave.Goals as goal

pub returns-clause-waits : goal.returns-clause-waits
returns-clause-waits c = filter_same _ _ _ (λ x b f' k. search rules) _ _ c.retain.ensures.filtered

pub returns-clause-stays : goal.returns-clause-stays
returns-clause-stays c =
    let left : c.retain.new.self.items ≡ others c.args.tid c.args.waits.now.items = returns-clause-waits c in
    let waited : c.is_some-waited.result ≡ is_some (wait_of c.args.tid c.args.waits.now.items) = search rules in
    λ off. left ∙ all_others c.args.tid c.args.waits.now.items (sym waited ∙ off)
