use Rattle.std.proofs.Common.{ap, sym, ◌∙◌}
use Rattle.std.specs.Prelude.{bytes_eq}
use Rattle.std.specs.List.{list_any}
use Rattle.p9_lang.proofs.NameLists.{any-map}
use Rattle.p9_lang.proofs.names.Names.has.Goals as goal

pub returns : goal.returns
returns c = c.contains.ensures ∙ sym (any-map (λ v. v.items) (λ n. bytes_eq c.args.name.now n) c.self.inside.set.keys) ∙ ap (list_any (λ n. bytes_eq c.args.name.now n)) c.self.view_is
