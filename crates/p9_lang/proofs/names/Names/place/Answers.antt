use Rattle.std.proofs.Common.{ap, sym, ◌∙◌}
use Rattle.std.specs.Prelude.{bytes_eq}
use Rattle.p9_grammar.specs.Sorts.{place_of}
use Rattle.p9_lang.proofs.NameLists.{position-map}
use Rattle.p9_lang.proofs.names.Names.place.Goals as goal

pub returns : goal.returns
returns c = c.get_index_of.ensures.index ∙ sym (position-map (λ v. v.items) (λ n. bytes_eq c.args.name.now n) c.self.inside.set.keys) ∙ ap (place_of c.args.name.now) c.self.view_is
