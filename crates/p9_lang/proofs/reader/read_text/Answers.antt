use Rattle.std.proofs.Common.{◌≡◌, Ok, Err}
use Rattle.std.specs.Prelude.{ℕ, Result, IfOk}
use Rattle.p9_grammar.specs.declared.pipeline.Pipeline.{Pipeline}
use Rattle.p9_grammar.specs.declared.why.Why.{Why}
use Rattle.p9_lang.specs.declared.fault.ReadFault.{ReadFault}
use Rattle.p9_lang.specs.Gives.{GivesAt}
use Rattle.p9_lang.proofs.reader.read_text.Goals as goal

meant : (result : Result Pipeline ReadFault) (read : Result Pipeline (ℕ × Why)) → GivesAt (λ p. p) result read → IfOk result (λ p. read ≡ Ok p)
meant (Ok p) read h = h
meant (Err e) read h = tt

pub returns-clause-means : goal.returns-clause-means
returns-clause-means c = meant c.read_into.result _ c.read_into.ensures
