use Rattle.p9_word.proofs.Spell.{bad_quote}
use Rattle.p9_word.proofs.laws.bad_quotes_spell_nothing.Goals as goal

pub returns : goal.returns
returns c = bad_quote
