use Rattle.p9_word.proofs.Spell.{joined_again}
use Rattle.p9_word.proofs.laws.joined_words_again.Goals as goal

pub returns : goal.returns
returns c = joined_again
