use Rattle.p9_word.proofs.Digits.{number_again}
use Rattle.p9_word.proofs.laws.numbers_again.Goals as goal

pub returns : goal.returns
returns c = number_again
