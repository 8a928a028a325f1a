use Rattle.p9_word.proofs.Spell.{found, only}
use Rattle.p9_word.proofs.words.split_words.Goals as goal

pub returns-clause-found : goal.returns-clause-found
returns-clause-found c = found c.args.line.now c.scan_line.result c.scan_line.ensures

pub returns-clause-only : goal.returns-clause-only
returns-clause-only c = only c.args.line.now c.scan_line.result c.scan_line.ensures
