use Rattle.std.proofs.Common.{◌≡◌, drop, []}
use Rattle.p9_grammar.specs.Ports.{outputs}
use Rattle.p9_lang.proofs.ports.output_list.Given as goal

-- what is left, from here, reads as all did
abbrev pub invariant-loop-word : goal.invariant-loop-word
invariant-loop-word l = outputs l.names l.ends.items l.numbers.items (drop l.word-index l.words) ≡ outputs l.names l.fn.ends.items [] l.words
