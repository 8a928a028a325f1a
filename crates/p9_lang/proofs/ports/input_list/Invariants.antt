use Rattle.std.proofs.Common.{◌≡◌, length, []}
use Rattle.p9_grammar.specs.Ports.{inputs}
use Rattle.p9_lang.proofs.ports.input_list.Given as goal

-- what is left, from here, reads as all did
abbrev pub invariant-loop-rest : goal.invariant-loop-rest
invariant-loop-rest l = inputs l.names l.ends.items l.numbers.items l.rest ≡ inputs l.names l.fn.ends.items [] l.words

abbrev pub decreases-loop-rest : goal.decreases-loop-rest
decreases-loop-rest l = length l.rest
