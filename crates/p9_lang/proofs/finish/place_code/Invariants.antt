use Rattle.std.proofs.Common.{◌≡◌, ◌++◌, map, take, drop}
use Rattle.p9_grammar.specs.Placed.{placed}
use Rattle.p9_lang.proofs.finish.place_code.Given as goal

abbrev pub invariant-loop-i : goal.invariant-loop-i
invariant-loop-i l = l.code ≡ map (placed l.threads) (take l.i l.fn.code) ++ drop l.i l.fn.code
