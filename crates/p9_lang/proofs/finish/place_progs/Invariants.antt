use Rattle.std.proofs.Common.{◌≡◌, ◌++◌, map, take, drop}
use Rattle.p9_grammar.specs.Placed.{placed_prog}
use Rattle.p9_lang.proofs.finish.place_progs.Given as goal

abbrev pub invariant-loop-i : goal.invariant-loop-i
invariant-loop-i l = l.progs ≡ map (placed_prog l.threads) (take l.i l.fn.progs) ++ drop l.i l.fn.progs
