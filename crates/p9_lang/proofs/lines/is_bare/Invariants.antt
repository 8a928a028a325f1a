use Rattle.std.proofs.Common.{◌≡◌, drop}
use Rattle.p9_grammar.specs.Lines.{is_skipped}
use Rattle.p9_lang.proofs.lines.is_bare.Given as goal

abbrev pub invariant-loop-b : goal.invariant-loop-b
invariant-loop-b l = is_skipped (drop l.b-index l.line) ≡ is_skipped l.line
