use Rattle.std.proofs.Common.{◌≡◌, drop}
use Rattle.p9_grammar.specs.Lines.{is_text}
use Rattle.p9_lang.proofs.lines.is_readable.Given as goal

abbrev pub invariant-loop-b : goal.invariant-loop-b
invariant-loop-b l = is_text (drop l.b-index l.line) ≡ is_text l.line
