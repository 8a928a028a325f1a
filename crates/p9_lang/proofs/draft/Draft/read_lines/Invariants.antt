use Rattle.std.proofs.Common.{◌≡◌, ◌+◌, ◌≤◌, length}
use Rattle.p9_grammar.specs.Lines.{lines_of}
use Rattle.p9_grammar.specs.Reading.{read_lines}
use Rattle.p9_lang.specs.Views.{draft_of}
use Rattle.p9_lang.proofs.draft.Draft.read_lines.Given as goal

abbrev pub invariant-loop-rest : goal.invariant-loop-rest
invariant-loop-rest l = record {
  same : read_lines l.number (draft_of l.self) (lines_of l.rest) ≡ read_lines 1 (draft_of l.fn.self) (lines_of l.text);
  count : l.number + length (lines_of l.rest) ≡ 1 + length (lines_of l.text);
  from : 1 ≤ l.number;
  small : l.number + length l.rest ≤ length l.text + 1;
}

abbrev pub decreases-loop-rest : goal.decreases-loop-rest
decreases-loop-rest l = length l.rest
