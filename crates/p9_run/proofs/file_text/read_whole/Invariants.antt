use Rattle.std.proofs.Common.{◌+◌, ◌-◌, ◌≡◌, ◌≤◌, length}
use Rattle.std.specs.Io.KnownBytes.{Consumes}
use Rattle.p9_word.specs.declared.limits.TheConstants.{MOST_TEXT_BYTES}
use Rattle.p9_run.proofs.file_text.read_whole.Given as goal

-- the bytes so far are those that the source gave, and no more than the longest text and one
abbrev pub invariant-loop-len : goal.invariant-loop-len
invariant-loop-len g l = record {
  is_len : length l.text.items ≡ l.len;
  most : l.len ≤ MOST_TEXT_BYTES + 1;
  bytes : Consumes (g.S.Source.left l.initial.source) (g.S.Source.left l.source) l.text.items;
}

abbrev pub decreases-loop-len : goal.decreases-loop-len
decreases-loop-len g l = MOST_TEXT_BYTES + 1 - l.len
