-- What is left of the path begins at the byte that is looked at.
use Rattle.std.proofs.Common.{◌≡◌, ◌+◌, ◌-◌, ◌≤◌, length, drop}
use Rattle.std.specs.List.{prefix_len}
use Rattle.p9_run.specs.CopyText.{is_path_byte}
use Rattle.p9_run.proofs.copy_text.split_path.Given as goal

abbrev pub invariant-loop-len : goal.invariant-loop-len
invariant-loop-len l = record {
  in_text : l.len ≤ length l.text;
  rest : prefix_len is_path_byte (drop l.len l.text) + l.len ≡ prefix_len is_path_byte l.text;
}

abbrev pub decreases-loop-len : goal.decreases-loop-len
decreases-loop-len l = length l.text - l.len
