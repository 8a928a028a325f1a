use Rattle.std.proofs.Common.{◌≡◌}
use Rattle.p9_commands.specs.Pattern.{pattern_of}
use Rattle.p9_commands.proofs.group.pattern.Given as goal

abbrev pub invariant-loop-i : goal.invariant-loop-i
invariant-loop-i l = l.bytes.items ≡ pattern_of l.i
