use Rattle.std.proofs.Common.{◌≡◌, ◌+◌, drop}
use Rattle.p9_manual.specs.AltEntries.{first_number}
use Rattle.p9_alt.specs.Sides.{entry_test}
use Rattle.p9_alt.proofs.side.Side.first_number.Given as goal

-- no entry so far does
abbrev pub invariant-loop-i : goal.invariant-loop-i
invariant-loop-i l = first_number (entry_test l.self l.c) l.entries ≡ l.i + first_number (entry_test l.self l.c) (drop l.i l.entries)
