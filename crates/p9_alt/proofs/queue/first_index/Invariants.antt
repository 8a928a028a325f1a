use Rattle.std.proofs.Common.{◌≡◌, drop}
use Rattle.std.specs.List.{find}
use Rattle.p9_alt.specs.Sides.{party_test}
use Rattle.p9_alt.proofs.queue.first_index.Given as goal

-- none so far does
abbrev pub invariant-loop-i : goal.invariant-loop-i
invariant-loop-i l = find (party_test l.side l.c) l.waits ≡ find (party_test l.side l.c) (drop l.i l.waits)
