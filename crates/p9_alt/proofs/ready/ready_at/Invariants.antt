use Rattle.std.proofs.Common.{◌≡◌, ◌<◌, length, drop, get_or}
use Rattle.p9_manual.specs.ReadyEntries.{is_ready, numbers_of}
use Rattle.p9_alt.proofs.ready.ready_at.Given as goal

-- the entry is one of those from i on, behind so many that are ready
abbrev pub invariant-loop-i : goal.invariant-loop-i
invariant-loop-i l = record {
  number : get_or (numbers_of (is_ready l.chans.chans l.waits) 0 l.entries) l.n 0 ≡ get_or (numbers_of (is_ready l.chans.chans l.waits) l.i (drop l.i l.entries)) l.left 0;
  within : l.left < length (numbers_of (is_ready l.chans.chans l.waits) l.i (drop l.i l.entries));
}
