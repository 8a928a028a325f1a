use Rattle.std.proofs.Common.{◌≡◌, ◌≤◌, length, take}
use Rattle.p9_manual.specs.ReadyEntries.{ready_entries}
use Rattle.p9_alt.specs.Exchange.{others}
use Rattle.p9_alt.proofs.ready.ready_count.Given as goal

-- so many are ready so far
abbrev pub invariant-loop-e : goal.invariant-loop-e
invariant-loop-e l = (l.count ≡ length (ready_entries l.chans.chans (others l.tid l.waits) (take l.e-index l.entries))) × (l.count ≤ l.e-index)
