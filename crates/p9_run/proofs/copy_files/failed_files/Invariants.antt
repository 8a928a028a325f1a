use Rattle.std.proofs.Common.{◌≡◌, take}
use Rattle.std.specs.List.{list_any}
use Rattle.p9_run.specs.FaultLines.{fails_at}
use Rattle.p9_run.proofs.copy_files.failed_files.Given as goal

abbrev pub invariant-loop-entry : goal.invariant-loop-entry
invariant-loop-entry l = record {
  first : l.first ≡ list_any (fails_at 1) (take l.entry-index l.entries);
  second : l.second ≡ list_any (fails_at 2) (take l.entry-index l.entries);
}
