-- Worked examples of statuses and messages, proved by computing: of ends that no copy of a file comes to, so that no run of
-- one shows what is told of them.
use Rattle.std.proofs.Common.{◌≡◌, refl, Some, true}
use Rattle.std.specs.Prelude.{codes}
use Rattle.p9_run.specs.Report.{status, messages}
use Rattle.p9_run.specs.declared.report.FileFault.TheVariants.{Open, Write}
use Rattle.p9_run.specs.declared.report.CommandEnd.{CommandEnd}
use Rattle.p9_run.specs.declared.report.CommandEnd.TheVariants.{Memory, Ran}

-- a run that is stuck, and neither of whose files could be used
abbrev stuck : CommandEnd
stuck = Ran (record { stuck = true; input = Some Open; output = Some Write }) (codes "x") (codes "y")

stuck_status : status stuck ≡ 3
stuck_status = refl

stuck_comes_first : messages stuck ≡ codes "p9pipe: stuck\np9pipe: x: open failed\np9pipe: y: write failed\n"
stuck_comes_first = refl

memory_status : status Memory ≡ 4
memory_status = refl

memory_is_told : messages Memory ≡ codes "p9pipe: out of memory\n"
memory_is_told = refl
