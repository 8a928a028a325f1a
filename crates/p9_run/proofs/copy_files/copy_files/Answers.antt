use Rattle.std.proofs.Common.{◌∙◌, true, false}
use Rattle.p9_run.proofs.CopyRuns.{not_opened, not_made, finished, unopened_counts, finished_counts}
use Rattle.p9_run.proofs.Lifts.{stay_on}
use Rattle.p9_run.proofs.copy_files.copy_files.Goals as goal

pub returns-in-Err-clause-end : goal.returns-in-Err-clause-end
returns-in-Err-clause-end g c =
    let told = g.F.Files.contents in
    not_opened c.in-Err.fault true (told c.args.files.now) (told c.source.new.self) c.args.from.now c.args.to.now _ _ (c.not_run.ensures.end ∙ c.unopened.ensures) c.not_run.ensures.empty c.source.ensures.contents

pub returns-in-Err-sink-clause-end : goal.returns-in-Err-sink-clause-end
returns-in-Err-sink-clause-end g c =
    let told = g.F.Files.contents in
    not_opened c.in-Err-sink.fault false (told c.args.files.now) (told c.sink.new.self) c.args.from.now c.args.to.now _ _ (c.not_run-in-Err-sink.ensures.end ∙ c.unopened-in-Err-sink.ensures) c.not_run-in-Err-sink.ensures.empty (stay_on (told c.args.files.now) (told c.source.new.self) (told c.sink.new.self) c.source.ensures.contents c.sink.ensures.contents)

pub returns-in-Ok-run_copy-clause-end : goal.returns-in-Ok-run_copy-clause-end
returns-in-Ok-run_copy-clause-end g c =
    let told = g.F.Files.contents in
    let left = g.F.Src.Source.left in
    let held = g.F.Dst.Sink.held in
    let ran = c.in-Ok-run_copy.run'.ran in
    rw c.finish.ensures.trail
    (finished c.untold_reads_are_full.ensures (told c.args.files.now) (told c.source.new.self) (told c.sink.new.self) (told c.finish.new.files) c.args.from.now c.args.to.now (left c.in-Ok.source) (left ran.source) (held c.in-Ok-sink.sink) (held ran.sink) (g.F.Src.Source.faults c.in-Ok.source) (g.F.Src.Source.faults ran.source) (g.F.Dst.Sink.faults c.in-Ok-sink.sink) (g.F.Dst.Sink.faults ran.sink) (g.F.Src.Source.steady c.in-Ok.source) (g.F.Src.Source.steady ran.source) (g.F.Dst.Sink.firm c.in-Ok-sink.sink) (g.F.Dst.Sink.firm ran.sink) c.in-Ok-run_copy.run'.trail.entries.items c.source.ensures.contents c.sink.ensures.contents c.in-Ok.ensures.opens c.in-Ok-sink.ensures.fresh c.in-Ok-run_copy.ensures.moves ran.outcome c.finish.result.end (g.F.Files.faults c.sink.new.self) (g.F.Files.faults c.finish.new.files) c.in-Ok-run_copy.ensures.ended c.finish.ensures.end)

pub returns-in-Err-run_copy-clause-end : goal.returns-in-Err-run_copy-clause-end
returns-in-Err-run_copy-clause-end g c =
    let told = g.F.Files.contents in
    not_made (told c.args.files.now) (told c.sink.new.self) c.args.from.now c.args.to.now _ _ _ c.not_run-in-Err-run_copy.ensures.end c.not_run-in-Err-run_copy.ensures.empty (stay_on (told c.args.files.now) (told c.source.new.self) (told c.sink.new.self) c.source.ensures.contents c.sink.ensures.contents)

pub returns-in-Err-clause-counts : goal.returns-in-Err-clause-counts
returns-in-Err-clause-counts g c =
    unopened_counts c.in-Err.fault true _ _ _ (c.not_run.ensures.end ∙ c.unopened.ensures) c.in-Err.ensures.faults

pub returns-in-Err-sink-clause-counts : goal.returns-in-Err-sink-clause-counts
returns-in-Err-sink-clause-counts g c =
    rw⁻¹ c.in-Ok.ensures.faults (unopened_counts c.in-Err-sink.fault false _ _ _ (c.not_run-in-Err-sink.ensures.end ∙ c.unopened-in-Err-sink.ensures) c.in-Err-sink.ensures.faults)

pub returns-in-Ok-run_copy-clause-counts : goal.returns-in-Ok-run_copy-clause-counts
returns-in-Ok-run_copy-clause-counts g c =
    rw⁻¹ (c.in-Ok.ensures.faults, c.in-Ok-sink.ensures.faults) (finished_counts _ _ _ _ _ _ _ _ _ c.finish.ensures.end)

pub returns-in-Err-run_copy-clause-counts : goal.returns-in-Err-run_copy-clause-counts
returns-in-Err-run_copy-clause-counts g c =
    rw c.not_run-in-Err-run_copy.ensures.end (c.in-Ok-sink.ensures.faults ∙ c.in-Ok.ensures.faults)
