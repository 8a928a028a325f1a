use Rattle.p9_run.proofs.Lifts.{ran_text, not_yet}
use Rattle.p9_run.proofs.program.run_text.Goals as goal

pub returns-in-Ok-Some-clause-came : goal.returns-in-Ok-Some-clause-came
returns-in-Ok-Some-clause-came g c =
    λ words told is read stay.
    ran_text c.untold_reads_are_full.ensures words told (g.F.Files.contents c.args.files.now) (g.F.Files.contents c.run_copy.new.files) c.run_copy.result.trail.entries.items c.run_copy.result.end c.args.file c.args.text.now c.in-Ok-Some.paths.from c.in-Ok-Some.paths.to is read (rw c.in-Ok-Some.field-0-is at c.in-Ok-Some.ensures) stay c.run_copy.ensures.came

pub returns-in-Ok-None-clause-came : goal.returns-in-Ok-None-clause-came
returns-in-Ok-None-clause-came g c =
    λ words told is read stay.
    not_yet words told (g.F.Files.contents c.args.files.now) c.nothing_ran.result.trail.entries.items c.nothing_ran.result.end c.args.file c.args.text.now is read (rw c.in-Ok-None.field-0-is at c.in-Ok-None.ensures) stay c.nothing_ran.ensures.end c.nothing_ran.ensures.empty
