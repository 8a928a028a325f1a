use Rattle.std.proofs.Common.{subst, sym, ◌∙◌}
use Rattle.p9_word.specs.declared.setup.Setup.{Setup}
use Rattle.p9_word.specs.Setup.{IsValid}
use Rattle.p9_run.proofs.CopyRuns.{run_ended}
use Rattle.p9_run.proofs.copy_files.run_copy.Goals as goal

pub returns-clause-ended : goal.returns-clause-ended
returns-clause-ended g c =
    let valid = subst (λ (s : Setup). IsValid s) (sym c.run_files-ran.ensures.setup) c.in_ok-machine.ensures.valid in
    run_ended c.run_files-ran.result.outcome _ _ _ (c.run_files-ran.ensures.setup ∙ c.in_ok-machine.ensures.setup) valid c.into_trail.ensures.entries c.into_trail.ensures.legal c.runs_end.ensures c.run_files-ran.ensures.all_over
