use Rattle.std.proofs.Common.{refl}
use Rattle.p9_run.proofs.Differing.{other_number}
use Rattle.p9_run.proofs.copy_programs.CopyProgramsPrograms.start.Goals as goal

pub returns-then-program-eq1-clause-plan : goal.returns-then-program-eq1-clause-plan
returns-then-program-eq1-clause-plan c = rw (c.new.ensures.ends, c.if-program-eq1.true) refl

pub returns-else-program-eq1-clause-plan : goal.returns-else-program-eq1-clause-plan
returns-else-program-eq1-clause-plan c =
    rw (c.new-else-program-eq1.ensures.ends, other_number c.args.program 1 c.if-program-eq1.false) refl
