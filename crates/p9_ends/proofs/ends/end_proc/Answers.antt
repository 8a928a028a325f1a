use Rattle.p9_ends.proofs.Parting.{proc_ends}
use Rattle.p9_ends.proofs.ends.end_proc.Goals as goal

pub returns-clause-ends : goal.returns-clause-ends
returns-clause-ends c =
    proc_ends c.args.p c.living.result c.args.sched.now c.end_proc.new.self c.args.alts.now c.leave.new.alts c.args.locks.now c.leave.new.locks c.args.io.now c.leave.new.io c.args.notes.now c.clear_if.new.notes c.requires.place.from c.living.ensures c.end_proc.ensures.ended c.end_proc.ensures.stands c.leave.ensures.alts c.leave.ensures.locks c.leave.ensures.io c.clear_if.ensures.stands
