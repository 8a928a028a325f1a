use Rattle.p9_ends.proofs.Parting.{all_end}
use Rattle.p9_ends.proofs.ends.end_all.Goals as goal

pub returns-clause-ends : goal.returns-clause-ends
returns-clause-ends c =
    all_end c.args.sched.now c.end_all.new.self c.args.alts.now c.leave.new.alts c.args.locks.now c.leave.new.locks c.args.io.now c.leave.new.io c.args.notes.now c.clear_living.new.notes c.requires.places c.end_all.ensures.ended c.end_all.ensures.stands c.leave.ensures.alts c.leave.ensures.locks c.leave.ensures.io c.clear_living.ensures
