use Rattle.p9_machine.proofs.Ending.{proc_died}
use Rattle.p9_machine.proofs.ends.die.Goals as goal

pub returns-clause-gives : goal.returns-clause-gives
returns-clause-gives c = λ s st sound.
    proc_died c.args.board.now c.end_proc.new.sched c.end_proc.new.alts c.end_proc.new.locks c.end_proc.new.io c.end_proc.new.notes c.args.p c.args.note s c.end_proc.ensures.ends st sound
