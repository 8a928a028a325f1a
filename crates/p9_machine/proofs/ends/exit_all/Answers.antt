use Rattle.p9_machine.proofs.Ending.{run_ended}
use Rattle.p9_machine.proofs.ends.exit_all.Goals as goal

pub returns-clause-gives : goal.returns-clause-gives
returns-clause-gives c = λ s st sound.
    run_ended c.args.board.now c.end_all.new.sched c.end_all.new.alts c.end_all.new.locks c.end_all.new.io c.end_all.new.notes s c.end_all.ensures.ends st sound
