use Rattle.p9_machine.proofs.Ending.{thread_ended}
use Rattle.p9_machine.proofs.ends.exit_thread.Goals as goal

pub returns-clause-gives : goal.returns-clause-gives
returns-clause-gives c = λ s st sound.
    thread_ended c.args.board.now c.end_caller.new.sched c.end_caller.new.io c.end_caller.new.notes c.args.t s c.end_caller.ensures.ends st sound
