use Rattle.p9_machine.proofs.Ending.{exits, exits_all}
use Rattle.p9_machine.proofs.Dispatch.{gives_by}
use Rattle.p9_machine.proofs.groups.thread_call.Goals as goal

pub returns-in-ThreadExits-clause-gives : goal.returns-in-ThreadExits-clause-gives
returns-in-ThreadExits-clause-gives c = λ s st sound.
    rw c.in-ThreadExits.is (gives_by _ s _ _ _ (exits c.args.board.now.setup c.args.t _ s (rw st.sched.threads c.requires.runs)) (c.exit_thread.ensures.gives s st sound))

pub returns-in-ThreadExitsAll-clause-gives : goal.returns-in-ThreadExitsAll-clause-gives
returns-in-ThreadExitsAll-clause-gives c = λ s st sound.
    rw c.in-ThreadExitsAll.is (gives_by _ s _ _ _ (exits_all c.args.board.now.setup c.args.t _ s (rw st.sched.threads c.requires.runs)) (c.exit_all.ensures.gives s st sound))
