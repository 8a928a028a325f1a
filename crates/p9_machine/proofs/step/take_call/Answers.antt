use Rattle.std.proofs.Common.{refl}
use Rattle.p9_machine.proofs.Dispatch.{io_did}
use Rattle.p9_machine.proofs.step.take_call.Goals as goal

pub returns-clause-gives : goal.returns-clause-gives
returns-clause-gives c = λ s st sound.
    io_did c.args.board.now s _ c.take.result c.args.board.now.sched c.take.new.io (λ e. (refl, c.take.ensures.none e)) (c.take.ensures.served c.args.board.now.setup s st.over (record { threads = st.sched; ioprocs = st.io; sound = sound })) st
