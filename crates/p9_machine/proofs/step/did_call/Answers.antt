use Rattle.p9_machine.proofs.Dispatch.{io_did}
use Rattle.p9_machine.proofs.step.did_call.Goals as goal

pub did-requires : goal.did-requires
did-requires c =
    let b = c.requires in
    (c.args.board.now.setup, b.0, record { threads = b.1.0.sched; ioprocs = b.1.0.io; sound = b.1.1 })

pub returns-clause-gives : goal.returns-clause-gives
returns-clause-gives c = λ s st sound.
    io_did c.args.board.now s _ c.did.result c.did.new.sched c.did.new.io c.did.ensures.none (c.did.ensures.served c.args.board.now.setup s (record { threads = st.sched; ioprocs = st.io; sound = sound })) st
