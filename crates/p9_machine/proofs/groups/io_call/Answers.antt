use Rattle.p9_machine.proofs.Dispatch.{io_served}
use Rattle.p9_machine.proofs.groups.io_call.Goals as goal

pub call-requires-clause-sound : goal.call-requires-clause-sound
call-requires-clause-sound c =
    let b = c.requires.board in
    (c.args.board.now.setup, b.0, record { threads = b.1.0.sched; ioprocs = b.1.0.io; sound = b.1.1 })

pub returns-clause-gives : goal.returns-clause-gives
returns-clause-gives c = λ s st sound.
    let at = c.call.ensures.served c.args.board.now.setup s (record { threads = st.sched; ioprocs = st.io; sound = sound }) in
    io_served c.args.board.now s _ c.call.result c.call.new.sched c.call.new.io c.call.ensures.entry at st
