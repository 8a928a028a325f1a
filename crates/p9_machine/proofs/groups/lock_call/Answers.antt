use Rattle.p9_machine.proofs.Dispatch.{locks_served}
use Rattle.p9_machine.proofs.groups.lock_call.Goals as goal

pub call-requires-clause-parts : goal.call-requires-clause-parts
call-requires-clause-parts c =
    let b = c.requires.board in
    (c.args.board.now.setup, b.0, record { threads = b.1.0.sched; locked = b.1.0.locks; sound = b.1.1 })

pub returns-clause-gives : goal.returns-clause-gives
returns-clause-gives c = λ s st sound.
    let at = c.call.ensures.serves.serves c.args.board.now.setup s (record { threads = st.sched; locked = st.locks; sound = sound }) in
    locks_served c.args.board.now s _ c.call.result c.call.new.sched c.call.new.locks at st
