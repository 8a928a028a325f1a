use Rattle.p9_machine.proofs.Dispatch.{signals_served}
use Rattle.p9_machine.proofs.groups.signal_call.Goals as goal

pub call-requires-clause-parts : goal.call-requires-clause-parts
call-requires-clause-parts c =
    let b = c.requires.board in
    (c.args.board.now.setup, b.0, (record { threads = b.1.0.sched; alts = b.1.0.alts; locks = b.1.0.locks; notes = b.1.0.notes }, b.1.1))

pub returns-clause-gives : goal.returns-clause-gives
returns-clause-gives c = λ s st sound.
    let at = c.call.ensures.serves.serves c.args.board.now.setup s (record { threads = st.sched; alts = st.alts; locks = st.locks; notes = st.notes }) sound in
    signals_served c.args.board.now s _ c.call.result c.call.new.sched c.call.new.alts c.call.new.locks c.call.new.notes at st
