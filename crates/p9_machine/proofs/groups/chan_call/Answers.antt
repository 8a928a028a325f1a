use Rattle.p9_machine.proofs.Dispatch.{chans_served}
use Rattle.p9_machine.proofs.groups.chan_call.Goals as goal

pub returns-clause-gives : goal.returns-clause-gives
returns-clause-gives c = λ s st sound.
    let at = c.call.ensures.serves c.args.board.now.setup s (record { parts = record { threads = st.sched; channels = st.alts; drawn = st.draws }; position = st.position; sound = sound }) in
    chans_served c.args.board.now s _ c.call.result c.call.new.sched c.call.new.alts c.call.new.generator at st
