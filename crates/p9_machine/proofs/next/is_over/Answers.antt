use Rattle.std.proofs.Common.{◌∙◌, arith}
use Rattle.p9_machine.proofs.Turning.{over_open}
use Rattle.p9_machine.proofs.next.is_over.Goals as goal

pub returns-then-p-opened : goal.returns-then-p-opened
returns-then-p-opened c = λ s st.
    let opened = st.sched.opened in
    over_open s.over c.args.p s.opened c.living.result s.threads (st.over ∙ c.if-board.false) (omega arith) (rw st.sched.threads c.living.ensures)
