use Rattle.std.proofs.Common.{◌∙◌, sym, ap}
use Rattle.p9_manual.specs.State.{by_id}
use Rattle.p9_sched.specs.declared.row.Row.{Row}
use Rattle.p9_sched.specs.Turns.{answer_at}
use Rattle.p9_sched.proofs.Lists.{id_of}
use Rattle.p9_sched.proofs.Nexts.{next_thread}
use Rattle.p9_sched.proofs.Views.{row_is, answer_seen, no_answer}
use Rattle.p9_sched.proofs.sched.Sched.next_answer.Goals as goal

pub row-requires : goal.row-requires
row-requires c =
    let n = next_thread c.args.p c.self.inside.table.threads c.self.inside.lanes c.self.inside.table.rooms.thread c.in_ok-t.t (sym c.in_ok-t.ensures) c.self.invariant in
    id_of c.self.inside.table.threads c.in_ok-t.t n.thread n.there

pub returns-in-Ready : goal.returns-in-Ready
returns-in-Ready c =
    let n = next_thread c.args.p c.self.inside.table.threads c.self.inside.lanes c.self.inside.table.rooms.thread c.in_ok-t.t (sym c.in_ok-t.ensures) c.self.invariant in
    let place = ap (λ (s : Row). s.place) (row_is (by_id c.self.inside.table.threads c.in_ok-t.t) n.thread c.row.result.now n.there c.row.ensures) in
    sym (answer_seen c.self.inside c.args.self.now c.args.p c.in_ok-t.t n.thread n.rest c.self.view_is n.line_is n.there (sym c.if-is_held.ensures) ∙ ap answer_at (place ∙ c.in-Ready.is))

pub returns-in_default : goal.returns-in_default
returns-in_default c =
    let n = next_thread c.args.p c.self.inside.table.threads c.self.inside.lanes c.self.inside.table.rooms.thread c.in_ok-t.t (sym c.in_ok-t.ensures) c.self.invariant in
    let place = ap (λ (s : Row). s.place) (row_is (by_id c.self.inside.table.threads c.in_ok-t.t) n.thread c.row.result.now n.there c.row.ensures) in
    sym (answer_seen c.self.inside c.args.self.now c.args.p c.in_ok-t.t n.thread n.rest c.self.view_is n.line_is n.there (sym c.if-is_held.ensures) ∙ (ap answer_at place ∙ no_answer c.row.result.now.place c.in_default.not-Ready))
