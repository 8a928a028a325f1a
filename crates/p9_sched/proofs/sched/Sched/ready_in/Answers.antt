use Rattle.std.proofs.Common.{ap, sym, ◌∙◌, length, arith}
use Rattle.p9_manual.specs.Standing.{times}
use Rattle.p9_sched.specs.Schedule.{Schedule}
use Rattle.p9_sched.specs.Turns.{is_ready_in}
use Rattle.p9_sched.proofs.Counts.{times-le_length}
use Rattle.p9_sched.proofs.Lists.{item_at}
use Rattle.p9_sched.proofs.Nexts.{line_count}
use Rattle.p9_sched.proofs.Views.{place_id, seen_line}
use Rattle.p9_sched.proofs.sched.Sched.ready_in.Goals as goal

pub overflow_cast-result : goal.overflow_cast-result
overflow_cast-result c =
    let at = item_at c.self.inside.lanes c.args.p (place_id c.self.inside c.args.self.now c.args.p c.self.view_is c.requires) in
    let count = line_count c.args.p c.self.inside.table.threads c.self.inside.lanes c.self.inside.table.rooms.thread at.0 at.1 c.self.invariant in
    let most = times-le_length (is_ready_in c.args.p) c.self.inside.table.threads in
    let is = c.ready.ensures in
    let few = c.self.invariant.few in
    omega arith

pub returns-clause-line : goal.returns-clause-line
returns-clause-line c =
    c.ready.ensures ∙ ap length (sym (seen_line c.self.inside c.args.self.now c.args.p c.self.view_is))

pub returns-clause-threads : goal.returns-clause-threads
returns-clause-threads c =
    let at = item_at c.self.inside.lanes c.args.p (place_id c.self.inside c.args.self.now c.args.p c.self.view_is c.requires) in
    let count = line_count c.args.p c.self.inside.table.threads c.self.inside.lanes c.self.inside.table.rooms.thread at.0 at.1 c.self.invariant in
    c.ready.ensures ∙ (count ∙ ap (λ (v : Schedule). times (is_ready_in c.args.p) v.threads) c.self.view_is)
