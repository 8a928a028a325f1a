use Rattle.std.proofs.Common.{◌≡◌, ◌∙◌, map, ap, arith}
use Rattle.std.specs.Vec.{with_items}
use Rattle.std.proofs.lemmas.List.{with_items_is}
use Rattle.p9_sched.specs.Schedule.{ended_in}
use Rattle.p9_sched.specs.Stored.{Stored, row_ended_in}
use Rattle.p9_sched.proofs.Seen.{groups_in, names_in}
use Rattle.p9_sched.proofs.Threads.{threads_ended_in}
use Rattle.p9_sched.proofs.table.Table.end_proc.Goals as goal

pub returns : goal.returns
returns c =
    let its : (with_items c.self.inside.rows c.end_in.new.rows).items ≡ c.end_in.new.rows = with_items_is c.self.inside.rows c.end_in.new.rows (omega (arith, c.end_in.auto.rows, c.deref_mut.ensures.len)) in
    let all : (with_items c.self.inside.rows c.end_in.new.rows).items ≡ map (row_ended_in c.args.p) c.self.inside.rows.items = its ∙ (c.end_in.ensures ∙ ap (map (row_ended_in c.args.p)) c.deref_mut.ensures.value) in
    rw (all, threads_ended_in (groups_in c.self.inside) (names_in c.self.inside) c.args.p 1 c.self.inside.rows.items) (ap (λ (w : Stored). record { threads = map (ended_in c.args.p) w.threads; rooms = w.rooms }) c.self.view_is)
