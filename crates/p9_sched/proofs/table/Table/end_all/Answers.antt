use Rattle.std.proofs.Common.{◌≡◌, ◌∙◌, map, ap, arith}
use Rattle.std.specs.Vec.{with_items}
use Rattle.std.proofs.lemmas.List.{with_items_is}
use Rattle.p9_manual.specs.Ends.{at_end}
use Rattle.p9_sched.specs.Stored.{Stored, row_ended}
use Rattle.p9_sched.proofs.Seen.{groups_in, names_in}
use Rattle.p9_sched.proofs.Threads.{threads_ended}
use Rattle.p9_sched.proofs.table.Table.end_all.Goals as goal

pub returns : goal.returns
returns c =
    let its : (with_items c.self.inside.rows c.end_each.new.rows).items ≡ c.end_each.new.rows = with_items_is c.self.inside.rows c.end_each.new.rows (omega (arith, c.end_each.auto.rows, c.deref_mut.ensures.len)) in
    let all : (with_items c.self.inside.rows c.end_each.new.rows).items ≡ map row_ended c.self.inside.rows.items = its ∙ (c.end_each.ensures ∙ ap (map row_ended) c.deref_mut.ensures.value) in
    rw (all, threads_ended (groups_in c.self.inside) (names_in c.self.inside) 1 c.self.inside.rows.items) (ap (λ (w : Stored). record { threads = map at_end w.threads; rooms = w.rooms }) c.self.view_is)
