use Rattle.std.proofs.Common.{◌≡◌, ◌+◌, false, length, nat_eq, [], ◌∷◌, ◌++◌, ap, arith}
use Rattle.indexmap.specs.IndexMap.{get}
use Rattle.p9_manual.specs.Create.{fresh}
use Rattle.p9_sched.specs.Stored.{Stored}
use Rattle.p9_sched.proofs.Seen.{seen_length, seen_push}
use Rattle.p9_sched.proofs.table.Table.add.Goals as goal

pub overflow_cast-t : goal.overflow_cast-t
overflow_cast-t c =
    let n = seen_length c.self.inside c.args.self.now c.self.view_is in
    omega (arith, c.self.inside.rows.ok.0)

pub overflow_add-t : goal.overflow_add-t
overflow_add-t c =
    let n = seen_length c.self.inside c.args.self.now c.self.view_is in
    omega (arith, c.self.inside.rows.ok.0)

pub returns-clause-id : goal.returns-clause-id
returns-clause-id c =
    let n = seen_length c.self.inside c.args.self.now c.self.view_is in
    omega (arith, c.self.inside.rows.ok.0)

pub returns-clause-table : goal.returns-clause-table
returns-clause-table c =
    let n = seen_length c.self.inside c.args.self.now c.self.view_is in
    let next : c.len.result + 1 ≡ length c.self.inside.rows.items + 1 = omega (arith, c.self.inside.rows.ok.0) in
    let none = c.self.invariant.no_names (c.len.result + 1) (omega (arith, c.self.inside.rows.ok.0)) in
    let e = seen_push c.self.inside c.args.self.now (get nat_eq c.note_group.new.groups) c.args.p c.args.program c.args.arg c.args.group (c.len.result + 1) c.self.view_is next c.note_group.ensures.others c.note_group.ensures.group none in
    rw (c.push_reserved.ensures.items, e) (ap (λ (w : Stored). record { threads = c.args.self.now.threads ++ fresh c.args.p c.args.program c.args.arg c.args.group ∷ []; rooms = record w.rooms { thread = false } }) c.self.view_is)
