use Rattle.std.proofs.Common.{◌≡◌, ◌≢◌, ◌-◌, true, false, nat_eq, ap, ◌∙◌, arith}
use Rattle.indexmap.specs.IndexMap.{get}
use Rattle.p9_manual.specs.State.{changed}
use Rattle.p9_manual.specs.Threads.{in_group}
use Rattle.p9_sched.specs.Stored.{Stored}
use Rattle.p9_sched.proofs.Seen.{seen_length, groups_in, names_in}
use Rattle.p9_sched.proofs.Threads.{threads_group}
use Rattle.p9_sched.proofs.table.Table.set_group.Goals as goal

pub invariant_of-self : goal.invariant_of-self
invariant_of-self c =
    let n = seen_length c.self.inside c.args.self.now c.self.view_is in
    let on : c.self.inside.group_room ≡ true = ap (λ (w : Stored). w.rooms.group) c.self.view_is ∙ c.requires.room in
    let held = rw on at c.self.invariant.groups in
    record {
      rows = c.self.invariant.rows;
      groups = omega (arith, held, c.put_group.ensures.spare);
      names = c.self.invariant.names;
      no_groups = λ q lt. let ne : q ≢ c.args.t = omega (arith, c.requires.made.to) in c.put_group.ensures.others q ne ∙ c.self.invariant.no_groups q lt;
      no_names = c.self.invariant.no_names;
    }

pub returns : goal.returns
returns c =
    let e = threads_group (groups_in c.self.inside) (get nat_eq c.put_group.new.groups) (names_in c.self.inside) c.args.t c.args.group c.self.inside.rows.items c.requires.made.from c.put_group.ensures.group c.put_group.ensures.others in
    rw e (ap (λ (w : Stored). record { threads = changed (in_group c.args.group) w.threads (c.args.t - 1); rooms = record w.rooms { group = false } }) c.self.view_is)
