use Rattle.std.proofs.Common.{◌≢◌, ◌-◌, false, nat_eq, ap, ◌∙◌, arith}
use Rattle.indexmap.specs.IndexMap.{get}
use Rattle.p9_manual.specs.State.{changed}
use Rattle.p9_manual.specs.Threads.{with_name}
use Rattle.p9_sched.specs.Stored.{Stored}
use Rattle.p9_sched.proofs.Seen.{seen_length, groups_in, names_in}
use Rattle.p9_sched.proofs.Threads.{threads_name}
use Rattle.p9_sched.proofs.table.Table.set_name.Goals as goal

pub invariant_of-self : goal.invariant_of-self
invariant_of-self c =
    let n = seen_length c.self.inside c.args.self.now c.self.view_is in
    record {
      rows = c.self.invariant.rows;
      groups = c.self.invariant.groups;
      names = omega arith;
      no_groups = c.self.invariant.no_groups;
      no_names = λ q lt. let ne : q ≢ c.args.t = omega (arith, c.requires.made.to) in c.put_name.ensures.others q ne ∙ c.self.invariant.no_names q lt;
    }

pub returns : goal.returns
returns c =
    let e = threads_name (groups_in c.self.inside) (names_in c.self.inside) (get nat_eq c.put_name.new.names) c.args.t c.args.name c.self.inside.rows.items c.requires.made.from c.put_name.ensures.name c.put_name.ensures.others in
    rw e (ap (λ (w : Stored). record { threads = changed (with_name c.args.name) w.threads (c.args.t - 1); rooms = record w.rooms { name = false } }) c.self.view_is)
