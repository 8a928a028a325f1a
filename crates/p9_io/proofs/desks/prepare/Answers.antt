use Rattle.std.proofs.Common.{true, ◌≡◌, ◌-◌, Some}
use Rattle.std.specs.Prelude.{slice_get}
use Rattle.p9_io.specs.declared.desk.Desk.{Desk}
use Rattle.p9_io.proofs.Shown.{at_read, map_set_same, map_get_set, shown_prepared, shown_same, on_ok, on_err}
use Rattle.p9_io.proofs.desks.prepare.Goals as goal

pub returns-clause-ok : goal.returns-clause-ok
returns-clause-ok c =
    let at : slice_get c.args.desks.now.items (c.args.k - 1) ≡ Some c.index_mut-desk.result.now =
    rw (← c.index_of-i.ensures.index) (at_read c.args.desks.now.items c.index_of-i.result c.index_mut-desk.result.now _ c.index_of-i.ensures.inside c.index_mut-desk.ensures.value) in
    rw c.index_of-i.ensures.index (on_ok c.prepare.result (λ flag. shown_prepared c.args.k c.args.desks.now.items c.prepare.new.self c.index_mut-desk.result.now at c.prepare.ensures.ioproc c.prepare.ensures.here flag) c.prepare.ensures.ok)

pub returns-clause-err : goal.returns-clause-err
returns-clause-err c =
    let at : slice_get c.args.desks.now.items (c.args.k - 1) ≡ Some c.index_mut-desk.result.now =
    rw (← c.index_of-i.ensures.index) (at_read c.args.desks.now.items c.index_of-i.result c.index_mut-desk.result.now _ c.index_of-i.ensures.inside c.index_mut-desk.ensures.value) in
    rw c.index_of-i.ensures.index (on_err c.prepare.result (λ flag. shown_same (c.args.k - 1) c.args.desks.now.items c.prepare.new.self c.index_mut-desk.result.now at c.prepare.ensures.ioproc c.prepare.ensures.here flag) c.prepare.ensures.err)

pub returns-clause-ioprocs : goal.returns-clause-ioprocs
returns-clause-ioprocs c =
    let at : slice_get c.args.desks.now.items (c.args.k - 1) ≡ Some c.index_mut-desk.result.now =
    rw (← c.index_of-i.ensures.index) (at_read c.args.desks.now.items c.index_of-i.result c.index_mut-desk.result.now _ c.index_of-i.ensures.inside c.index_mut-desk.ensures.value) in
    rw c.index_of-i.ensures.index (map_set_same (λ (x : Desk). x.ioproc) c.args.desks.now.items (c.args.k - 1) c.prepare.new.self c.index_mut-desk.result.now at c.prepare.ensures.ioproc)

pub returns-clause-there : goal.returns-clause-there
returns-clause-there c =
    let at : slice_get c.args.desks.now.items (c.args.k - 1) ≡ Some c.index_mut-desk.result.now =
    rw (← c.index_of-i.ensures.index) (at_read c.args.desks.now.items c.index_of-i.result c.index_mut-desk.result.now _ c.index_of-i.ensures.inside c.index_mut-desk.ensures.value) in
    rw c.index_of-i.ensures.index (on_ok c.prepare.result (λ flag. map_get_set (λ (x : Desk). x.is_prepared) c.args.desks.now.items (c.args.k - 1) c.prepare.new.self c.index_mut-desk.result.now true at flag) c.prepare.ensures.ok)
