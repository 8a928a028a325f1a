use Rattle.std.proofs.Common.{◌≡◌, ◌-◌, Some}
use Rattle.std.specs.Prelude.{slice_get}
use Rattle.p9_io.proofs.Shown.{at_read, shown_lent}
use Rattle.p9_io.proofs.desks.lend.Goals as goal

pub returns-clause-shown : goal.returns-clause-shown
returns-clause-shown c =
    let at : slice_get c.args.desks.now.items (c.args.k - 1) ≡ Some c.index_mut-desk.result.now =
    rw (← c.index_of-i.ensures.index) (at_read c.args.desks.now.items c.index_of-i.result c.index_mut-desk.result.now _ c.index_of-i.ensures.inside c.index_mut-desk.ensures.value) in
    rw c.index_of-i.ensures.index (shown_lent c.args.k c.args.desks.now.items c.lend.new.self c.index_mut-desk.result.now at c.lend.ensures.ioproc c.lend.ensures.here c.lend.ensures.prepared)
