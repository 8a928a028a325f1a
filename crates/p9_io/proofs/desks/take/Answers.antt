use Rattle.std.proofs.Common.{◌≡◌, ◌-◌, Some}
use Rattle.std.specs.Prelude.{slice_get, slice_set}
use Rattle.p9_io.proofs.Shown.{Begins, at_read, begins}
use Rattle.p9_io.proofs.desks.take.Goals as goal

all : (c : goal.After-desks-1) → Begins c.args.k c.args.desks.now.items (slice_set c.args.desks.now.items c.index_of-i.result c.take.new.self)
all c =
    let at : slice_get c.args.desks.now.items (c.args.k - 1) ≡ Some c.index_mut-desk.result.now =
    rw (← c.index_of-i.ensures.index) (at_read c.args.desks.now.items c.index_of-i.result c.index_mut-desk.result.now _ c.index_of-i.ensures.inside c.index_mut-desk.ensures.value) in
    rw c.index_of-i.ensures.index (begins c.args.k c.args.desks.now.items c.take.new.self c.index_mut-desk.result.now c.requires at c.take.ensures.ioproc c.take.ensures.here c.take.ensures.prepared)

pub returns-clause-shown : goal.returns-clause-shown
returns-clause-shown c = (all c).shown

pub returns-clause-calls : goal.returns-clause-calls
returns-clause-calls c = (all c).calls

pub returns-clause-few : goal.returns-clause-few
returns-clause-few c = (all c).few

pub returns-clause-here : goal.returns-clause-here
returns-clause-here c = (all c).here
