use Rattle.std.proofs.Common.{◌≡◌, ◌-◌, Some}
use Rattle.std.specs.Prelude.{slice_get}
use Rattle.p9_manual.specs.declared.state.Ioproc.TheVariants.{Idle}
use Rattle.p9_io.proofs.Shown.{at_read, shown_put, count_finished, weighs_one}
use Rattle.p9_io.proofs.desks.free.Goals as goal

pub returns-clause-shown : goal.returns-clause-shown
returns-clause-shown c =
    let at : slice_get c.args.desks.now.items (c.args.k - 1) ≡ Some c.index_mut-desk.result.now =
    rw (← c.index_of-i.ensures.index) (at_read c.args.desks.now.items c.index_of-i.result c.index_mut-desk.result.now _ c.index_of-i.ensures.inside c.index_mut-desk.ensures.value) in
    rw c.index_of-i.ensures.index (shown_put c.args.k Idle c.args.desks.now.items c.rest.new.self c.index_mut-desk.result.now at c.rest.ensures.ioproc c.rest.ensures.here c.rest.ensures.prepared)

pub returns-clause-calls : goal.returns-clause-calls
returns-clause-calls c =
    let at : slice_get c.args.desks.now.items (c.args.k - 1) ≡ Some c.index_mut-desk.result.now =
    rw (← c.index_of-i.ensures.index) (at_read c.args.desks.now.items c.index_of-i.result c.index_mut-desk.result.now _ c.index_of-i.ensures.inside c.index_mut-desk.ensures.value) in
    rw c.index_of-i.ensures.index (count_finished (c.args.k - 1) c.args.desks.now.items c.rest.new.self c.index_mut-desk.result.now at c.rest.ensures.ioproc (weighs_one c.args.k c.args.desks.now.items c.index_mut-desk.result.now c.requires at))
