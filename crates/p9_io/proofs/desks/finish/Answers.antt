use Rattle.std.proofs.Common.{◌≡◌, ◌-◌, Some}
use Rattle.std.specs.Prelude.{slice_get}
use Rattle.p9_manual.specs.declared.state.Ioproc.TheVariants.{Idle}
use Rattle.p9_io.proofs.Shown.{at_read, shown_put, shown_same, on_some, on_some_both, if_none, count_finished}
use Rattle.p9_io.proofs.Counts.{finished_was_begun}
use Rattle.p9_io.proofs.desks.finish.Goals as goal

pub returns-clause-some : goal.returns-clause-some
returns-clause-some c =
    let at : slice_get c.args.desks.now.items (c.args.k - 1) ≡ Some c.index_mut-desk.result.now =
    rw (← c.index_of-i.ensures.index) (at_read c.args.desks.now.items c.index_of-i.result c.index_mut-desk.result.now _ c.index_of-i.ensures.inside c.index_mut-desk.ensures.value) in
    rw c.index_of-i.ensures.index (on_some c.finish.result (λ idle. shown_put c.args.k Idle c.args.desks.now.items c.finish.new.self c.index_mut-desk.result.now at idle c.finish.ensures.here c.finish.ensures.prepared) c.finish.ensures.some)

pub returns-clause-none : goal.returns-clause-none
returns-clause-none c =
    let at : slice_get c.args.desks.now.items (c.args.k - 1) ≡ Some c.index_mut-desk.result.now =
    rw (← c.index_of-i.ensures.index) (at_read c.args.desks.now.items c.index_of-i.result c.index_mut-desk.result.now _ c.index_of-i.ensures.inside c.index_mut-desk.ensures.value) in
    rw c.index_of-i.ensures.index (if_none c.finish.result (λ same. shown_same (c.args.k - 1) c.args.desks.now.items c.finish.new.self c.index_mut-desk.result.now at same c.finish.ensures.here c.finish.ensures.prepared) c.finish.ensures.none)

pub returns-clause-calls : goal.returns-clause-calls
returns-clause-calls c =
    let at : slice_get c.args.desks.now.items (c.args.k - 1) ≡ Some c.index_mut-desk.result.now =
    rw (← c.index_of-i.ensures.index) (at_read c.args.desks.now.items c.index_of-i.result c.index_mut-desk.result.now _ c.index_of-i.ensures.inside c.index_mut-desk.ensures.value) in
    rw c.index_of-i.ensures.index (on_some_both c.finish.result (λ idle weight. count_finished (c.args.k - 1) c.args.desks.now.items c.finish.new.self c.index_mut-desk.result.now at idle weight) c.finish.ensures.some (finished_was_begun c.args.effect.now c.index_mut-desk.result.now.ioproc c.finish.result c.finish.ensures.finished))
