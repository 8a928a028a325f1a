use Rattle.std.proofs.Common.{◌≡◌, ◌-◌, Some, refl}
use Rattle.std.specs.Prelude.{slice_get}
use Rattle.p9_manual.specs.declared.state.Ioproc.TheVariants.{Idle, Posted}
use Rattle.p9_io.proofs.Shown.{at_read, shown_posted, count_resting}
use Rattle.p9_io.proofs.desks.post.Goals as goal

pub returns-clause-shown : goal.returns-clause-shown
returns-clause-shown c =
    let at : slice_get c.args.desks.now.items (c.args.k - 1) ≡ Some c.index_mut-desk.result.now =
    rw (← c.index_of-i.ensures.index) (at_read c.args.desks.now.items c.index_of-i.result c.index_mut-desk.result.now _ c.index_of-i.ensures.inside c.index_mut-desk.ensures.value) in
    rw c.index_of-i.ensures.index (shown_posted c.args.k c.args.t c.args.call c.args.desks.now.items c.post.new.self c.index_mut-desk.result.now at c.post.ensures.ioproc c.post.ensures.here c.post.ensures.prepared)

pub returns-clause-calls : goal.returns-clause-calls
returns-clause-calls c =
    let at : slice_get c.args.desks.now.items (c.args.k - 1) ≡ Some c.index_mut-desk.result.now =
    rw (← c.index_of-i.ensures.index) (at_read c.args.desks.now.items c.index_of-i.result c.index_mut-desk.result.now _ c.index_of-i.ensures.inside c.index_mut-desk.ensures.value) in
    rw c.index_of-i.ensures.index (count_resting c.args.k Idle (Posted c.args.t c.args.call) c.args.desks.now.items c.post.new.self c.index_mut-desk.result.now c.requires.idle refl refl at c.post.ensures.ioproc)
