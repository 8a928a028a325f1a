use Rattle.p9_sched.proofs.Sound.{roomy, reserve_sound}
use Rattle.p9_sched.proofs.Views.{on_err, roomy_same, reserved_ok, reserved_err}
use Rattle.p9_sched.proofs.Tracks.{tracks_rooms, tracks_reserved}
use Rattle.p9_sched.proofs.sched.Sched.reserve.Goals as goal

pub invariant_of-self : goal.invariant_of-self
invariant_of-self c =
    roomy c.self.inside.table.threads c.self.inside.lanes c.reserve.new.self c.self.inside.table.rooms.thread c.reserve.ensures.same c.reserve.ensures.more c.self.invariant

pub returns-in_err-reserve-clause-err : goal.returns-in_err-reserve-clause-err
returns-in_err-reserve-clause-err c =
    on_err c.from_residual.result _ (roomy_same c.self.inside c.args.self.now c.reserve.new.self c.self.view_is c.reserve.ensures.same)

pub invariant_of-self-2 : goal.invariant_of-self-2
invariant_of-self-2 c =
    let e = c.in_ok-reserve.ensures in
    reserve_sound c.reserve-2.result c.self.inside.table c.reserve-2.new.self c.self.inside.lanes c.reserve.new.self c.reserve-2.ensures.ok c.reserve-2.ensures.err c.reserve.ensures.same c.reserve.ensures.more e.ok c.self.invariant

pub returns-clause-ok : goal.returns-clause-ok
returns-clause-ok c =
    reserved_ok c.reserve-2.result c.self.inside c.args.self.now c.reserve-2.new.self c.reserve.new.self c.reserve-2.ensures.ok c.self.view_is c.reserve.ensures.same

pub returns-clause-err : goal.returns-clause-err
returns-clause-err c =
    reserved_err c.reserve-2.result c.self.inside c.args.self.now c.reserve-2.new.self c.reserve.new.self c.reserve-2.ensures.err c.self.view_is c.reserve.ensures.same

pub returns-in_err-reserve-clause-stands : goal.returns-in_err-reserve-clause-stands
returns-in_err-reserve-clause-stands c = tracks_rooms _ c.args.self.now _ (roomy_same c.self.inside c.args.self.now c.reserve.new.self c.self.view_is c.reserve.ensures.same)

pub returns-clause-stands : goal.returns-clause-stands
returns-clause-stands c = tracks_reserved c.reserve-2.result c.args.self.now _ (returns-clause-ok c) (returns-clause-err c)
