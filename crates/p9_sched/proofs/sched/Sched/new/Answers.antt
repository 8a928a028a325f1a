use Rattle.std.proofs.Common.{◌≡◌, []}
use Rattle.p9_sched.specs.Rooms.{no_rooms}
use Rattle.p9_sched.proofs.Sound.{first_sound}
use Rattle.p9_sched.proofs.Views.{first_view}
use Rattle.p9_sched.proofs.sched.Sched.new.Goals as goal

pub invariant_of-result : goal.invariant_of-result
invariant_of-result c =
    let table : c.new-2.result ≡ record { threads = []; rooms = no_rooms } = c.new-2.ensures in
    rw table (first_sound c.in_ok-lanes.lanes c.args.places c.in_ok-lanes.ensures)

pub returns : goal.returns
returns c =
    let table : c.new-2.result ≡ record { threads = []; rooms = no_rooms } = c.new-2.ensures in
    rw table (first_view c.in_ok-lanes.lanes c.args.places c.args.opened c.in_ok-lanes.ensures)
