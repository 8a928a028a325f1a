use Rattle.p9_machine.proofs.Dispatch.{stands_places}
use Rattle.p9_machine.proofs.machine.Machine.reserve.Goals as goal
use Rattle.p9_machine.proofs.machine.Machine.reserve.Goals.{then-spare-begun+in_ok-reserve, else-spare-begun}

pub reserve_for-requires-clause-places : goal.reserve_for-requires-clause-places
reserve_for-requires-clause-places c =
    let places = stands_places c.self.inside.board _ c.self.invariant.board in
    elim c.if-spare-begun.branch [ then-spare-begun+in_ok-reserve w ↦ rw w.self-inside-is places | else-spare-begun w ↦ rw w.self-inside-is places ]
