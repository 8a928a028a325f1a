use Rattle.p9_machine.proofs.Dispatch.{stands_places}
use Rattle.p9_machine.proofs.groups.served.Goals as goal

pub thread_call-requires-clause-places : goal.thread_call-requires-clause-places
thread_call-requires-clause-places c =
    let b = c.requires.board in
    stands_places c.args.board.now b.0 b.1.0
