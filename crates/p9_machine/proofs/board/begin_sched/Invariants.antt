use Rattle.std.proofs.Common.{take}
use Rattle.p9_sched.specs.Stands.{SchedFor}
use Rattle.p9_machine.proofs.Beginning.{first_state}
use Rattle.p9_machine.proofs.board.begin_sched.Given as goal

abbrev pub invariant-loop-thread : goal.invariant-loop-thread
invariant-loop-thread l = SchedFor l.setup.places l.sched (first_state l.setup (take l.thread-index l.thread-items))
