use Rattle.std.proofs.Common.{ap}
use Rattle.p9_io.specs.Calls.{begun_count}
use Rattle.p9_machine.proofs.Memory.{io_memory}
use Rattle.p9_machine.proofs.reserve.for_take.Goals as goal

pub returns-clause-takes : goal.returns-clause-takes
returns-clause-takes c = io_memory c.args.board.now c.reserve.new.io c.reserve.ensures.stands c.reserve.ensures.rooms (ap begun_count c.reserve.ensures.ioprocs)
