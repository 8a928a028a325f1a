use Rattle.p9_manual.specs.State.{by_id}
use Rattle.std.proofs.Common.{refl}
use Rattle.p9_io.proofs.Ready.{tracks_interrupted}
use Rattle.p9_io.proofs.board.IoBoard.interrupt.Goals as goal

pub returns-clause-stands : goal.returns-clause-stands
returns-clause-stands c = tracks_interrupted c.args.k (by_id c.args.self.now.ioprocs c.args.k) c.args.self.now _ refl (rw (← c.self.view_is) c.interrupt.ensures.shown)
