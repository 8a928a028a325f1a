use Rattle.p9_manual.specs.State.{by_id}
use Rattle.p9_io.proofs.Ready.{tracks_begun}
use Rattle.p9_io.proofs.board.IoBoard.take.Goals as goal

pub returns-clause-stands : goal.returns-clause-stands
returns-clause-stands c = tracks_begun c.args.k (by_id c.args.self.now.ioprocs c.args.k) c.args.self.now _ (rw (← c.self.view_is) c.take.ensures.shown)
