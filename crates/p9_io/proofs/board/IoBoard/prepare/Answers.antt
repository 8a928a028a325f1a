use Rattle.p9_io.proofs.Ready.{tracks_preparing}
use Rattle.p9_io.proofs.board.IoBoard.prepare.Goals as goal

pub returns-clause-stands : goal.returns-clause-stands
returns-clause-stands c = rw (← c.self.view_is) (tracks_preparing c.prepare.result c.args.k _ _ c.prepare.ensures.ok c.prepare.ensures.err)
