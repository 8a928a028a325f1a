use Rattle.p9_io.proofs.Ready.{tracks_posted}
use Rattle.p9_io.proofs.board.IoBoard.post.Goals as goal

pub returns-clause-stands : goal.returns-clause-stands
returns-clause-stands c = rw (← c.self.view_is) (tracks_posted c.args.k c.args.t c.args.call _ _ c.post.ensures.shown)
