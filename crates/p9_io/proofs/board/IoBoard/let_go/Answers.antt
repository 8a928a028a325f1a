use Rattle.p9_io.proofs.Ready.{tracks_without}
use Rattle.p9_io.proofs.board.IoBoard.let_go.Goals as goal

pub returns-clause-stands : goal.returns-clause-stands
returns-clause-stands g c = rw (← c.self.view_is) (tracks_without (g.E.Gone.ends c.args.ending.now) _ _ c.let_go.ensures.shown)
