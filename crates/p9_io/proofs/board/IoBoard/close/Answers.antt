use Rattle.std.proofs.Common.{refl}
use Rattle.p9_manual.specs.declared.state.Ioproc.TheVariants.{Closed}
use Rattle.p9_io.proofs.Ready.{tracks_resting}
use Rattle.p9_io.proofs.board.IoBoard.close.Goals as goal

pub returns-clause-stands : goal.returns-clause-stands
returns-clause-stands c = rw (← c.self.view_is) (tracks_resting c.args.k Closed _ _ refl c.close.ensures.shown)
