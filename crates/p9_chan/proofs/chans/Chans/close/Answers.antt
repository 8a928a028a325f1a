use Rattle.p9_manual.specs.Close.{closed_chan}
use Rattle.p9_chan.proofs.Changes.{change}
use Rattle.p9_chan.proofs.chans.Chans.close.Goals as goal

pub returns-clause-closed : goal.returns-clause-closed
returns-clause-closed c =
    change closed_chan c.args.c _ _ _ _ c.args.self.now (record { view_is = c.self.view_is; made = c.requires; is = c.index_mut-stored.ensures.value }) c.close.ensures.closed
