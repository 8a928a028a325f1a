use Rattle.p9_manual.specs.Close.{freed_chan}
use Rattle.p9_chan.proofs.Changes.{change}
use Rattle.p9_chan.proofs.chans.Chans.free.Goals as goal

pub returns : goal.returns
returns c =
    change freed_chan c.args.c _ _ _ _ c.args.self.now (record { view_is = c.self.view_is; made = c.requires; is = c.index_mut-stored.ensures.value }) c.free.ensures
