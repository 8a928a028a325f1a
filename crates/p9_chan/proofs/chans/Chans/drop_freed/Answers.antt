use Rattle.p9_chan.specs.Channels.{emptied_chan}
use Rattle.p9_chan.proofs.Changes.{change}
use Rattle.p9_chan.proofs.chans.Chans.drop_freed.Goals as goal

pub returns : goal.returns
returns c =
    change emptied_chan c.args.c _ _ _ _ c.args.self.now (record { view_is = c.self.view_is; made = c.requires; is = c.index_mut-stored.ensures.value }) c.drop_freed.ensures
