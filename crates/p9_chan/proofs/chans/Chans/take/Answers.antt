use Rattle.std.proofs.Common.{refl}
use Rattle.p9_chan.proofs.Changes.{IsAt, chan_is, taken}
use Rattle.p9_chan.proofs.chans.Chans.take.Goals as goal

pub returns-clause-taken : goal.returns-clause-taken
returns-clause-taken c =
    let at : IsAt c.args.c c.index_mut-stored.result.now _ _ c.args.self.now = record { view_is = c.self.view_is; made = c.requires; is = c.index_mut-stored.ensures.value } in
    taken c.take.result _ _ _ _ _ _ _ at refl c.take.ensures.taken

pub returns-clause-within : goal.returns-clause-within
returns-clause-within c =
    let at : IsAt c.args.c c.index_mut-stored.result.now _ _ c.args.self.now = record { view_is = c.self.view_is; made = c.requires; is = c.index_mut-stored.ensures.value } in
    rw (chan_is _ _ _ _ _ at) c.take.ensures.within
