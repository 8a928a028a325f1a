use Rattle.std.proofs.Common.{◌∷◌, ◌++◌, [], ◌∙◌, sym, ap}
use Rattle.p9_manual.specs.Commit.{holding}
use Rattle.p9_chan.specs.Channels.{elements_in, refilled}
use Rattle.p9_chan.proofs.Changes.{IsAt, chan_is, change}
use Rattle.p9_chan.proofs.chans.Chans.put.Goals as goal

pub returns : goal.returns
returns c =
    let at : IsAt c.args.c c.index_mut-stored.result.now _ _ c.args.self.now = record { view_is = c.self.view_is; made = c.requires.made; is = c.index_mut-stored.ensures.value } in
    let old = ap elements_in (chan_is _ _ _ _ _ at) in
    change (holding (c.index_mut-stored.result.now.elements ++ c.args.element ∷ [])) _ _ _ _ _ _ at c.put.ensures
    ∙ ap (λ es. refilled c.args.c (es ++ c.args.element ∷ []) c.args.self.now) (sym old)
