use Rattle.std.proofs.Common.{◌≡◌, ◌-◌, length, ap, sym, subst, ◌∙◌, arith}
use Rattle.p9_manual.specs.Close.{freed_chan}
use Rattle.p9_chan.specs.Channels.{Channels, IsMade}
use Rattle.p9_alt.specs.Exchange.{Exchange}
use Rattle.p9_alt.proofs.Changes.{length-changed}
use Rattle.p9_alt.proofs.alts.Alts.free.Goals as goal

pub drop_freed-requires : goal.drop_freed-requires
drop_freed-requires c =
    let old = c.self.inside.chans in
    let made : IsMade c.args.c old = subst (λ (x : Exchange). IsMade c.args.c x.channels) (sym c.self.view_is) c.requires in
    let long : length c.free.new.self.chans ≡ length old.chans = ap (λ (x : Channels). length x.chans) c.free.ensures ∙ length-changed freed_chan old.chans (c.args.c - 1) in
    let to = made.to in
    record { from = made.from; to = omega arith }
