use Rattle.std.proofs.Common.{sym, subst, ◌≡◌, true}
use Rattle.p9_manual.specs.ReadyEntries.{fits}
use Rattle.p9_alt.specs.Exchange.{Exchange}
use Rattle.p9_alt.proofs.Fitting.{all_usable}
use Rattle.p9_alt.proofs.alts.Alts.ready_count.Goals as goal

pub ready_count-requires-clause-usable : goal.ready_count-requires-clause-usable
ready_count-requires-clause-usable c =
    let ok = subst (λ (x : Exchange). fits x.channels.chans c.args.entries.now ≡ true) (sym c.self.view_is) c.requires in
    rw c.as_slice.ensures (all_usable c.self.inside.chans c.args.entries.now ok)
