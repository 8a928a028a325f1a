use Rattle.std.proofs.Common.{sym, ◌∙◌, ap, ◌≡◌}
use Rattle.std.specs.Prelude.{Option, None}
use Rattle.std.specs.List.{find}
use Rattle.p9_manual.specs.declared.state.Party.{Party}
use Rattle.p9_manual.specs.Commit.{refilled as refilled_with}
use Rattle.p9_manual.specs.AltEntries.{sends_on}
use Rattle.p9_chan.specs.Channels.{chan_of, elements_in, elsize_in, refilled}
use Rattle.p9_alt.proofs.Changes.{refilled_same}
use Rattle.p9_alt.proofs.Deals.{none_given}
use Rattle.p9_alt.proofs.commit.refill.Goals as goal

pub returns-in_err-wake-clause-chans : goal.returns-in_err-wake-clause-chans
returns-in_err-wake-clause-chans c =
    let x = c.args.chans.now in
    let none : None ≡ find (sends_on c.args.c) c.args.waits.now.items = none_given c.args.c _ (find (sends_on c.args.c) c.args.waits.now.items) (sym c.in_err-wake.was ∙ c.sender_out.ensures.gives) in
    sym (refilled_same c.args.c x c.requires.made) ∙ ap (λ (o : Option Party). refilled c.args.c (refilled_with c.args.c (elsize_in (chan_of c.args.c x)) (elements_in (chan_of c.args.c x)) o) x) none
