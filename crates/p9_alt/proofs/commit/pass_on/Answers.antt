use Rattle.std.proofs.Common.{sym, ◌∙◌, ap, ◌≡◌}
use Rattle.std.specs.Prelude.{Option, None}
use Rattle.std.specs.List.{find}
use Rattle.p9_manual.specs.declared.state.Party.{Party}
use Rattle.p9_manual.specs.AltEntries.{receives_on}
use Rattle.p9_chan.specs.Channels.{chan_of, elements_in, refilled}
use Rattle.p9_alt.specs.Passing.{passed_rest}
use Rattle.p9_alt.proofs.Changes.{refilled_same}
use Rattle.p9_alt.proofs.commit.pass_on.Goals as goal

pub returns-in_err-w-clause-chans : goal.returns-in_err-w-clause-chans
returns-in_err-w-clause-chans c =
    let x = c.args.chans.now in
    let none : None ≡ find (receives_on c.args.c) c.args.waits.now.items = sym c.in_err-w.was ∙ c.first_out.ensures.first in
    sym (refilled_same c.args.c x c.requires.made) ∙ ap (λ (o : Option Party). refilled c.args.c (passed_rest o (elements_in (chan_of c.args.c x))) x) none
