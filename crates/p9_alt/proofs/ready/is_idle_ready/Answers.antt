use Rattle.std.proofs.Common.{List, ap, ◌∙◌}
use Rattle.p9_manual.specs.declared.state.Party.{Party}
use Rattle.p9_manual.specs.ReadyEntries.{is_ready}
use Rattle.p9_alt.proofs.Waits.{others_all}
use Rattle.p9_alt.proofs.ready.is_idle_ready.Goals as goal

pub returns : goal.returns
returns c =
    c.is_ready.ensures ∙ ap (λ (ws : List Party). is_ready c.args.chans.now.chans ws c.args.e.now) (others_all c.args.tid c.args.waits.now c.requires.idle)
