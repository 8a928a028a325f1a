use Rattle.std.proofs.Common.{List, length, ap, ◌∙◌}
use Rattle.p9_manual.specs.declared.state.Party.{Party}
use Rattle.p9_manual.specs.ReadyEntries.{ready_entries}
use Rattle.p9_alt.proofs.Waits.{others_all}
use Rattle.p9_alt.proofs.ready.idle_count.Goals as goal

pub returns : goal.returns
returns c =
    c.ready_count.ensures ∙ ap (λ (ws : List Party). length (ready_entries c.args.chans.now.chans ws c.args.entries.now)) (others_all c.args.tid c.args.waits.now c.requires.idle)
