use Rattle.std.proofs.Common.{sym}
use Rattle.p9_manual.specs.AltEntries.{sends_on}
use Rattle.p9_alt.proofs.Deals.{find_passes}
use Rattle.p9_alt.proofs.commit.sender_out.Goals as goal

pub value_out-msg-requires-clause-sends : goal.value_out-msg-requires-clause-sends
value_out-msg-requires-clause-sends c =
    find_passes (sends_on c.args.c) c.args.waits.now.items c.in_ok-w.w (sym c.in_ok-w.ensures.first)
