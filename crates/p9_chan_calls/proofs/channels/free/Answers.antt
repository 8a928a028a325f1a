use Rattle.std.proofs.Common.{◌≡◌, true, false, ap, sym, ◌∙◌}
use Rattle.p9_manual.specs.State.{by_id}
use Rattle.p9_chan.specs.Channels.{Channels, is_live_in}
use Rattle.p9_chan_calls.proofs.OnChannels.{free_none, free_gone}
use Rattle.p9_chan_calls.proofs.channels.free.Goals as goal

pub returns-then-not-is_live-clause-serves : goal.returns-then-not-is_live-clause-serves
returns-then-not-is_live-clause-serves c =
    let dead = sym c.is_live.ensures.live ∙ c.if-not-is_live.true in
    let there : is_live_in (by_id c.args.alts.now.channels.chans c.args.c) ≡ false = sym (ap (λ (x : Channels). is_live_in (by_id x.chans c.args.c)) c.chans.ensures) ∙ dead in
    free_none c.args.alts.now c.args.c there

pub returns-clause-serves : goal.returns-clause-serves
returns-clause-serves c =
    let there : is_live_in (by_id c.args.alts.now.channels.chans c.args.c) ≡ true = sym (ap (λ (x : Channels). is_live_in (by_id x.chans c.args.c)) c.chans.ensures) ∙ (sym c.is_live.ensures.live ∙ c.if-not-is_live.false) in
    free_gone c.args.alts.now c.free.new.self c.args.c there c.free.ensures
