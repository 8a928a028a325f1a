use Rattle.std.proofs.Common.{◌≡◌, Some, None, true, false, ap, sym, ◌∙◌}
use Rattle.p9_manual.specs.State.{by_id}
use Rattle.p9_chan.specs.Channels.{Channels, is_live_in, left_in}
use Rattle.p9_chan_calls.proofs.OnChannels.{closing_none, closing_left, closing_open}
use Rattle.p9_chan_calls.proofs.channels.closing.Goals as goal

pub returns-then-not-is_live-clause-serves : goal.returns-then-not-is_live-clause-serves
returns-then-not-is_live-clause-serves c =
    let dead = sym c.is_live.ensures.live ∙ c.if-not-is_live.true in
    let there : is_live_in (by_id c.args.alts.now.channels.chans c.args.c) ≡ false = sym (ap (λ (x : Channels). is_live_in (by_id x.chans c.args.c)) c.chans.ensures) ∙ dead in
    closing_none c.args.alts.now c.args.c there

pub returns-in-Some-clause-serves : goal.returns-in-Some-clause-serves
returns-in-Some-clause-serves c =
    let there : is_live_in (by_id c.args.alts.now.channels.chans c.args.c) ≡ true = sym (ap (λ (x : Channels). is_live_in (by_id x.chans c.args.c)) c.chans.ensures) ∙ (sym c.is_live.ensures.live ∙ c.if-not-is_live.false) in
    let left : Some c.in-Some.left ≡ left_in (by_id c.args.alts.now.channels.chans c.args.c) = sym c.in-Some.is ∙ (c.closing.ensures ∙ ap (λ (x : Channels). left_in (by_id x.chans c.args.c)) c.chans-2.ensures) in
    closing_left c.args.alts.now c.args.c c.in-Some.left there left

pub returns-in-None-clause-serves : goal.returns-in-None-clause-serves
returns-in-None-clause-serves c =
    let there : is_live_in (by_id c.args.alts.now.channels.chans c.args.c) ≡ true = sym (ap (λ (x : Channels). is_live_in (by_id x.chans c.args.c)) c.chans.ensures) ∙ (sym c.is_live.ensures.live ∙ c.if-not-is_live.false) in
    let left : None ≡ left_in (by_id c.args.alts.now.channels.chans c.args.c) = sym c.in-None.is ∙ (c.closing.ensures ∙ ap (λ (x : Channels). left_in (by_id x.chans c.args.c)) c.chans-2.ensures) in
    closing_open c.args.alts.now c.args.c there left
