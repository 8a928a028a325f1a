use Rattle.std.proofs.Common.{sym, ◌∙◌, ap, ◌≡◌, ◌≢◌, ◌++◌, ◌∷◌, [], false}
use Rattle.p9_manual.specs.Commit.{element}
use Rattle.p9_chan.specs.Channels.{chan_of, elements_in, is_closed_in, cap_in}
use Rattle.std.specs.Prelude.{is_some}
use Rattle.p9_alt.proofs.Deals.{open_from, made_after, put_filled, sent_dealt, sent_left}
use Rattle.p9_alt.proofs.commit.send.Goals as goal

pub pass_on-woken-requires-clause-made : goal.pass_on-woken-requires-clause-made
pass_on-woken-requires-clause-made c =
    let x = c.args.chans.now in
    made_after c.args.c (elements_in (chan_of c.args.c x) ++ element c.args.turn.at c.args.value ∷ []) x c.put.new.self c.requires.made c.put.ensures

pub pass_on-woken-requires-clause-filled : goal.pass_on-woken-requires-clause-filled
pass_on-woken-requires-clause-filled c =
    let x = c.args.chans.now in
    put_filled c.args.c (elements_in (chan_of c.args.c x)) (element c.args.turn.at c.args.value) x c.put.new.self c.requires.made c.put.ensures

pub returns-clause-dealt : goal.returns-clause-dealt
returns-clause-dealt c =
    let x = c.args.chans.now in
    let unshut : is_closed_in (chan_of c.args.c x) ≡ false = open_from (chan_of c.args.c x) (sym (c.if-is_some.ensures ∙ ap is_some c.closing.ensures)) in
    let wide : cap_in (chan_of c.args.c x) ≢ 0 = λ e. c.if-cap-eq0.false (c.cap.ensures ∙ e) in
    sent_dealt c.args.turn c.args.c c.args.value x c.put.new.self c.args.waits.now.items c.sent_answer.result c.pass_on-woken.result c.requires.made unshut wide c.put.ensures c.sent_answer.ensures c.pass_on-woken.ensures.woken

pub returns-clause-left : goal.returns-clause-left
returns-clause-left c =
    let x = c.args.chans.now in
    let unshut : is_closed_in (chan_of c.args.c x) ≡ false = open_from (chan_of c.args.c x) (sym (c.if-is_some.ensures ∙ ap is_some c.closing.ensures)) in
    let wide : cap_in (chan_of c.args.c x) ≢ 0 = λ e. c.if-cap-eq0.false (c.cap.ensures ∙ e) in
    sent_left c.args.turn c.args.c c.args.value x c.put.new.self c.pass_on-woken.new.chans c.args.waits.now.items c.pass_on-woken.new.waits.items c.requires.made unshut wide c.put.ensures c.pass_on-woken.ensures.chans c.pass_on-woken.ensures.waits
