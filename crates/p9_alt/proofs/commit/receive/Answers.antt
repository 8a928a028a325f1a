use Rattle.std.proofs.Common.{sym, ◌∙◌, ap, ◌≡◌, false}
use Rattle.std.specs.Prelude.{is_some}
use Rattle.p9_chan.specs.Channels.{Channels, chan_of, elements_in, elsize_in, is_closed_in}
use Rattle.p9_alt.proofs.Deals.{open_from, made_after, room_after, closed-refilled, elsize-refilled, taken_left, over_dealt, over_left}
use Rattle.p9_alt.proofs.commit.receive.Goals as goal

pub refill-woken-requires-clause-made : goal.refill-woken-requires-clause-made
refill-woken-requires-clause-made c =
    made_after c.args.c (elements_in (chan_of c.args.c c.take.new.self)) c.args.chans.now c.take.new.self c.requires.made c.in-Some.ensures.taken.1

pub refill-woken-requires-clause-room : goal.refill-woken-requires-clause-room
refill-woken-requires-clause-room c =
    room_after c.args.c c.in-Some.x (elements_in (chan_of c.args.c c.take.new.self)) c.args.chans.now c.take.new.self c.requires.made c.in-Some.ensures.taken.1 c.in-Some.ensures.taken.0 c.take.ensures.within

pub refill-woken-requires-clause-open : goal.refill-woken-requires-clause-open
refill-woken-requires-clause-open c =
    λ e. c.requires.«open» (sym (closed-refilled c.args.c (elements_in (chan_of c.args.c c.take.new.self)) c.args.chans.now c.take.new.self c.requires.made c.in-Some.ensures.taken.1) ∙ e)

pub refill-woken-requires-clause-zeros : goal.refill-woken-requires-clause-zeros
refill-woken-requires-clause-zeros c =
    let e = elsize-refilled c.args.c (elements_in (chan_of c.args.c c.take.new.self)) c.args.chans.now c.take.new.self c.requires.made c.in-Some.ensures.taken.1 in
    rw e c.requires.zeros

pub returns-in-Some-clause-left : goal.returns-in-Some-clause-left
returns-in-Some-clause-left c =
    taken_left c.args.turn c.args.slot c.args.c c.in-Some.x c.args.chans.now c.take.new.self c.refill-woken.new.chans c.args.waits.now.items c.refill-woken.new.waits.items c.requires.made c.in-Some.ensures.taken.0 c.in-Some.ensures.taken.1 c.refill-woken.ensures.chans c.refill-woken.ensures.waits

pub returns-else-is_some-clause-dealt : goal.returns-else-is_some-clause-dealt
returns-else-is_some-clause-dealt c =
    let x = c.args.chans.now in
    let same = c.in-None.ensures.taken.1 in
    let unshut : is_closed_in (chan_of c.args.c c.take.new.self) ≡ false = open_from (chan_of c.args.c c.take.new.self) (sym (c.if-is_some.ensures ∙ ap is_some c.closing.ensures)) in
    let shut : is_closed_in (chan_of c.args.c x) ≡ false = ap (λ (k : Channels). is_closed_in (chan_of c.args.c k)) (sym same) ∙ unshut in
    let size = c.elsize.ensures ∙ ap (λ (k : Channels). elsize_in (chan_of c.args.c k)) same in
    over_dealt c.args.turn c.args.slot c.args.c x c.args.waits.now.items c.take_over.result c.requires.made c.in-None.ensures.taken.0 shut (rw (← size) c.take_over.ensures.answer) c.take_over.ensures.woken

pub returns-else-is_some-clause-left : goal.returns-else-is_some-clause-left
returns-else-is_some-clause-left c =
    let x = c.args.chans.now in
    let same = c.in-None.ensures.taken.1 in
    let unshut : is_closed_in (chan_of c.args.c c.take.new.self) ≡ false = open_from (chan_of c.args.c c.take.new.self) (sym (c.if-is_some.ensures ∙ ap is_some c.closing.ensures)) in
    let shut : is_closed_in (chan_of c.args.c x) ≡ false = ap (λ (k : Channels). is_closed_in (chan_of c.args.c k)) (sym same) ∙ unshut in
    over_left c.args.turn c.args.slot c.args.c x c.take.new.self c.args.waits.now.items c.take_over.new.waits.items c.requires.made c.in-None.ensures.taken.0 shut same c.take_over.ensures.waits
