use Rattle.std.proofs.Common.{◌≡◌, List, ◌++◌, true, false, map, ap, sym, ◌∙◌, subst}
use Rattle.std.specs.Prelude.{count_by}
use Rattle.p9_word.specs.Filled.{Filled}
use Rattle.p9_manual.specs.Close.{all_failed}
use Rattle.p9_manual.specs.AltEntries.{waits_on}
use Rattle.p9_manual.specs.State.{by_id}
use Rattle.p9_chan.specs.Channels.{Channels, is_live_in}
use Rattle.p9_alt.specs.declared.offer.Wake.{Wake}
use Rattle.p9_alt.specs.Exchange.{pair_of}
use Rattle.p9_chan_calls.specs.Spares.{IsRoomFor}
use Rattle.p9_chan_calls.specs.Wakes.{pairs_of}
use Rattle.p9_chan_calls.specs.declared.memory.Spare.{Spare}
use Rattle.p9_chan_calls.proofs.Closes.{close_none, close_again, close_serves, failed_wait, told_closed, was_closed, was_open}
use Rattle.p9_chan_calls.proofs.channels.close.Goals as goal

pub returns-then-not-is_live-clause-serves : goal.returns-then-not-is_live-clause-serves
returns-then-not-is_live-clause-serves c = λ setup at generator s h.
    let there : is_live_in (by_id c.args.alts.now.channels.chans c.args.c) ≡ false = sym (ap (λ (x : Channels). is_live_in (by_id x.chans c.args.c)) c.chans.ensures) ∙ (sym c.is_live.ensures.live ∙ c.if-not-is_live.true) in
    close_none setup at c.args.sched.now c.args.alts.now generator s c.args.c h there

pub returns-then-not-close-clause-serves : goal.returns-then-not-close-clause-serves
returns-then-not-close-clause-serves c = λ setup at generator s h.
    let there : is_live_in (by_id c.args.alts.now.channels.chans c.args.c) ≡ true = sym (ap (λ (x : Channels). is_live_in (by_id x.chans c.args.c)) c.chans.ensures) ∙ (sym c.is_live.ensures.live ∙ c.if-not-is_live.false) in
    let same = (c.close.ensures.again c.if-not-close.true).0 in
    rw same (close_again setup at c.args.sched.now c.args.alts.now generator s c.args.c h there (was_closed c.close.result _ c.close.ensures.first c.if-not-close.true))

pub wake_all-requires-clause-waiting : goal.wake_all-requires-clause-waiting
wake_all-requires-clause-waiting c =
    let room = subst (λ (x : Spare). IsRoomFor (count_by (waits_on c.args.c) c.args.alts.now.waits) x) c.in-Wakes.is c.requires.room in
    let empty = ap (λ (r : Filled Wake). r.items) c.deref_mut.ensures.value ∙ room.0 in
    let read = ap pairs_of c.as_slice.ensures ∙ ap (λ (r : Filled Wake). pairs_of r.items) c.deref.ensures in
    let pairs = read ∙ (c.close.ensures.woken c.if-not-close.false ∙ ap (λ (ws : List Wake). map pair_of ws ++ all_failed c.args.c c.args.alts.now.waits) empty) in
    let b = c.requires.stands in
    failed_wait b.2.0 b.0 c.args.sched.now c.args.alts.now b.1 b.2.1 c.args.c b.2.2 _ pairs

pub wake_all-requires-clause-failed : goal.wake_all-requires-clause-failed
wake_all-requires-clause-failed c =
    let room = subst (λ (x : Spare). IsRoomFor (count_by (waits_on c.args.c) c.args.alts.now.waits) x) c.in-Wakes.is c.requires.room in
    let empty = ap (λ (r : Filled Wake). r.items) c.deref_mut.ensures.value ∙ room.0 in
    let read = ap pairs_of c.as_slice.ensures ∙ ap (λ (r : Filled Wake). pairs_of r.items) c.deref.ensures in
    let pairs = read ∙ (c.close.ensures.woken c.if-not-close.false ∙ ap (λ (ws : List Wake). map pair_of ws ++ all_failed c.args.c c.args.alts.now.waits) empty) in
    told_closed c.args.c c.args.alts.now.waits _ pairs

pub returns-clause-serves : goal.returns-clause-serves
returns-clause-serves c = λ setup at generator s h.
    let there : is_live_in (by_id c.args.alts.now.channels.chans c.args.c) ≡ true = sym (ap (λ (x : Channels). is_live_in (by_id x.chans c.args.c)) c.chans.ensures) ∙ (sym c.is_live.ensures.live ∙ c.if-not-is_live.false) in
    let room = subst (λ (x : Spare). IsRoomFor (count_by (waits_on c.args.c) c.args.alts.now.waits) x) c.in-Wakes.is c.requires.room in
    let empty = ap (λ (r : Filled Wake). r.items) c.deref_mut.ensures.value ∙ room.0 in
    let read = ap pairs_of c.as_slice.ensures ∙ ap (λ (r : Filled Wake). pairs_of r.items) c.deref.ensures in
    let pairs = read ∙ (c.close.ensures.woken c.if-not-close.false ∙ ap (λ (ws : List Wake). map pair_of ws ++ all_failed c.args.c c.args.alts.now.waits) empty) in
    close_serves setup at c.args.sched.now c.args.alts.now generator s c.args.c h c.wake_all.new.sched c.close.new.self (pairs_of c.as_slice.result.now) there (was_open c.close.result _ c.close.ensures.first c.if-not-close.false) (c.close.ensures.closed c.if-not-close.false) pairs c.wake_all.ensures
