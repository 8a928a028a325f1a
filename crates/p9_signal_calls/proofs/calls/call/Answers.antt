use Rattle.std.proofs.Common.{◌≡◌, ℕ, List, Bool, refl}
use Rattle.p9_word.specs.declared.request.SignalReq.TheVariants as ask
use Rattle.p9_manual.specs.Interrupt.{interrupt, kill, signal_group, signal_thread}
use Rattle.p9_manual.specs.NoteCalls.{notify, post}
use Rattle.p9_manual.specs.Signals.{signal_call}
use Rattle.p9_manual.specs.State.{State, by_id}
use Rattle.p9_signal_calls.proofs.Calling.{serves_as}
use Rattle.p9_signal_calls.proofs.Noting.{caller_place}
use Rattle.p9_signal_calls.proofs.calls.call.Goals as goal

int_is : (t u : ℕ) (s : State) → signal_call t (ask.ThreadInt u) s ≡ signal_thread interrupt u s (by_id s.threads u)
unfolding signal_call
int_is t u s = refl

kill_is : (t u : ℕ) (s : State) → signal_call t (ask.ThreadKill u) s ≡ signal_thread kill u s (by_id s.threads u)
unfolding signal_call
kill_is t u s = refl

int_group_is : (t g : ℕ) (s : State) → signal_call t (ask.ThreadIntGrp g) s ≡ signal_group interrupt g s
unfolding signal_call
int_group_is t g s = refl

kill_group_is : (t g : ℕ) (s : State) → signal_call t (ask.ThreadKillGrp g) s ≡ signal_group kill g s
unfolding signal_call
kill_group_is t g s = refl

notify_is : (t : ℕ) (on : Bool) (id : ℕ) (prefix : List ℕ) (s : State) → signal_call t (ask.ThreadNotify on id prefix) s ≡ notify on id prefix s (by_id s.threads t)
unfolding signal_call
notify_is t on id prefix s = refl

post_is : (t p : ℕ) (note : List ℕ) (s : State) → signal_call t (ask.PostNote p note) s ≡ post p note s
unfolding signal_call
post_is t p note s = refl

pub returns-in-ThreadInt-clause-serves : goal.returns-in-ThreadInt-clause-serves
returns-in-ThreadInt-clause-serves c = serves_as c.args.t c.args.request _ _ _ _ _ _ _ _ _ _ _ c.in-ThreadInt.is (int_is c.args.t c.in-ThreadInt.tid) (c.signal_thread.ensures.serves c.args.notes.now)

pub returns-in-ThreadKill-clause-serves : goal.returns-in-ThreadKill-clause-serves
returns-in-ThreadKill-clause-serves c = serves_as c.args.t c.args.request _ _ _ _ _ _ _ _ _ _ _ c.in-ThreadKill.is (kill_is c.args.t c.in-ThreadKill.tid) (c.signal_thread-in-ThreadKill.ensures.serves c.args.notes.now)

pub returns-in-ThreadIntGrp-clause-serves : goal.returns-in-ThreadIntGrp-clause-serves
returns-in-ThreadIntGrp-clause-serves c = serves_as c.args.t c.args.request _ _ _ _ _ _ _ _ _ _ _ c.in-ThreadIntGrp.is (int_group_is c.args.t c.in-ThreadIntGrp.group) (c.signal_group.ensures.serves c.args.notes.now)

pub returns-in-ThreadKillGrp-clause-serves : goal.returns-in-ThreadKillGrp-clause-serves
returns-in-ThreadKillGrp-clause-serves c = serves_as c.args.t c.args.request _ _ _ _ _ _ _ _ _ _ _ c.in-ThreadKillGrp.is (kill_group_is c.args.t c.in-ThreadKillGrp.group) (c.signal_group-in-ThreadKillGrp.ensures.serves c.args.notes.now)

pub returns-in-ThreadNotify-clause-serves : goal.returns-in-ThreadNotify-clause-serves
returns-in-ThreadNotify-clause-serves c = serves_as c.args.t c.args.request _ _ _ _ _ _ _ _ _ _ _ c.in-ThreadNotify.is (notify_is c.args.t c.in-ThreadNotify.on c.in-ThreadNotify.id c.in-ThreadNotify.prefix) (c.notify.ensures.serves c.args.alts.now c.args.locks.now)

pub returns-in-PostNote-clause-serves : goal.returns-in-PostNote-clause-serves
returns-in-PostNote-clause-serves c = serves_as c.args.t c.args.request _ _ _ _ _ _ _ _ _ _ _ c.in-PostNote.is (post_is c.args.t c.in-PostNote.proc_no c.in-PostNote.note) c.post.ensures.serves

pub notify-requires-clause-place : goal.notify-requires-clause-place
notify-requires-clause-place c = caller_place c.args.t c.args.sched.now c.args.alts.now c.args.locks.now c.args.notes.now c.requires.parts c.requires.runs
