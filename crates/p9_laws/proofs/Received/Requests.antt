-- The requests that move no value.
use Rattle.std.proofs.Common.{◌≡◌, ℕ, ◌+◌, ◌-◌, ◌≤◌, Bool, true, false, cond, eqb, ltb, List, [], ◌∷◌, ◌++◌, length, Option, Some, None, refl, ap, sym, subst, ◌∙◌}
use Rattle.std.specs.Prelude.{map}
use Rattle.std.specs.List.{filter}
use Rattle.p9_manual.specs.declared.state.Party.{Party}
use Rattle.p9_word.specs.declared.answer.Answer.{Answer}
use Rattle.p9_word.specs.declared.answer.Answer.TheVariants.{Done, Interrupted, Met, Number}
use Rattle.p9_word.specs.declared.request.Request.TheVariants.{Io as IoRequest, Lock as LockRequest}
use Rattle.p9_word.specs.declared.request.ChanReq.{ChanReq}
use Rattle.p9_word.specs.declared.request.IoReq.{IoReq}
use Rattle.p9_word.specs.declared.request.LockReq.{LockReq}
use Rattle.p9_word.specs.declared.request.SignalReq.{SignalReq}
use Rattle.p9_word.specs.declared.request.LockReq.TheVariants.{RSleep}
use Rattle.p9_word.specs.declared.request.IoReq.TheVariants.{IoProc, IoRun, IoInterrupt, CloseIoProc}
use Rattle.p9_word.specs.declared.io_call.IoCall.{IoCall}
use Rattle.p9_word.specs.declared.setup.Setup.{Setup}
use Rattle.p9_word.specs.declared.trail.Entry.{Entry}
use Rattle.p9_word.specs.declared.trail.Reply.TheVariants.{Ended as EndedReply}
use Rattle.p9_manual.specs.declared.state.Thread.{Thread}
use Rattle.p9_manual.specs.declared.state.Place.TheVariants.{Ready}
use Rattle.p9_manual.specs.declared.state.Channel.{Channel}
use Rattle.p9_manual.specs.declared.state.Waiter.{Waiter}
use Rattle.p9_manual.specs.declared.state.Ioproc.{Ioproc}
use Rattle.p9_manual.specs.declared.state.Ioproc.TheVariants.{Unmade, Idle, Posted, Begun, Closed as ClosedIoproc}
use Rattle.p9_laws.specs.Receipts.{Receipt}
use Rattle.p9_manual.specs.Effects.{message_length}
use Rattle.p9_manual.specs.Ends.{Gone, ended, ended_where}
use Rattle.p9_manual.specs.Rendez.{sleep}
use Rattle.p9_manual.specs.RendezCalls.{for_qlock, qlock_of}
use Rattle.p9_manual.specs.Interrupt.{doomed, marked, with_mark}
use Rattle.p9_manual.specs.NoteCalls.{with_note, with_proc}
use Rattle.p9_manual.specs.Places.{lives}
use Rattle.p9_manual.specs.Signals.{signal_call}
use Rattle.p9_manual.specs.State.{Move, State, Outcome, by_id, changed, now, replied, wake, waiting}
use Rattle.p9_manual.specs.Offers.{parties}
use Rattle.p9_manual.specs.AltEntries.{is_on, waits_on, first_number}
use Rattle.p9_manual.specs.Told.{failed_answer}
use Rattle.p9_manual.specs.Create.{fresh}
use Rattle.p9_manual.specs.Close.{closed_chan, freed_chan, failed_on, all_failed, all_woken}
use Rattle.p9_manual.specs.Chans.{empty_channel, on_channel}
use Rattle.p9_manual.specs.LockCalls.{all_granted, with_grant, with_holds}
use Rattle.p9_manual.specs.LockWaits.{lock_waiters}
use Rattle.p9_manual.specs.Locks.{lock_call}
use Rattle.p9_manual.specs.Ioprocs.{with_ioproc, make, post_call, interrupt_begun, interrupt_call, close_ioproc, io_call}
use Rattle.p9_manual.specs.Unlocks.{Grant, release}
use Rattle.p9_laws.proofs.AskedLocks.{DoesToLocks, Says, Counts, Gets, GetsInTurn, WaitsFor, GivesUp, Sleeps, Meets, MovesFirst, MovesAll, lock_call_does}
use Rattle.p9_laws.proofs.LocksLeave.{first_moved_holds, all_moved_holds}
use Rattle.p9_laws.proofs.AskedChans.{DoesToChans, Tells, MakesChannel, FreesChannel, ClosesChannel, on_channel_does}
use Rattle.p9_laws.proofs.AskedSignals.{Signalled, Unchanged, Wakes, Marks, DoesToSignals, Replies, Signals, SetsHandlers, Posts, signal_call_does}
use Rattle.p9_laws.proofs.Asked.{Does, Answers, ChangesCaller, ChangesAside, MakesThread, MakesProc, GivesWay, Ends, EndsAll}
use Rattle.p9_laws.proofs.Received.Places.{IsQuiet}
use Rattle.p9_laws.proofs.Received.Agrees.{Agrees, IsCaller, put_quietly, left_there, one_more, some_gone, fewer_waits, other_chans, other_waits}
use Rattle.p9_laws.proofs.Received.Grows.{Grows, grows_same, grows_push, grows_changed}
use Rattle.p9_laws.proofs.Received.Outcomes.{Stays, if_stays, now_stays, bad_stays, done_stays, waiting_stays}

-- these threads have ended
pub ended_agrees : (H : List Entry) (ms : List Move) (rs : List Receipt) (last : ℕ → Option ℕ) (ends : Gone) (s : State) → Agrees H ms rs last s.threads s.waits s.chans → Agrees H ms rs last (ended_where ends s).threads (ended_where ends s).waits (ended_where ends s).chans
ended_agrees H ms rs last ends s a = some_gone a ends

-- the caller has ended
pub ended_stays : (t : ℕ) (s : State) → Stays t s (replied EndedReply (ended t s))
ended_stays t s = record { silent = refl; grows = grows_same [] s.chans; agrees = λ H ms rs last e a. some_gone a (λ u. eqb u t) }

pub asked_stays : (setup : Setup) (t : ℕ) (s : State) (o : Outcome) → Does setup t s o → Stays t s o
asked_stays setup t s _ (Answers x) = now_stays t s x
asked_stays setup t s _ (ChangesCaller f caller x at leaves grants) =
    record { silent = refl; grows = grows_same [] s.chans; agrees = λ H ms rs last e a. left_there a f leaves.place (t - 1) }
asked_stays setup t s _ (ChangesAside procs x grants same) = record { silent = refl; grows = grows_same [] s.chans; agrees = λ H ms rs last e a. a }
asked_stays setup t s _ (MakesThread program arg caller at own) =
    record { silent = refl; grows = grows_same [] s.chans; agrees = λ H ms rs last e a. one_more a (fresh caller.proc_no program arg caller.group) refl }
asked_stays setup t s _ (MakesProc program arg caller at own room) =
    record {
      silent = refl;
      grows = grows_same [] s.chans;
      agrees = λ H ms rs last e a. put_quietly (one_more a (fresh (s.opened + 1) program arg caller.group) refl) t (Ready (Number (length s.threads + 1))) (record { nothing = λ u. refl; unsent = refl });
    }
asked_stays setup t s _ GivesWay = done_stays t s Done (record { nothing = λ u. refl; unsent = refl })
asked_stays setup t s _ Ends = ended_stays t s
asked_stays setup t s _ EndsAll = record { silent = refl; grows = grows_same [] s.chans; agrees = λ H ms rs last e a. some_gone a (λ u. true) }

-- a thread that waits is woken, and told nothing of a value
woken_agrees : (H : List Entry) (ms : List Move) (rs : List Receipt) (last : ℕ → Option ℕ) (t : ℕ) (x : Answer) (s : State) → IsQuiet (Ready x) → Agrees H ms rs last s.threads s.waits s.chans → Agrees H ms rs last (wake t x s).threads (wake t x s).waits (wake t x s).chans
woken_agrees H ms rs last t x s quiet a = fewer_waits (put_quietly a t (Ready x) quiet) t

place_doomed : (x : Thread) → (doomed x).place ≡ x.place
place_doomed x = left_by (lives x) x
  where
    left_by : (b : Bool) (x : Thread) → (cond b (with_mark x) x).place ≡ x.place
    left_by true x = refl
    left_by false x = refl

signalled_agrees : (H : List Entry) (ms : List Move) (rs : List Receipt) (last : ℕ → Option ℕ) (m s : State) → Signalled m s → Agrees H ms rs last s.threads s.waits s.chans → Agrees H ms rs last m.threads m.waits m.chans
signalled_agrees H ms rs last m _ Unchanged a = a
signalled_agrees H ms rs last m s (Wakes u _ waits by) a =
    signalled_agrees H ms rs last m (wake u Interrupted s) by (woken_agrees H ms rs last u Interrupted s (record { nothing = λ v. refl; unsent = refl }) a)
signalled_agrees H ms rs last m s (Marks u _ by) a = signalled_agrees H ms rs last m (marked u s) by (left_there a doomed place_doomed (u - 1))

-- who is interrupted or killed leaves the channels
signalled_chans : (m s : State) → Signalled m s → m.chans ≡ s.chans
signalled_chans m _ Unchanged = refl
signalled_chans m s (Wakes u _ waits by) = signalled_chans m (wake u Interrupted s) by
signalled_chans m s (Marks u _ by) = signalled_chans m (marked u s) by

signalled_stays : (t : ℕ) (x : Answer) (m s : State) → Signalled m s → Stays t s (now x m)
signalled_stays t x m s by =
    record {
      silent = refl;
      grows = subst (λ (chans : List Channel). Grows [] s.chans chans) (sym (signalled_chans m s by)) (grows_same [] s.chans);
      agrees = λ H ms rs last e a. signalled_agrees H ms rs last m s by a;
    }

signals_stay : (t : ℕ) (s : State) (o : Outcome) → DoesToSignals s o → Stays t s o
signals_stay t s _ (Replies x) = now_stays t s x
signals_stay t s _ (Signals n m by) = signalled_stays t (Number n) m s by
signals_stay t s _ (SetsHandlers p handlers) = record { silent = refl; grows = grows_same [] s.chans; agrees = λ H ms rs last e a. a }
signals_stay t s _ (Posts p note m alive by) =
    let k = signalled_stays t Done m (with_proc (with_note note) p s) by in record { silent = k.silent; grows = k.grows; agrees = k.agrees }

pub signal_call_stays : (t : ℕ) (r : SignalReq) (s : State) → Stays t s (signal_call t r s)
signal_call_stays t r s = signals_stay t s _ (signal_call_does t r s)

granted_agrees : (H : List Entry) (ms : List Move) (rs : List Receipt) (last : ℕ → Option ℕ) → (ts : List ℕ) (s : State) → Agrees H ms rs last s.threads s.waits s.chans → Agrees H ms rs last (all_granted ts s).threads (all_granted ts s).waits (all_granted ts s).chans
granted_agrees H ms rs last [] s a = a
granted_agrees H ms rs last (t ∷ ts) s a =
    granted_agrees H ms rs last ts (wake t Done s) (woken_agrees H ms rs last t Done s (record { nothing = λ u. refl; unsent = refl }) a)

-- who is granted a lock leaves the channels, and the position
granted_chans : (ts : List ℕ) (s : State) → (all_granted ts s).chans ≡ s.chans
granted_chans [] s = refl
granted_chans (t ∷ ts) s = granted_chans ts (wake t Done s)

granted_position : (ts : List ℕ) (s : State) → (all_granted ts s).position ≡ s.position
granted_position [] s = refl
granted_position (t ∷ ts) s = granted_position ts (wake t Done s)

grant_stays : (t : ℕ) (g : Grant) (x : Answer) (s : State) → Stays t s (now x (with_grant g s))
grant_stays t g x s =
    record {
      silent = refl;
      grows = subst (λ (chans : List Channel). Grows [] s.chans chans) (sym (granted_chans g.granted (with_holds g.holds s))) (grows_same [] s.chans);
      agrees = λ H ms rs last e a. granted_agrees H ms rs last g.granted (with_holds g.holds s) a;
    }

sleep_stays : (t r : ℕ) (g : Grant) (s : State) → 1 ≤ t → Stays t s (waiting t (LockRequest (RSleep r)) (with_grant g s))
sleep_stays t r g s made =
    let k = grant_stays t g Done s in
    let w = waiting_stays t (with_grant g s) (LockRequest (RSleep r)) made in
    record {
      silent = refl;
      grows = k.grows;
      agrees = λ H ms rs last e a. w.agrees H ms rs last (e ∙ ap Some (sym (granted_position g.granted (with_holds g.holds s)))) (k.agrees H ms rs last e a);
    }

-- a sleeper that is moved waits in its last call still
moved_caller : (last : ℕ → Option ℕ) (q : ℕ) (w : Waiter) → IsCaller last w → IsCaller last (for_qlock q w)
moved_caller last q w c = record { made = c.made; is_last = c.is_last }

locks_stay : (setup : Setup) (t : ℕ) (s : State) (o : Outcome) → DoesToLocks setup t s o → 1 ≤ t → Stays t s o
locks_stay setup t s _ (Says x) made = now_stays t s x
locks_stay setup t s _ (Counts c value) made = record { silent = refl; grows = grows_same [] s.chans; agrees = λ H ms rs last e a. a }
locks_stay setup t s _ (Gets l c x grants can) made = record { silent = refl; grows = grows_same [] s.chans; agrees = λ H ms rs last e a. a }
locks_stay setup t s _ (GetsInTurn l c can) made =
    record { silent = refl; grows = grows_same [] s.chans; agrees = λ H ms rs last e a. put_quietly a t (Ready Done) (record { nothing = λ u. refl; unsent = refl }) }
locks_stay setup t s _ (WaitsFor r waits) made = waiting_stays t s (LockRequest r) made
locks_stay setup t s _ (GivesUp l c has) made = grant_stays t (release l t c s.holds (lock_waiters s.waits)) Done s
locks_stay setup t s _ (Sleeps r may) made = sleep_stays t r (sleep t r (qlock_of r setup.rendezes) s.holds (lock_waiters s.waits)) s made
locks_stay setup t s _ (Meets tag value w found) made =
    record {
      silent = refl;
      grows = grows_same [] s.chans;
      agrees = λ H ms rs last e a. woken_agrees H ms rs last w.tid (Met value) s (record { nothing = λ u. refl; unsent = refl }) a;
    }
locks_stay setup t s _ (MovesFirst r n may) made =
    record {
      silent = refl;
      grows = grows_same [] s.chans;
      agrees = λ H ms rs last e a. other_waits a (first_moved_holds (IsCaller last) (moved_caller last) r (qlock_of r setup.rendezes) s.waits a.calls);
    }
locks_stay setup t s _ (MovesAll r n may) made =
    record {
      silent = refl;
      grows = grows_same [] s.chans;
      agrees = λ H ms rs last e a. other_waits a (all_moved_holds (IsCaller last) (moved_caller last) r (qlock_of r setup.rendezes) s.waits a.calls);
    }

pub lock_call_stays : (setup : Setup) (t : ℕ) (r : LockReq) (s : State) → 1 ≤ t → Stays t s (lock_call setup t r s)
lock_call_stays setup t r s made = locks_stay setup t s _ (lock_call_does setup t r s) made

ioproc_stays : (t k : ℕ) (io : Ioproc) (x : Answer) (s : State) → Stays t s (now x (with_ioproc k io s))
ioproc_stays t k io x s = record { silent = refl; grows = grows_same [] s.chans; agrees = λ H ms rs last e a. a }

make_stays : (t k : ℕ) (s : State) (o : Option Ioproc) → Stays t s (make k s o)
make_stays t k s (Some Unmade) = ioproc_stays t k Idle _ s
make_stays t k s (Some Idle) = bad_stays t s
make_stays t k s (Some (Posted u call)) = bad_stays t s
make_stays t k s (Some (Begun u call)) = bad_stays t s
make_stays t k s (Some ClosedIoproc) = bad_stays t s
make_stays t k s None = bad_stays t s

post_call_stays : (t k : ℕ) (call : IoCall) (s : State) (o : Option Ioproc) → 1 ≤ t → Stays t s (post_call t k call s o)
post_call_stays t k call s (Some Idle) made =
    if_stays t s (ltb 4294967295 (message_length call)) _ _
    (bad_stays t s)
    (let w = waiting_stays t (with_ioproc k (Posted t call) s) (IoRequest (IoRun k call)) made in record { silent = w.silent; grows = w.grows; agrees = w.agrees })
post_call_stays t k call s (Some Unmade) made = bad_stays t s
post_call_stays t k call s (Some (Posted u other)) made = bad_stays t s
post_call_stays t k call s (Some (Begun u other)) made = bad_stays t s
post_call_stays t k call s (Some ClosedIoproc) made = bad_stays t s
post_call_stays t k call s None made = bad_stays t s

close_ioproc_stays : (t k : ℕ) (s : State) (o : Option Ioproc) → Stays t s (close_ioproc k s o)
close_ioproc_stays t k s (Some Idle) = ioproc_stays t k ClosedIoproc _ s
close_ioproc_stays t k s (Some Unmade) = bad_stays t s
close_ioproc_stays t k s (Some (Posted u call)) = bad_stays t s
close_ioproc_stays t k s (Some (Begun u call)) = bad_stays t s
close_ioproc_stays t k s (Some ClosedIoproc) = bad_stays t s
close_ioproc_stays t k s None = bad_stays t s

-- the thread that waits for the call of an ioproc is interrupted
called_stays : (t k : ℕ) (io : Ioproc) (u : ℕ) (s : State) → Stays t s (now (Number 1) (wake u Interrupted (with_ioproc k io s)))
called_stays t k io u s =
    record {
      silent = refl;
      grows = grows_same [] s.chans;
      agrees = λ H ms rs last e a. woken_agrees H ms rs last u Interrupted (with_ioproc k io s) (record { nothing = λ v. refl; unsent = refl }) a;
    }

interrupt_begun_stays : (t k : ℕ) (call : IoCall) (s : State) (caller : Option ℕ) → Stays t s (interrupt_begun k call s caller)
interrupt_begun_stays t k call s None = now_stays t s (Number 0)
interrupt_begun_stays t k call s (Some u) = called_stays t k (Begun None call) u s

interrupt_call_stays : (t k : ℕ) (s : State) (o : Option Ioproc) → Stays t s (interrupt_call k s o)
interrupt_call_stays t k s (Some (Posted u call)) = called_stays t k Idle u s
interrupt_call_stays t k s (Some (Begun caller call)) = interrupt_begun_stays t k call s caller
interrupt_call_stays t k s (Some Idle) = now_stays t s (Number 0)
interrupt_call_stays t k s (Some Unmade) = bad_stays t s
interrupt_call_stays t k s (Some ClosedIoproc) = bad_stays t s
interrupt_call_stays t k s None = bad_stays t s

pub io_call_stays : (setup : Setup) (t : ℕ) (r : IoReq) (s : State) → 1 ≤ t → Stays t s (io_call setup t r s)
unfolding io_call
io_call_stays setup t (IoProc k) s made = make_stays t k s (by_id s.ioprocs k)
io_call_stays setup t (IoRun k call) s made = post_call_stays t k call s (by_id s.ioprocs k) made
io_call_stays setup t (IoInterrupt k) s made = interrupt_call_stays t k s (by_id s.ioprocs k)
io_call_stays setup t (CloseIoProc k) s made = close_ioproc_stays t k s (by_id s.ioprocs k)

failed_quiet : (single : Bool) (i : ℕ) → IsQuiet (Ready (failed_answer single i))
failed_quiet true i = record { nothing = λ u. refl; unsent = refl }
failed_quiet false i = record { nothing = λ u. refl; unsent = refl }

all_woken_agrees : (H : List Entry) (ms : List Move) (rs : List Receipt) (last : ℕ → Option ℕ) (c : ℕ) → (ps : List Party) (s : State) → Agrees H ms rs last s.threads s.waits s.chans → Agrees H ms rs last (all_woken (map (failed_on c) ps) s).threads (all_woken (map (failed_on c) ps) s).waits (all_woken (map (failed_on c) ps) s).chans
all_woken_agrees H ms rs last c [] s a = a
all_woken_agrees H ms rs last c (w ∷ ps) s a =
    all_woken_agrees H ms rs last c ps (wake w.tid (failed_answer w.single (first_number (is_on c) w.entries)) s)
    (fewer_waits (put_quietly a w.tid (Ready (failed_answer w.single (first_number (is_on c) w.entries))) (failed_quiet w.single (first_number (is_on c) w.entries))) w.tid)

all_woken_chans : (ws : List (ℕ × Answer)) (s : State) → (all_woken ws s).chans ≡ s.chans
all_woken_chans [] s = refl
all_woken_chans (w ∷ ws) s = all_woken_chans ws (wake w.0 w.1 s)

chans_stay : (t : ℕ) (s : State) (o : Outcome) → DoesToChans s o → Stays t s o
chans_stay t s _ (Tells x) = now_stays t s x
chans_stay t s _ (MakesChannel cap elsize) =
    record {
      silent = refl;
      grows = grows_push [] (empty_channel cap elsize) s.chans;
      agrees = λ H ms rs last e a. other_chans a (s.chans ++ empty_channel cap elsize ∷ []) (grows_push [] (empty_channel cap elsize) s.chans);
    }
chans_stay t s _ (FreesChannel c chan there) =
    record {
      silent = refl;
      grows = grows_changed [] freed_chan (λ x. refl) (λ x. refl) s.chans (c - 1);
      agrees = λ H ms rs last e a. other_chans a (changed freed_chan s.chans (c - 1)) (grows_changed [] freed_chan (λ x. refl) (λ x. refl) s.chans (c - 1));
    }
chans_stay t s _ (ClosesChannel c chan there) =
    let same = grows_changed [] closed_chan (λ x. refl) (λ x. refl) s.chans (c - 1) in
    let after : State = record s { chans = changed closed_chan s.chans (c - 1) } in
    record {
      silent = refl;
      grows = subst (λ (chans : List Channel). Grows [] s.chans chans) (sym (all_woken_chans (all_failed c (parties s.waits)) after)) same;
      agrees = λ H ms rs last e a. all_woken_agrees H ms rs last c (filter (waits_on c) (parties s.waits)) after (other_chans a (changed closed_chan s.chans (c - 1)) same);
    }

pub on_channel_stays : (t : ℕ) (r : ChanReq) (s : State) → Stays t s (on_channel r s)
on_channel_stays t r s = chans_stay t s _ (on_channel_does r s)
