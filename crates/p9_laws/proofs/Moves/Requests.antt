-- The requests that are no alts, the ends of threads and the events that are no calls keep what is known of the values on channels.
use Rattle.std.proofs.Common.{◌≡◌, ℕ, ◌-◌, Bool, true, false, not, cond, ◌||◌, eqb, List, [], ◌∷◌, ◌++◌, Option, Some, None, refl, ◌∙◌}
use Rattle.std.specs.Prelude.{option_map, nat_lt}
use Rattle.std.specs.List.{find, list_any}
use Rattle.std.proofs.lemmas.List.{append-nil}
use Rattle.p9_word.specs.declared.answer.Answer.{Answer}
use Rattle.p9_word.specs.declared.answer.Answer.TheVariants.{Done, Interrupted}
use Rattle.p9_word.specs.declared.setup.Setup.{Setup}
use Rattle.p9_word.specs.declared.trail.Entry.{Entry}
use Rattle.p9_word.specs.declared.request.ChanReq.{ChanReq}
use Rattle.p9_word.specs.declared.request.Request.TheVariants.{Io as IoRequest}
use Rattle.p9_word.specs.declared.request.IoReq.{IoReq}
use Rattle.p9_word.specs.declared.request.LockReq.{LockReq}
use Rattle.p9_word.specs.declared.request.SignalReq.{SignalReq}
use Rattle.p9_word.specs.declared.request.LockReq.TheVariants.{RSleep}
use Rattle.p9_word.specs.declared.request.IoReq.TheVariants.{IoProc, IoRun, IoInterrupt, CloseIoProc}
use Rattle.p9_word.specs.declared.io_call.IoCall.{IoCall}
use Rattle.p9_word.specs.declared.io_call.Effect.{Effect}
use Rattle.p9_manual.specs.declared.state.Channel.{Channel}
use Rattle.p9_manual.specs.declared.state.Ioproc.{Ioproc}
use Rattle.p9_manual.specs.declared.state.Ioproc.TheVariants.{Unmade, Idle, Posted, Begun, Closed}
use Rattle.p9_manual.specs.declared.state.Place.{Place}
use Rattle.p9_manual.specs.declared.state.Waiter.{Waiter}
use Rattle.p9_manual.specs.Offers.{parties}
use Rattle.p9_manual.specs.Chans.{empty_channel, on_channel}
use Rattle.p9_manual.specs.Close.{closed_chan, freed_chan, all_failed, all_woken}
use Rattle.p9_manual.specs.Effects.{fits, message_length}
use Rattle.p9_manual.specs.Ends.{Gone, ended_where}
use Rattle.p9_manual.specs.Interrupt.{marked}
use Rattle.p9_manual.specs.Ioprocs.{with_ioproc, make, post_call, interrupt_begun, interrupt_call, close_ioproc, io_call, take_call, answered, did_call, io_event}
use Rattle.p9_manual.specs.LockCalls.{all_granted, with_grant, with_holds}
use Rattle.p9_manual.specs.LockWaits.{lock_waiters}
use Rattle.p9_manual.specs.Locks.{lock_call}
use Rattle.p9_manual.specs.Next.{next_event, next_of, first_ready, note_first, turn, is_place, is_over, started}
use Rattle.p9_manual.specs.NoteCalls.{met_by, next_note, with_note, with_pending, with_proc}
use Rattle.p9_manual.specs.Notes.{Delivery}
use Rattle.p9_manual.specs.Places.{is_of, lives, runs_in}
use Rattle.p9_manual.specs.Rendez.{sleep}
use Rattle.p9_manual.specs.RendezCalls.{qlock_of, sleeps_at}
use Rattle.p9_manual.specs.Signals.{signal_call}
use Rattle.p9_manual.specs.State.{Move, State, Outcome, by_id, changed, waits_without, wake}
use Rattle.p9_manual.specs.Stuck.{is_stuck}
use Rattle.p9_manual.specs.Unlocks.{Grant, release}
use Rattle.p9_laws.proofs.AskedLocks.{DoesToLocks, Says, Counts, Gets, GetsInTurn, WaitsFor, GivesUp, Sleeps, Meets, MovesFirst, MovesAll, lock_call_does}
use Rattle.p9_laws.proofs.AskedSignals.{Signalled, Unchanged, Wakes, Marks, DoesToSignals, Replies, Signals, SetsHandlers, Posts, signal_call_does}
use Rattle.p9_laws.proofs.AskedChans.{DoesToChans, Tells, MakesChannel, FreesChannel, ClosesChannel, on_channel_does}
use Rattle.p9_laws.proofs.Asked.{Does, Answers, ChangesCaller, ChangesAside, MakesThread, MakesProc, GivesWay, Ends, EndsAll}
use Rattle.p9_laws.proofs.LocksLeave.{lock_wait_leaves, first_moved_leaves, all_moved_leaves}
use Rattle.p9_laws.proofs.Sound.Parties.{parties_off, parties_push, parties_without}
use Rattle.p9_laws.proofs.Moves.Senders.{not_of}
use Rattle.p9_laws.proofs.Moves.Kept.{Kept, kept_less, kept_changed, kept_created}
use Rattle.p9_laws.proofs.Moves.Verdicts.{KeptIn}

-- what was kept before is kept after
abbrev pub Leaves : State → State → Type 0
Leaves s later = (H : List Entry) (n : ℕ) (ms : List Move) → KeptIn H n ms s → KeptIn H n ms later

if_leaves : (s : State) (b : Bool) (o p : Outcome) → Leaves s o.state → Leaves s p.state → Leaves s (cond b o p).state
if_leaves s true o p f g = f
if_leaves s false o p f g = g

-- thread t no longer waits
without_leaves : (t : ℕ) (H : List Entry) (n : ℕ) (ms : List Move) (chans : List Channel) (waits : List Waiter) → Kept H n ms chans (parties waits) → Kept H n ms chans (parties (waits_without t waits))
without_leaves t H n ms chans waits k = rw (parties_without t waits) (kept_less (not_of t) H n ms chans (parties waits) k)

-- these threads have ended
pub ended_leaves : (ends : Gone) (s : State) → Leaves s (ended_where ends s)
ended_leaves ends s H n ms k = rw (parties_off ends s.waits) (kept_less (λ w. not (ends w.tid)) H n ms s.chans (parties s.waits) k)

pub asked_leaves : (setup : Setup) (t : ℕ) (s : State) (o : Outcome) → Does setup t s o → Leaves s o.state
asked_leaves setup t s _ (Answers x) = λ H n ms k. k
asked_leaves setup t s _ (ChangesCaller f caller x at leaves grants) = λ H n ms k. k
asked_leaves setup t s _ (ChangesAside procs x grants same) = λ H n ms k. k
asked_leaves setup t s _ (MakesThread program arg caller at own) = λ H n ms k. k
asked_leaves setup t s _ (MakesProc program arg caller at own room) = λ H n ms k. k
asked_leaves setup t s _ GivesWay = λ H n ms k. k
asked_leaves setup t s _ Ends = ended_leaves (λ u. eqb u t) s
asked_leaves setup t s _ EndsAll = ended_leaves (λ u. true) s

woken_leaves : (ws : List (ℕ × Answer)) (s : State) → Leaves s (all_woken ws s)
woken_leaves [] s H n ms k = k
woken_leaves (w ∷ ws) s H n ms k = woken_leaves ws (wake w.0 w.1 s) H n ms (without_leaves w.0 H n ms s.chans s.waits k)

chans_leave : (s : State) (o : Outcome) → DoesToChans s o → Leaves s o.state
chans_leave s _ (Tells x) = λ H n ms k. k
chans_leave s _ (MakesChannel cap elsize) = λ H n ms k. kept_created (empty_channel cap elsize) refl H n ms s.chans (parties s.waits) k
chans_leave s _ (FreesChannel c chan there) = λ H n ms k. kept_changed freed_chan (λ x. refl) (λ x. refl) H n ms s.chans (parties s.waits) c chan there k
chans_leave s _ (ClosesChannel c chan there) =
    λ H n ms k. woken_leaves (all_failed c (parties s.waits)) (record s { chans = changed closed_chan s.chans (c - 1) }) H n ms
    (kept_changed closed_chan (λ x. refl) (λ x. refl) H n ms s.chans (parties s.waits) c chan there k)

signalled_leaves : (m s : State) → Signalled m s → Leaves s m
signalled_leaves m _ Unchanged = λ H n ms k. k
signalled_leaves m s (Wakes u _ waits by) =
    λ H n ms k. signalled_leaves m (wake u Interrupted s) by H n ms (without_leaves u H n ms s.chans s.waits k)
signalled_leaves m s (Marks u _ by) = λ H n ms k. signalled_leaves m (marked u s) by H n ms k

signals_leave : (s : State) (o : Outcome) → DoesToSignals s o → Leaves s o.state
signals_leave s _ (Replies x) = λ H n ms k. k
signals_leave s _ (Signals x m by) = signalled_leaves m s by
signals_leave s _ (SetsHandlers p handlers) = λ H n ms k. k
signals_leave s _ (Posts p note m alive by) = signalled_leaves m (with_proc (with_note note) p s) by

pub signal_call_leaves : (t : ℕ) (r : SignalReq) (s : State) → Leaves s (signal_call t r s).state
signal_call_leaves t r s = signals_leave s _ (signal_call_does t r s)

pub on_channel_leaves : (r : ChanReq) (s : State) → Leaves s (on_channel r s).state
on_channel_leaves r s = chans_leave s _ (on_channel_does r s)

granted_leave : (ts : List ℕ) (s : State) → Leaves s (all_granted ts s)
granted_leave [] s H n ms k = k
granted_leave (t ∷ ts) s H n ms k = granted_leave ts (wake t Done s) H n ms (without_leaves t H n ms s.chans s.waits k)

grant_leaves : (g : Grant) (s : State) → Leaves s (with_grant g s)
grant_leaves g s H n ms k = granted_leave g.granted (with_holds g.holds s) H n ms k

locks_leave : (setup : Setup) (t : ℕ) (s : State) (o : Outcome) → DoesToLocks setup t s o → Leaves s o.state
locks_leave setup t s _ (Says x) = λ H n ms k. k
locks_leave setup t s _ (Counts c value) = λ H n ms k. k
locks_leave setup t s _ (Gets l c x grants can) = λ H n ms k. k
locks_leave setup t s _ (GetsInTurn l c can) = λ H n ms k. k
locks_leave setup t s _ (WaitsFor r waits) = λ H n ms k. rw (lock_wait_leaves t s.position r s.waits) k
locks_leave setup t s _ (GivesUp l c has) = grant_leaves (release l t c s.holds (lock_waiters s.waits)) s
locks_leave setup t s _ (Sleeps r may) =
    let g = sleep t r (qlock_of r setup.rendezes) s.holds (lock_waiters s.waits) in
    λ H n ms k. rw (lock_wait_leaves t (with_grant g s).position (RSleep r) (with_grant g s).waits) (grant_leaves g s H n ms k)
locks_leave setup t s _ (Meets tag value w found) = λ H n ms k. without_leaves w.tid H n ms s.chans s.waits k
locks_leave setup t s _ (MovesFirst r n may) =
    λ H n ms k. rw (first_moved_leaves r (qlock_of r setup.rendezes) (find (sleeps_at r) s.waits) s.waits) k
locks_leave setup t s _ (MovesAll r n may) = λ H n ms k. rw (all_moved_leaves r (qlock_of r setup.rendezes) s.waits) k

pub lock_call_leaves : (setup : Setup) (t : ℕ) (r : LockReq) (s : State) → Leaves s (lock_call setup t r s).state
lock_call_leaves setup t r s = locks_leave setup t s _ (lock_call_does setup t r s)

-- a call through an ioproc is no alt
calling_leaves : (t k at : ℕ) (call : IoCall) (waits : List Waiter) → parties (waits ++ record { tid = t; request = IoRequest (IoRun k call); at = at } ∷ []) ≡ parties waits
calling_leaves t k at call waits = parties_push waits (record { tid = t; request = IoRequest (IoRun k call); at = at }) ∙ append-nil (parties waits)

make_leaves : (k : ℕ) (s : State) (o : Option Ioproc) → Leaves s (make k s o).state
make_leaves k s (Some Unmade) = λ H n ms h. h
make_leaves k s (Some Idle) = λ H n ms h. h
make_leaves k s (Some (Posted t call)) = λ H n ms h. h
make_leaves k s (Some (Begun t call)) = λ H n ms h. h
make_leaves k s (Some Closed) = λ H n ms h. h
make_leaves k s None = λ H n ms h. h

post_call_leaves : (t k : ℕ) (call : IoCall) (s : State) (o : Option Ioproc) → Leaves s (post_call t k call s o).state
post_call_leaves t k call s (Some Idle) =
    if_leaves s (nat_lt 4294967295 (message_length call)) _ _ (λ H n ms h. h) (λ H n ms h. rw (calling_leaves t k s.position call s.waits) h)
post_call_leaves t k call s (Some Unmade) = λ H n ms h. h
post_call_leaves t k call s (Some (Posted u other)) = λ H n ms h. h
post_call_leaves t k call s (Some (Begun u other)) = λ H n ms h. h
post_call_leaves t k call s (Some Closed) = λ H n ms h. h
post_call_leaves t k call s None = λ H n ms h. h

close_ioproc_leaves : (k : ℕ) (s : State) (o : Option Ioproc) → Leaves s (close_ioproc k s o).state
close_ioproc_leaves k s (Some Idle) = λ H n ms h. h
close_ioproc_leaves k s (Some Unmade) = λ H n ms h. h
close_ioproc_leaves k s (Some (Posted t call)) = λ H n ms h. h
close_ioproc_leaves k s (Some (Begun t call)) = λ H n ms h. h
close_ioproc_leaves k s (Some Closed) = λ H n ms h. h
close_ioproc_leaves k s None = λ H n ms h. h

interrupt_begun_leaves : (k : ℕ) (call : IoCall) (s : State) (caller : Option ℕ) → Leaves s (interrupt_begun k call s caller).state
interrupt_begun_leaves k call s None = λ H n ms h. h
interrupt_begun_leaves k call s (Some t) = λ H n ms h. without_leaves t H n ms s.chans s.waits h

interrupt_call_leaves : (k : ℕ) (s : State) (o : Option Ioproc) → Leaves s (interrupt_call k s o).state
interrupt_call_leaves k s (Some (Posted t call)) = λ H n ms h. without_leaves t H n ms s.chans s.waits h
interrupt_call_leaves k s (Some (Begun caller call)) = interrupt_begun_leaves k call s caller
interrupt_call_leaves k s (Some Idle) = λ H n ms h. h
interrupt_call_leaves k s (Some Unmade) = λ H n ms h. h
interrupt_call_leaves k s (Some Closed) = λ H n ms h. h
interrupt_call_leaves k s None = λ H n ms h. h

pub io_call_leaves : (setup : Setup) (t : ℕ) (r : IoReq) (s : State) → Leaves s (io_call setup t r s).state
unfolding io_call
io_call_leaves setup t (IoProc k) s = make_leaves k s (by_id s.ioprocs k)
io_call_leaves setup t (IoRun k call) s = post_call_leaves t k call s (by_id s.ioprocs k)
io_call_leaves setup t (IoInterrupt k) s = interrupt_call_leaves k s (by_id s.ioprocs k)
io_call_leaves setup t (CloseIoProc k) s = close_ioproc_leaves k s (by_id s.ioprocs k)

take_call_leaves : (k : ℕ) (s : State) (o : Option Ioproc) → Leaves s (take_call k s o).state
take_call_leaves k s None = λ H n ms h. h
take_call_leaves k s (Some Closed) = λ H n ms h. h
take_call_leaves k s (Some (Begun t call)) = if_leaves s (s.over || not (list_any lives s.threads)) _ _ (λ H n ms h. h) (λ H n ms h. h)
take_call_leaves k s (Some (Posted t call)) = if_leaves s (s.over || not (list_any lives s.threads)) _ _ (λ H n ms h. h) (λ H n ms h. h)
take_call_leaves k s (Some Unmade) = if_leaves s (s.over || not (list_any lives s.threads)) _ _ (λ H n ms h. h) (λ H n ms h. h)
take_call_leaves k s (Some Idle) = if_leaves s (s.over || not (list_any lives s.threads)) _ _ (λ H n ms h. h) (λ H n ms h. h)

answered_leaves : (o : Option ℕ) (effect : Effect) (k : ℕ) (s : State) → Leaves s (answered o effect (with_ioproc k Idle s))
answered_leaves None effect k s = λ H n ms h. h
answered_leaves (Some t) effect k s = λ H n ms h. without_leaves t H n ms s.chans s.waits h

did_call_leaves : (k : ℕ) (effect : Effect) (s : State) (o : Option Ioproc) → Leaves s (did_call k effect s o).state
did_call_leaves k effect s (Some (Begun t call)) = if_leaves s (fits call effect) _ _ (answered_leaves t effect k s) (λ H n ms h. h)
did_call_leaves k effect s (Some Unmade) = λ H n ms h. h
did_call_leaves k effect s (Some Idle) = λ H n ms h. h
did_call_leaves k effect s (Some (Posted t call)) = λ H n ms h. h
did_call_leaves k effect s (Some Closed) = λ H n ms h. h
did_call_leaves k effect s None = λ H n ms h. h

pub io_event_leaves : (k : ℕ) (s : State) (o : Option Effect) → Leaves s (io_event k s o).state
unfolding io_event
io_event_leaves k s None = take_call_leaves k s (by_id s.ioprocs k)
io_event_leaves k s (Some effect) = did_call_leaves k effect s (by_id s.ioprocs k)

turn_leaves : (t : ℕ) (line : List ℕ) (s : State) (o : Option (ℕ × ℕ × Place)) → Leaves s (turn t (record s { line = line }) o).state
turn_leaves t line s None = λ H n ms k. k
turn_leaves t line s (Some start) = λ H n ms k. k

next_of_leaves : (s : State) (o : Option (ℕ × List ℕ)) → Leaves s (next_of s o).state
next_of_leaves s None = if_leaves s (is_stuck s) _ _ (λ H n ms k. k) (λ H n ms k. k)
next_of_leaves s (Some found) = turn_leaves found.0 found.1 s (option_map started (by_id s.threads found.0))

met_leaves : (p : ℕ) (note : List ℕ) (o : Option ℕ) (s : State) → Leaves s (met_by p note o s).state
met_leaves p note None s = ended_leaves (λ t. is_of p (by_id s.threads t)) s
met_leaves p note (Some id) s = λ H n ms k. k

note_first_leaves : (p : ℕ) (s : State) (o : Option Delivery) → Leaves s (note_first p s o).state
note_first_leaves p s None = next_of_leaves s (first_ready p s)
note_first_leaves p s (Some d) = met_leaves p d.note d.caught_by (with_proc (with_pending d.pending) p s)

pub next_event_leaves : (setup : Setup) (p : ℕ) (s : State) → Leaves s (next_event setup p s).state
unfolding next_event
next_event_leaves setup p s =
    if_leaves s (not (is_place setup p)) _ _ (λ H n ms k. k)
    (if_leaves s (is_over p s) _ _ (λ H n ms k. k)
    (if_leaves s (list_any (runs_in p) s.threads) _ _ (λ H n ms k. k) (note_first_leaves p s (next_note p s))))
