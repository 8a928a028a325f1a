-- A request that is refused leaves the state, but for the number of entries.
use Rattle.std.proofs.Common.{ℕ, ◌≡◌, ◌+◌, Bool, true, false, not, cond, ◌||◌, List, Option, Some, None, refl}
use Rattle.std.specs.Prelude.{option_map, nat_lt}
use Rattle.std.specs.List.{list_any}
use Rattle.p9_word.specs.declared.trail.Seat.{Seat}
use Rattle.p9_word.specs.declared.trail.Seat.TheVariants.{Proc, Io as IoSeat}
use Rattle.p9_word.specs.declared.trail.Event.{Event}
use Rattle.p9_word.specs.declared.trail.Event.TheVariants.{Call, Next, IoTake, IoDid}
use Rattle.p9_word.specs.declared.trail.Reply.{Reply}
use Rattle.p9_word.specs.declared.trail.Reply.TheVariants as reply
use Rattle.p9_word.specs.declared.request.Request.{Request}
use Rattle.p9_word.specs.declared.request.Request.TheVariants.{Chan as ChanRequest}
use Rattle.p9_word.specs.declared.request.ChanReq.{ChanReq}
use Rattle.p9_word.specs.declared.request.IoReq.{IoReq}
use Rattle.p9_word.specs.declared.request.IoReq.TheVariants.{IoProc, IoRun, IoInterrupt, CloseIoProc}
use Rattle.p9_word.specs.declared.request.LockReq.{LockReq}
use Rattle.p9_word.specs.declared.io_call.IoCall.{IoCall}
use Rattle.p9_word.specs.declared.io_call.Effect.{Effect}
use Rattle.p9_word.specs.declared.setup.Setup.{Setup}
use Rattle.p9_manual.specs.declared.state.Place.{Place}
use Rattle.p9_manual.specs.declared.state.Place.TheVariants.{Running, New, Ready, Waiting, Ended}
use Rattle.p9_manual.specs.declared.state.Thread.{Thread}
use Rattle.p9_manual.specs.declared.state.Ioproc.{Ioproc}
use Rattle.p9_manual.specs.declared.state.Ioproc.TheVariants as stand
use Rattle.p9_manual.specs.State.{State, Outcome, by_id}
use Rattle.p9_manual.specs.Locks.{lock_call}
use Rattle.p9_manual.specs.NoteCalls.{met_by, next_note}
use Rattle.p9_manual.specs.Notes.{Delivery}
use Rattle.p9_manual.specs.Places.{runs_in, lives}
use Rattle.p9_manual.specs.Offers.{Alternation, alternation}
use Rattle.p9_manual.specs.ReadyEntries.{fits as fits_chans}
use Rattle.p9_manual.specs.Alt.{Verdict, AllClosed, Commits, NoneReady, MustWait, decided}
use Rattle.p9_manual.specs.Chans.{chan_call, by_alternation}
use Rattle.p9_manual.specs.Ioprocs.{io_call, make, post_call, interrupt_begun, interrupt_call, close_ioproc, take_call, did_call, io_event}
use Rattle.p9_manual.specs.Effects.{fits, message_length}
use Rattle.p9_manual.specs.Stuck.{is_stuck}
use Rattle.p9_manual.specs.Next.{next_event, next_of, note_first, first_ready, turn, turn_reply, started, is_place, is_over}
use Rattle.p9_manual.specs.Step.{step, outcome, called, counted, makes_entry}
use Rattle.p9_laws.specs.Refusals.{is_refusal}
use Rattle.p9_laws.proofs.AskedChans.{DoesToChans, Tells, MakesChannel, FreesChannel, ClosesChannel, on_channel_does}
use Rattle.p9_laws.proofs.AskedLocks.{DoesToLocks, Says, Counts, Gets, GetsInTurn, WaitsFor, GivesUp, Sleeps, Meets, MovesFirst, MovesAll, lock_call_does}
use Rattle.p9_laws.proofs.AskedSignals.{DoesToSignals, Replies, Signals, SetsHandlers, Posts, signal_call_does}
use Rattle.p9_laws.proofs.Asked.{Does, Answers, ChangesCaller, ChangesAside, MakesThread, MakesProc, GivesWay, Ends, EndsAll}
use Rattle.p9_laws.proofs.Groups.{Kind, Plain, OfSignals, OfChans, OfLocks, OfIoprocs, served_kind, CallOf, Strays, Dies, Serves, call_of}

-- a refusal leaves this state
abbrev Leaves : State → Outcome → Type 0
Leaves s o = is_refusal o.reply ≡ true → o.state ≡ s

if_leaves : (s : State) (b : Bool) (o p : Outcome) → Leaves s o → Leaves s p → Leaves s (cond b o p)
if_leaves s true o p f g = f
if_leaves s false o p f g = g

chans_leave : (s : State) (o : Outcome) → DoesToChans s o → Leaves s o
chans_leave s _ (Tells x) = λ e. refl
chans_leave s _ (MakesChannel cap elsize) = λ e. cc
chans_leave s _ (FreesChannel c chan there) = λ e. cc
chans_leave s _ (ClosesChannel c chan there) = λ e. cc

-- an alt that may be asked for is never refused
decided_leaves : (t : ℕ) (request : Request) (s n : State) (v : Verdict) → Leaves s (decided t request n v)
decided_leaves t request s n AllClosed = λ e. cc
decided_leaves t request s n (Commits d) = λ e. cc
decided_leaves t request s n NoneReady = λ e. cc
decided_leaves t request s n MustWait = λ e. cc

alternation_leaves : (S : Setup) (t : ℕ) (r : ChanReq) (s : State) (o : Option Alternation) → Leaves s (by_alternation S t r s o)
alternation_leaves S t r s None = chans_leave s _ (on_channel_does r s)
alternation_leaves S t r s (Some a) = if_leaves s (fits_chans s.chans a.entries) _ _ (decided_leaves t (ChanRequest r) s _ _) (λ e. refl)

chan_leaves : (S : Setup) (t : ℕ) (r : ChanReq) (s : State) → Leaves s (chan_call S t r s)
unfolding chan_call
chan_leaves S t r s = alternation_leaves S t r s (alternation r)

asked_leaves : (S : Setup) (t : ℕ) (s : State) (o : Outcome) → Does S t s o → Leaves s o
asked_leaves S t s _ (Answers x) = λ e. refl
asked_leaves S t s _ (ChangesCaller f caller x at leaves grants) = λ e. cc (e, grants)
asked_leaves S t s _ (ChangesAside procs x grants same) = λ e. cc (e, grants)
asked_leaves S t s _ (MakesThread program arg caller at own) = λ e. cc
asked_leaves S t s _ (MakesProc program arg caller at own room) = λ e. cc
asked_leaves S t s _ GivesWay = λ e. cc
asked_leaves S t s _ Ends = λ e. cc
asked_leaves S t s _ EndsAll = λ e. cc

locks_leave : (S : Setup) (t : ℕ) (s : State) (o : Outcome) → DoesToLocks S t s o → Leaves s o
locks_leave S t s _ (Says x) = λ e. refl
locks_leave S t s _ (Counts k value) = λ e. cc
locks_leave S t s _ (Gets l k x grants can) = λ e. cc (e, grants)
locks_leave S t s _ (GetsInTurn l k can) = λ e. cc
locks_leave S t s _ (WaitsFor r waits) = λ e. cc
locks_leave S t s _ (GivesUp l k has) = λ e. cc
locks_leave S t s _ (Sleeps r may) = λ e. cc
locks_leave S t s _ (Meets tag value w found) = λ e. cc
locks_leave S t s _ (MovesFirst r n may) = λ e. cc
locks_leave S t s _ (MovesAll r n may) = λ e. cc

lock_leaves : (S : Setup) (t : ℕ) (r : LockReq) (s : State) → Leaves s (lock_call S t r s)
lock_leaves S t r s = locks_leave S t s _ (lock_call_does S t r s)

-- only what is Bad is refused
signals_leave : (s : State) (o : Outcome) → DoesToSignals s o → Leaves s o
signals_leave s _ (Replies x) = λ e. refl
signals_leave s _ (Signals n m by) = λ e. cc
signals_leave s _ (SetsHandlers p handlers) = λ e. cc
signals_leave s _ (Posts p note m alive by) = λ e. cc

make_leaves : (k : ℕ) (s : State) (o : Option Ioproc) → Leaves s (make k s o)
make_leaves k s None = λ e. refl
make_leaves k s (Some stand.Unmade) = λ e. cc
make_leaves k s (Some stand.Idle) = λ e. refl
make_leaves k s (Some (stand.Posted t call)) = λ e. refl
make_leaves k s (Some (stand.Begun t call)) = λ e. refl
make_leaves k s (Some stand.Closed) = λ e. refl

post_leaves : (t k : ℕ) (call : IoCall) (s : State) (o : Option Ioproc) → Leaves s (post_call t k call s o)
post_leaves t k call s None = λ e. refl
post_leaves t k call s (Some stand.Unmade) = λ e. refl
post_leaves t k call s (Some stand.Idle) = if_leaves s (nat_lt 4294967295 (message_length call)) _ _ (λ e. refl) (λ e. cc)
post_leaves t k call s (Some (stand.Posted u other)) = λ e. refl
post_leaves t k call s (Some (stand.Begun u other)) = λ e. refl
post_leaves t k call s (Some stand.Closed) = λ e. refl

interrupt_begun_leaves : (k : ℕ) (call : IoCall) (s : State) (o : Option ℕ) → Leaves s (interrupt_begun k call s o)
interrupt_begun_leaves k call s None = λ e. refl
interrupt_begun_leaves k call s (Some t) = λ e. cc

interrupt_leaves : (k : ℕ) (s : State) (o : Option Ioproc) → Leaves s (interrupt_call k s o)
interrupt_leaves k s None = λ e. refl
interrupt_leaves k s (Some stand.Unmade) = λ e. refl
interrupt_leaves k s (Some stand.Idle) = λ e. refl
interrupt_leaves k s (Some (stand.Posted t call)) = λ e. cc
interrupt_leaves k s (Some (stand.Begun t call)) = interrupt_begun_leaves k call s t
interrupt_leaves k s (Some stand.Closed) = λ e. refl

close_ioproc_leaves : (k : ℕ) (s : State) (o : Option Ioproc) → Leaves s (close_ioproc k s o)
close_ioproc_leaves k s None = λ e. refl
close_ioproc_leaves k s (Some stand.Unmade) = λ e. refl
close_ioproc_leaves k s (Some stand.Idle) = λ e. cc
close_ioproc_leaves k s (Some (stand.Posted t call)) = λ e. refl
close_ioproc_leaves k s (Some (stand.Begun t call)) = λ e. refl
close_ioproc_leaves k s (Some stand.Closed) = λ e. refl

io_leaves : (S : Setup) (t : ℕ) (r : IoReq) (s : State) → Leaves s (io_call S t r s)
unfolding io_call
io_leaves S t (IoProc k) s = make_leaves k s _
io_leaves S t (IoRun k call) s = post_leaves t k call s _
io_leaves S t (IoInterrupt k) s = interrupt_leaves k s _
io_leaves S t (CloseIoProc k) s = close_ioproc_leaves k s _

kind_leaves : (S : Setup) (t : ℕ) (s : State) (r : Request) (o : Outcome) → Kind S t s r o → Leaves s o
kind_leaves S t s _ _ (Plain r o no_alt does) = asked_leaves S t s o does
kind_leaves S t s _ _ (OfSignals r) = signals_leave s _ (signal_call_does t r s)
kind_leaves S t s _ _ (OfChans r) = chan_leaves S t r s
kind_leaves S t s _ _ (OfLocks r) = lock_leaves S t r s
kind_leaves S t s _ _ (OfIoprocs r) = io_leaves S t r s

call_leaves : (S : Setup) (p t : ℕ) (r : Request) (s : State) (o : Outcome) → CallOf S p t r s o → Leaves s o
call_leaves S p t r s _ (Strays elsewhere) = λ e. refl
call_leaves S p t r s _ (Dies there doomed) = λ e. cc
call_leaves S p t r s _ (Serves there undoomed) = kind_leaves S t s r _ (served_kind S t r s)

called_leaves : (S : Setup) (p t : ℕ) (r : Request) (s : State) → Leaves s (called S p t r s)
called_leaves S p t r s = call_leaves S p t r s _ (call_of S p t r s)

-- only a request is refused
place_leaves : (t program arg : ℕ) (pl : Place) (s : State) (n : State) → is_refusal (turn_reply t (program, arg, pl)) ≡ true → n ≡ s
place_leaves t program arg New s n e = cc
place_leaves t program arg (Ready a) s n e = cc
place_leaves t program arg Running s n e = cc
place_leaves t program arg Waiting s n e = cc
place_leaves t program arg Ended s n e = cc

turn_leaves : (t : ℕ) (line : List ℕ) (s : State) (o : Option Thread) → Leaves s (turn t (record s { line = line }) (option_map started o))
turn_leaves t line s None = λ e. cc
turn_leaves t line s (Some thread) = λ e. place_leaves t thread.program thread.arg thread.place s _ e

next_of_leaves : (s : State) (o : Option (ℕ × List ℕ)) → Leaves s (next_of s o)
next_of_leaves s None = if_leaves s (is_stuck s) _ _ (λ e. cc) (λ e. refl)
next_of_leaves s (Some found) = turn_leaves found.0 found.1 s (by_id s.threads found.0)

met_leaves : (p : ℕ) (note : List ℕ) (o : Option ℕ) (s n : State) → Leaves s (met_by p note o n)
met_leaves p note None s n = λ e. cc
met_leaves p note (Some id) s n = λ e. cc

note_leaves : (p : ℕ) (s : State) (o : Option Delivery) → Leaves s (note_first p s o)
note_leaves p s None = next_of_leaves s (first_ready p s)
note_leaves p s (Some d) = met_leaves p d.note d.caught_by s _

next_leaves : (S : Setup) (p : ℕ) (s : State) → Leaves s (next_event S p s)
unfolding next_event
next_leaves S p s =
    if_leaves s (not (is_place S p)) _ _ (λ e. refl) (if_leaves s (is_over p s) _ _ (λ e. refl) (if_leaves s (list_any (runs_in p) s.threads) _ _ (λ e. refl) (note_leaves p s (next_note p s))))

take_leaves : (k : ℕ) (s : State) (o : Option Ioproc) → Leaves s (take_call k s o)
take_leaves k s None = λ e. refl
take_leaves k s (Some stand.Closed) = λ e. refl
take_leaves k s (Some (stand.Begun t call)) = if_leaves s (s.over || not (list_any lives s.threads)) _ _ (λ e. refl) (λ e. refl)
take_leaves k s (Some (stand.Posted t call)) = if_leaves s (s.over || not (list_any lives s.threads)) _ _ (λ e. refl) (λ e. cc)
take_leaves k s (Some stand.Unmade) = if_leaves s (s.over || not (list_any lives s.threads)) _ _ (λ e. refl) (λ e. refl)
take_leaves k s (Some stand.Idle) = if_leaves s (s.over || not (list_any lives s.threads)) _ _ (λ e. refl) (λ e. refl)

did_leaves : (k : ℕ) (effect : Effect) (s : State) (o : Option Ioproc) → Leaves s (did_call k effect s o)
did_leaves k effect s None = λ e. refl
did_leaves k effect s (Some stand.Unmade) = λ e. refl
did_leaves k effect s (Some stand.Idle) = λ e. refl
did_leaves k effect s (Some (stand.Posted t call)) = λ e. refl
did_leaves k effect s (Some (stand.Begun t call)) = if_leaves s (fits call effect) _ _ (λ e. cc) (λ e. refl)
did_leaves k effect s (Some stand.Closed) = λ e. refl

outcome_leaves : (S : Setup) (seat : Seat) (event : Event) (s : State) → Leaves s (outcome S seat event s)
unfolding outcome io_event
outcome_leaves S (Proc p) (Call t r) s = called_leaves S p t r s
outcome_leaves S (Proc p) Next s = next_leaves S p s
outcome_leaves S (Proc p) IoTake s = λ e. refl
outcome_leaves S (Proc p) (IoDid effect) s = λ e. refl
outcome_leaves S (IoSeat k) IoTake s = take_leaves k s _
outcome_leaves S (IoSeat k) (IoDid effect) s = did_leaves k effect s _
outcome_leaves S (IoSeat k) (Call t r) s = λ e. refl
outcome_leaves S (IoSeat k) Next s = λ e. refl

refusals_make : (r : Reply) → is_refusal r ≡ true → makes_entry r ≡ true
refusals_make (reply.Now a) e = refl
refusals_make reply.Waits e = cc
refusals_make reply.Ended e = cc
refusals_make (reply.Begin t program arg) e = cc
refusals_make (reply.Turn t a) e = cc
refusals_make (reply.Caught id) e = cc
refusals_make (reply.Died note) e = cc
refusals_make reply.Idle e = cc
refusals_make reply.Over e = cc
refusals_make reply.Stuck e = cc
refusals_make reply.Halted e = cc
refusals_make reply.Stray e = cc
refusals_make (reply.Took call) e = cc
refusals_make reply.Noted e = cc

counted_leaves : (s : State) (o : Outcome) → Leaves s o → is_refusal o.reply ≡ true → (counted s o).state ≡ record s { position = s.position + 1 }
counted_leaves s o leaves e = rw (refusals_make o.reply e, leaves e) refl

pub refusals_leave : (S : Setup) (s : State) (seat : Seat) (event : Event) → is_refusal (step S seat event s).reply ≡ true → (step S seat event s).state ≡ record s { position = s.position + 1 }
unfolding step
refusals_leave S s seat event e = counted_leaves s (outcome S seat event s) (outcome_leaves S seat event s) e
