-- What moves by a step: only an alt makes a value leave a channel, and the step tells it.
use Rattle.std.proofs.Common.{◌≡◌, ℕ, ◌||◌, Bool, true, false, not, cond, List, [], ◌∷◌, ◌++◌, Option, Some, None, refl, ap, ◌∙◌}
use Rattle.std.specs.Prelude.{option_map, nat_lt}
use Rattle.std.specs.List.{list_any, cons_option}
use Rattle.p9_word.specs.declared.request.Request.{Request}
use Rattle.p9_word.specs.declared.request.Request.TheVariants.{Chan as ChanRequest}
use Rattle.p9_word.specs.declared.request.ChanReq.{ChanReq}
use Rattle.p9_word.specs.declared.request.IoReq.{IoReq}
use Rattle.p9_word.specs.declared.request.LockReq.{LockReq}
use Rattle.p9_word.specs.declared.request.IoReq.TheVariants.{IoProc, IoRun, IoInterrupt, CloseIoProc}
use Rattle.p9_word.specs.declared.io_call.IoCall.{IoCall}
use Rattle.p9_word.specs.declared.io_call.Effect.{Effect}
use Rattle.p9_word.specs.declared.setup.Setup.{Setup}
use Rattle.p9_word.specs.declared.trail.Entry.{Entry}
use Rattle.p9_word.specs.declared.trail.Event.{Event}
use Rattle.p9_word.specs.declared.trail.Event.TheVariants.{Call, Next, IoTake, IoDid}
use Rattle.p9_word.specs.declared.trail.Seat.{Seat}
use Rattle.p9_word.specs.declared.trail.Seat.TheVariants.{Proc, Io as IoSeat}
use Rattle.p9_manual.specs.declared.state.Ioproc.{Ioproc}
use Rattle.p9_manual.specs.declared.state.Ioproc.TheVariants.{Unmade, Idle, Posted, Begun, Closed}
use Rattle.p9_manual.specs.Offers.{Alternation, alternation, alternation_of}
use Rattle.p9_manual.specs.ReadyEntries.{fits as fits_all}
use Rattle.p9_manual.specs.Alt.{Verdict, AllClosed, Commits, NoneReady, MustWait, verdict_of, with_draw, decided}
use Rattle.p9_manual.specs.Chans.{on_channel, by_alternation, chan_call}
use Rattle.p9_manual.specs.Effects.{fits, message_length}
use Rattle.p9_manual.specs.Ioprocs.{make, post_call, interrupt_begun, interrupt_call, close_ioproc, io_call, take_call, did_call, io_event}
use Rattle.p9_manual.specs.Locks.{lock_call}
use Rattle.p9_manual.specs.Next.{next_event, next_of, first_ready, note_first, turn, is_place, is_over, started}
use Rattle.p9_manual.specs.NoteCalls.{met_by, next_note, with_pending, with_proc}
use Rattle.p9_manual.specs.Notes.{Delivery}
use Rattle.p9_manual.specs.Places.{lives, runs_in, runs_there}
use Rattle.p9_manual.specs.Signals.{signal_call}
use Rattle.p9_manual.specs.State.{Move, State, Outcome, by_id, bad}
use Rattle.p9_manual.specs.Step.{step, outcome, is_doomed}
use Rattle.p9_manual.specs.Stuck.{is_stuck}
use Rattle.p9_manual.specs.History.{after_entry}
use Rattle.p9_laws.specs.Moves.{moves_from}
use Rattle.p9_laws.proofs.Asked.{Does, Answers, ChangesCaller, ChangesAside, MakesThread, MakesProc, GivesWay, Ends, EndsAll}
use Rattle.p9_laws.proofs.AskedSignals.{DoesToSignals, Replies, Signals, SetsHandlers, Posts, signal_call_does}
use Rattle.p9_laws.proofs.Groups.{Kind, Plain, OfSignals, OfChans, OfLocks, OfIoprocs, served_kind, CallOf, Strays, Dies, Serves, call_of}
use Rattle.p9_laws.proofs.AskedLocks.{DoesToLocks, Says, Counts, Gets, GetsInTurn, WaitsFor, GivesUp, Sleeps, Meets, MovesFirst, MovesAll, lock_call_does}
use Rattle.p9_laws.proofs.AskedChans.{DoesToChans, Tells, MakesChannel, FreesChannel, ClosesChannel, on_channel_does}

-- the value that leaves a channel by an alt with this verdict
abbrev pub moved_by : Verdict → List Move
moved_by (Commits d) = cons_option d.moved []
moved_by AllClosed = []
moved_by NoneReady = []
moved_by MustWait = []

-- the value that leaves a channel by an alt of thread t in state s: none where the request isn't an alt, or where its entries
-- don't fit
abbrev pub moved_in : Setup → ℕ → State → Option Alternation → List Move
moved_in setup t s None = []
moved_in setup t s (Some a) = cond (fits_all s.chans a.entries) (moved_by (verdict_of setup t a s)) []

-- the value that leaves a channel by a call of thread t in proc p: none where it doesn't run there, or ends instead
abbrev pub moved_by_call : Setup → ℕ → ℕ → Request → State → List Move
moved_by_call setup p t r s =
    cond (not (runs_there p (by_id s.threads t))) [] (cond (is_doomed t r s) [] (moved_in setup t s (alternation_of r)))

-- the value that leaves a channel by an event: only a call makes one leave
abbrev pub moved_at : Setup → Seat → Event → State → List Move
moved_at setup (Proc p) (Call t r) s = moved_by_call setup p t r s
moved_at setup (Proc p) Next s = []
moved_at setup (Proc p) IoTake s = []
moved_at setup (Proc p) (IoDid effect) s = []
moved_at setup (IoSeat k) event s = []

-- no value leaves a channel
abbrev MovesNone : Outcome → Type 0
MovesNone o = o.moved ≡ None

if_none : (b : Bool) (o p : Outcome) → MovesNone o → MovesNone p → MovesNone (cond b o p)
if_none true o p f g = f
if_none false o p f g = g

asked_none : (setup : Setup) (t : ℕ) (s : State) (o : Outcome) → Does setup t s o → MovesNone o
asked_none setup t s _ (Answers a) = refl
asked_none setup t s _ (ChangesCaller f caller a at leaves grants) = refl
asked_none setup t s _ (ChangesAside procs a grants same) = refl
asked_none setup t s _ (MakesThread program arg caller at own) = refl
asked_none setup t s _ (MakesProc program arg caller at own room) = refl
asked_none setup t s _ GivesWay = refl
asked_none setup t s _ Ends = refl
asked_none setup t s _ EndsAll = refl

chans_none : (s : State) (o : Outcome) → DoesToChans s o → MovesNone o
chans_none s _ (Tells a) = refl
chans_none s _ (MakesChannel cap elsize) = refl
chans_none s _ (FreesChannel c chan there) = refl
chans_none s _ (ClosesChannel c chan there) = refl

signals_none : (s : State) (o : Outcome) → DoesToSignals s o → MovesNone o
signals_none s _ (Replies a) = refl
signals_none s _ (Signals n m by) = refl
signals_none s _ (SetsHandlers p handlers) = refl
signals_none s _ (Posts p note m alive by) = refl

locks_none : (setup : Setup) (t : ℕ) (s : State) (o : Outcome) → DoesToLocks setup t s o → MovesNone o
locks_none setup t s _ (Says a) = refl
locks_none setup t s _ (Counts k value) = refl
locks_none setup t s _ (Gets l k a grants can) = refl
locks_none setup t s _ (GetsInTurn l k can) = refl
locks_none setup t s _ (WaitsFor r waits) = refl
locks_none setup t s _ (GivesUp l k has) = refl
locks_none setup t s _ (Sleeps r may) = refl
locks_none setup t s _ (Meets tag value w found) = refl
locks_none setup t s _ (MovesFirst r n may) = refl
locks_none setup t s _ (MovesAll r n may) = refl

lock_call_none : (setup : Setup) (t : ℕ) (r : LockReq) (s : State) → MovesNone (lock_call setup t r s)
lock_call_none setup t r s = locks_none setup t s _ (lock_call_does setup t r s)

make_none : (k : ℕ) (s : State) (o : Option Ioproc) → MovesNone (make k s o)
make_none k s (Some Unmade) = refl
make_none k s o = refl

post_call_none : (t k : ℕ) (call : IoCall) (s : State) (o : Option Ioproc) → MovesNone (post_call t k call s o)
post_call_none t k call s (Some Idle) = if_none (nat_lt 4294967295 (message_length call)) _ _ refl refl
post_call_none t k call s o = refl

close_ioproc_none : (k : ℕ) (s : State) (o : Option Ioproc) → MovesNone (close_ioproc k s o)
close_ioproc_none k s (Some Idle) = refl
close_ioproc_none k s o = refl

interrupt_begun_none : (k : ℕ) (call : IoCall) (s : State) (caller : Option ℕ) → MovesNone (interrupt_begun k call s caller)
interrupt_begun_none k call s None = refl
interrupt_begun_none k call s (Some t) = refl

interrupt_call_none : (k : ℕ) (s : State) (o : Option Ioproc) → MovesNone (interrupt_call k s o)
interrupt_call_none k s (Some (Posted t call)) = refl
interrupt_call_none k s (Some (Begun caller call)) = interrupt_begun_none k call s caller
interrupt_call_none k s o = refl

io_call_none : (setup : Setup) (t : ℕ) (r : IoReq) (s : State) → MovesNone (io_call setup t r s)
unfolding io_call
io_call_none setup t (IoProc k) s = make_none k s (by_id s.ioprocs k)
io_call_none setup t (IoRun k call) s = post_call_none t k call s (by_id s.ioprocs k)
io_call_none setup t (IoInterrupt k) s = interrupt_call_none k s (by_id s.ioprocs k)
io_call_none setup t (CloseIoProc k) s = close_ioproc_none k s (by_id s.ioprocs k)

take_none : (k : ℕ) (s : State) (o : Option Ioproc) → MovesNone (take_call k s o)
take_none k s None = refl
take_none k s (Some Closed) = refl
take_none k s (Some (Begun t call)) = if_none (s.over || not (list_any lives s.threads)) _ _ refl refl
take_none k s (Some (Posted t call)) = if_none (s.over || not (list_any lives s.threads)) _ _ refl refl
take_none k s (Some Unmade) = if_none (s.over || not (list_any lives s.threads)) _ _ refl refl
take_none k s (Some Idle) = if_none (s.over || not (list_any lives s.threads)) _ _ refl refl

did_none : (k : ℕ) (effect : Effect) (s : State) (o : Option Ioproc) → MovesNone (did_call k effect s o)
did_none k effect s (Some (Begun t call)) = if_none (fits call effect) _ _ refl refl
did_none k effect s o = refl

io_event_none : (k : ℕ) (s : State) (o : Option Effect) → MovesNone (io_event k s o)
unfolding io_event
io_event_none k s None = take_none k s (by_id s.ioprocs k)
io_event_none k s (Some effect) = did_none k effect s (by_id s.ioprocs k)

next_of_none : (s : State) (o : Option (ℕ × List ℕ)) → MovesNone (next_of s o)
next_of_none s None = if_none (is_stuck s) _ _ refl refl
next_of_none s (Some found) = turn_none found.0 _ (option_map started (by_id s.threads found.0))
  where
    turn_none : (t : ℕ) (s : State) (o : Option _) → MovesNone (turn t s o)
    turn_none t s None = refl
    turn_none t s (Some start) = refl

met_none : (p : ℕ) (note : List ℕ) (o : Option ℕ) (s : State) → MovesNone (met_by p note o s)
met_none p note None s = refl
met_none p note (Some id) s = refl

note_first_none : (p : ℕ) (s : State) (o : Option Delivery) → MovesNone (note_first p s o)
note_first_none p s None = next_of_none s (first_ready p s)
note_first_none p s (Some d) = met_none p d.note d.caught_by (with_proc (with_pending d.pending) p s)

next_event_none : (setup : Setup) (p : ℕ) (s : State) → MovesNone (next_event setup p s)
unfolding next_event
next_event_none setup p s =
    if_none (not (is_place setup p)) _ _ refl
    (if_none (is_over p s) _ _ refl
    (if_none (list_any (runs_in p) s.threads) _ _ refl (note_first_none p s (next_note p s))))

-- what an outcome tells, as a list
abbrev told_by : Outcome → List Move
told_by o = cons_option o.moved []

nothing_told : (o : Outcome) → MovesNone o → told_by o ≡ []
nothing_told o none = rw none refl

decided_moves : (t : ℕ) (r : Request) (s : State) (v : Verdict) → told_by (decided t r s v) ≡ moved_by v
decided_moves t r s AllClosed = refl
decided_moves t r s (Commits d) = refl
decided_moves t r s NoneReady = refl
decided_moves t r s MustWait = refl

if_moves : (b : Bool) (o p : Outcome) (mv : List Move) → told_by o ≡ mv → told_by p ≡ [] → told_by (cond b o p) ≡ cond b mv []
if_moves true o p mv f g = f
if_moves false o p mv f g = g

by_alternation_moves : (setup : Setup) (t : ℕ) (r : ChanReq) (s : State) (o : Option Alternation) → told_by (by_alternation setup t r s o) ≡ moved_in setup t s o
by_alternation_moves setup t r s None = nothing_told (on_channel r s) (chans_none s _ (on_channel_does r s))
by_alternation_moves setup t r s (Some a) =
    if_moves (fits_all s.chans a.entries) _ (bad s) (moved_by (verdict_of setup t a s)) (decided_moves t (ChanRequest r) (with_draw a.entries s) (verdict_of setup t a s)) refl

kind_moves : (setup : Setup) (t : ℕ) (s : State) (r : Request) (o : Outcome) → Kind setup t s r o → told_by o ≡ moved_in setup t s (alternation_of r)
unfolding chan_call
kind_moves setup t s _ _ (Plain r o no_alt does) = rw no_alt (nothing_told o (asked_none setup t s o does))
kind_moves setup t s _ _ (OfSignals r) = nothing_told (signal_call t r s) (signals_none s _ (signal_call_does t r s))
kind_moves setup t s _ _ (OfChans r) = by_alternation_moves setup t r s (alternation r)
kind_moves setup t s _ _ (OfLocks r) = nothing_told (lock_call setup t r s) (lock_call_none setup t r s)
kind_moves setup t s _ _ (OfIoprocs r) = nothing_told (io_call setup t r s) (io_call_none setup t r s)

call_moves : (setup : Setup) (p t : ℕ) (r : Request) (s : State) (o : Outcome) → CallOf setup p t r s o → told_by o ≡ moved_by_call setup p t r s
call_moves setup p t r s _ (Strays elsewhere) = rw elsewhere refl
call_moves setup p t r s _ (Dies there doomed) = rw (there, doomed) refl
call_moves setup p t r s _ (Serves there undoomed) = rw (there, undoomed) (kind_moves setup t s r _ (served_kind setup t r s))

outcome_moves : (setup : Setup) (seat : Seat) (event : Event) (s : State) → told_by (outcome setup seat event s) ≡ moved_at setup seat event s
unfolding outcome
outcome_moves setup (Proc p) (Call t r) s = call_moves setup p t r s _ (call_of setup p t r s)
outcome_moves setup (Proc p) Next s = nothing_told (next_event setup p s) (next_event_none setup p s)
outcome_moves setup (Proc p) IoTake s = refl
outcome_moves setup (Proc p) (IoDid effect) s = refl
outcome_moves setup (IoSeat k) IoTake s = nothing_told (io_event k s None) (io_event_none k s None)
outcome_moves setup (IoSeat k) (IoDid effect) s = nothing_told (io_event k s (Some effect)) (io_event_none k s (Some effect))
outcome_moves setup (IoSeat k) (Call t r) s = refl
outcome_moves setup (IoSeat k) Next s = refl

step_moves : (setup : Setup) (seat : Seat) (event : Event) (s : State) → cons_option (step setup seat event s).moved [] ≡ moved_at setup seat event s
unfolding step
step_moves setup seat event s = outcome_moves setup seat event s

first_then : (o : Option Move) (ms : List Move) → cons_option o ms ≡ cons_option o [] ++ ms
first_then None ms = refl
first_then (Some m) ms = refl

-- the moves by one more entry at the front
pub moves-first : (setup : Setup) (s : State) (e : Entry) (es : List Entry) → moves_from setup s (e ∷ es) ≡ moved_at setup e.seat e.event s ++ moves_from setup (after_entry setup s e) es
moves-first setup s e es =
    first_then (step setup e.seat e.event s).moved (moves_from setup (after_entry setup s e) es)
    ∙ ap (λ ms. ms ++ moves_from setup (after_entry setup s e) es) (step_moves setup e.seat e.event s)
