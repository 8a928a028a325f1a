-- Each event that makes an entry: who has an answer after it that had none before, and whose answer a turn tells.
use Rattle.std.proofs.Common.{◌≡◌, ◌⊎◌, inl, inr, ℕ, Bool, true, false, not, cond, ◌||◌, eqb, List, Option, Some, None, refl, subst}
use Rattle.std.specs.Prelude.{option_map}
use Rattle.std.specs.List.{list_any}
use Rattle.p9_word.specs.declared.answer.Answer.{Answer}
use Rattle.p9_word.specs.declared.answer.Answer.TheVariants.{Io as IoAnswered}
use Rattle.p9_word.specs.declared.io_call.Effect.{Effect}
use Rattle.p9_word.specs.declared.io_call.IoCall.{IoCall}
use Rattle.p9_word.specs.declared.request.Request.{Request}
use Rattle.p9_word.specs.declared.request.Request.TheVariants.{Thread as ThreadRequest, Signal as SignalRequest, Chan as ChanRequest, Lock as LockRequest, Io as IoRequest}
use Rattle.p9_word.specs.declared.setup.Setup.{Setup}
use Rattle.p9_word.specs.declared.trail.Event.{Event}
use Rattle.p9_word.specs.declared.trail.Event.TheVariants.{Call, Next, IoTake, IoDid}
use Rattle.p9_word.specs.declared.trail.Reply.TheVariants.{Ended as EndedReply, Over, Stray}
use Rattle.p9_word.specs.declared.trail.Seat.{Seat}
use Rattle.p9_word.specs.declared.trail.Seat.TheVariants.{Proc, Io as IoSeat}
use Rattle.p9_manual.specs.declared.state.Ioproc.{Ioproc}
use Rattle.p9_manual.specs.declared.state.Ioproc.TheVariants.{Unmade, Idle, Posted, Begun, Closed as ClosedIoproc}
use Rattle.p9_manual.specs.declared.state.Place.{Place}
use Rattle.p9_manual.specs.declared.state.Place.TheVariants.{Running, Ready}
use Rattle.p9_manual.specs.declared.state.Thread.{Thread}
use Rattle.p9_manual.specs.Effects.{fits}
use Rattle.p9_manual.specs.Ends.{ended}
use Rattle.p9_manual.specs.Ioprocs.{answered, did_call, effect_answer, io_event, take_call, with_ioproc}
use Rattle.p9_manual.specs.Next.{first_ready, is_over, is_place, next_event, next_of, note_first, started, turn}
use Rattle.p9_manual.specs.NoteCalls.{met_by, next_note, with_pending, with_proc}
use Rattle.p9_manual.specs.Notes.{Delivery}
use Rattle.p9_manual.specs.Places.{is_of, lives, runs_in, runs_there}
use Rattle.p9_manual.specs.Sound.{call_of, waiting_calls}
use Rattle.p9_manual.specs.Standing.{place_of}
use Rattle.p9_manual.specs.State.{State, Outcome, by_id, placed, replied, same}
use Rattle.p9_manual.specs.Step.{called, counted, is_doomed, makes_entry, outcome, served, step}
use Rattle.p9_manual.specs.Stuck.{is_stuck}
use Rattle.p9_laws.proofs.Asked.{thread_call_does}
use Rattle.p9_laws.proofs.Received.Places.{place_moved}
use Rattle.p9_laws.proofs.Sound.Running.{place_runs}
use Rattle.p9_laws.proofs.Sound.Stand.{eqb_equal, eqb_same}
use Rattle.p9_laws.proofs.Given.Causes.{ToldBy, WokenAt, WokenBy, tells_io}
use Rattle.p9_laws.proofs.Given.Goes.{Goes, Leaves, Rests, Stays, is_apart, woken_wake}
use Rattle.p9_laws.proofs.Given.Ioprocs.{IsAligned, call_waits, io_replies}
use Rattle.p9_laws.proofs.Given.Locks.{lock_replies}
use Rattle.p9_laws.proofs.Given.Replies.{AllGo, Replies, end_goes, go_replies}
use Rattle.p9_laws.proofs.Given.Requests.{chan_replies, thread_replies}
use Rattle.p9_laws.proofs.Given.Signals.{signal_replies}

-- the event is a call of this thread
abbrev pub is_call_of : ℕ → Event → Bool
is_call_of u (Call t r) = eqb t u
is_call_of u Next = false
is_call_of u IoTake = false
is_call_of u (IoDid effect) = false

-- what an event makes of the place of thread u: it makes a call, and may have the answer of that; or it makes none
pub data Steps (setup : Setup) (s : State) (seat : Seat) (event : Event) (u : ℕ) (after : Place) : Type 0 where
  Own : (p : ℕ) (r : Request) → seat ≡ Proc p → event ≡ Call u r → runs_there p (by_id s.threads u) ≡ true
      → ((a : Answer) → after ≡ Ready a → (is_doomed u r s ≡ false) × ToldBy setup s u r a) → Steps setup s seat event u after
  Other : is_call_of u event ≡ false → Goes (WokenAt s event u) (place_of s.threads u) after → Steps setup s seat event u after

served_replies : (setup : Setup) (t : ℕ) (r : Request) (s : State) → place_of s.threads t ≡ Running → IsAligned s → Replies (WokenBy s r) (ToldBy setup s t r) t s.threads (served setup t r s).state.threads
unfolding served
served_replies setup t (ThreadRequest r) s runs aligned = thread_replies (λ u a. ⊥) setup t s _ runs (thread_call_does setup t r s)
served_replies setup t (SignalRequest r) s runs aligned = signal_replies (λ a. ⊥) t r s runs aligned.rests
served_replies setup t (ChanRequest r) s runs aligned = chan_replies setup t s runs aligned.rests r
served_replies setup t (LockRequest r) s runs aligned = lock_replies setup t r s runs aligned.rests
served_replies setup t (IoRequest r) s runs aligned = io_replies (λ a. ⊥) setup t r s runs aligned

-- thread u is the caller or another one
call_steps : (setup : Setup) (p t : ℕ) (r : Request) (s : State) (after : List Thread) → runs_there p (by_id s.threads t) ≡ true → Replies (WokenBy s r) (λ a. (is_doomed t r s ≡ false) × ToldBy setup s t r a) t s.threads after → (u : ℕ) (b : Bool) → eqb t u ≡ b → Steps setup s (Proc p) (Call t r) u (place_of after u)
call_steps setup p t r s after runs k u true e =
    let same_thread = eqb_equal t u e in
    subst (λ (x : ℕ). Steps setup s (Proc p) (Call t r) x (place_of after x)) same_thread (Own p r refl refl runs k.own)
call_steps setup p t r s after runs k u false e = Other e (k.others u (λ same_thread. let z = subst (λ (x : ℕ). eqb t x ≡ false) same_thread e in let y = eqb_same t in cc (z, y)))

more_replies : (P : ℕ → Answer → Type 0) (Q R : Answer → Type 0) (t : ℕ) (before after : List Thread) → ((a : Answer) → Q a → R a) → Replies P Q t before after → Replies P R t before after
more_replies P Q R t before after more k = record { others = k.others; own = λ a e. more a (k.own a e) }

ended_replies : (setup : Setup) (t : ℕ) (r : Request) (s : State) (Q : Answer → Type 0) → place_of s.threads t ≡ Running → Replies (WokenBy s r) Q t s.threads (ended t s).threads
ended_replies setup t r s Q runs = go_replies (WokenBy s r) Q t s.threads (ended t s).threads runs (end_goes (WokenBy s r) (λ u. eqb u t) s.threads)

if_called : (setup : Setup) (p t : ℕ) (r : Request) (s : State) (b c : Bool) (o n : Outcome) (u : ℕ) → runs_there p (by_id s.threads t) ≡ b → is_doomed t r s ≡ c → (b ≡ true → Replies (WokenBy s r) (λ a. (is_doomed t r s ≡ false) × ToldBy setup s t r a) t s.threads o.state.threads) → (b ≡ true → c ≡ false → Replies (WokenBy s r) (λ a. (is_doomed t r s ≡ false) × ToldBy setup s t r a) t s.threads n.state.threads) → makes_entry (cond (not b) (same Stray s) (cond c o n)).reply ≡ true → Steps setup s (Proc p) (Call t r) u (place_of (cond (not b) (same Stray s) (cond c o n)).state.threads u)
if_called setup p t r s false c o n u e d f g makes = cc
if_called setup p t r s true true o n u e d f g makes = call_steps setup p t r s o.state.threads e (f refl) u (eqb t u) refl
if_called setup p t r s true false o n u e d f g makes = call_steps setup p t r s n.state.threads e (g refl refl) u (eqb t u) refl

called_steps : (setup : Setup) (p t : ℕ) (r : Request) (s : State) → IsAligned s → (u : ℕ) → makes_entry (called setup p t r s).reply ≡ true → Steps setup s (Proc p) (Call t r) u (place_of (called setup p t r s).state.threads u)
unfolding called
called_steps setup p t r s aligned u makes =
    if_called setup p t r s (runs_there p (by_id s.threads t)) (is_doomed t r s) (replied EndedReply (ended t s)) (served setup t r s) u refl refl
    (λ e. ended_replies setup t r s _ (place_runs p (by_id s.threads t) e))
    (λ e d. more_replies (WokenBy s r) (ToldBy setup s t r) _ t s.threads _ (λ a told. (d, told)) (served_replies setup t r s (place_runs p (by_id s.threads t) e) aligned))
    makes

-- nobody is woken
abbrev Nobody : ℕ → Answer → Type 0
Nobody u a = ⊥

stay : (P : ℕ → Answer → Type 0) (threads : List Thread) → AllGo P threads threads
stay P threads u = Stays (place_of threads u)

if_go : (P : ℕ → Answer → Type 0) (before : List Thread) (b : Bool) (o p : Outcome) → AllGo P before o.state.threads → AllGo P before p.state.threads → AllGo P before (cond b o p).state.threads
if_go P before true o p f g = f
if_go P before false o p f g = g

put_step : (P : Answer → Type 0) (before after pl : Place) → (after ≡ before) ⊎ (after ≡ pl) → is_apart pl ≡ true → Goes P before after
put_step P before after pl (inl e) h = rw e (Stays before)
put_step P before after pl (inr e) h = rw e (Leaves before pl h)

-- a thread is put where it has no answer
put_goes : (P : ℕ → Answer → Type 0) (t : ℕ) (pl : Place) (threads : List Thread) → is_apart pl ≡ true → AllGo P threads (placed t pl threads)
put_goes P t pl threads h u =
    put_step (P u) (place_of threads u) (place_of (placed t pl threads) u) pl
    (elim (place_moved t pl threads u) [ inl e ↦ inl e | inr k ↦ inr k.1 ]) h

turn_goes : (t : ℕ) (s : State) (o : Option (ℕ × ℕ × Place)) → AllGo Nobody s.threads (turn t s o).state.threads
turn_goes t s None = stay Nobody s.threads
turn_goes t s (Some start) = put_goes Nobody t Running s.threads refl

next_of_goes : (s : State) (o : Option (ℕ × List ℕ)) → AllGo Nobody s.threads (next_of s o).state.threads
next_of_goes s None = if_go Nobody s.threads (is_stuck s) _ _ (stay Nobody s.threads) (stay Nobody s.threads)
next_of_goes s (Some found) = turn_goes found.0 (record s { line = found.1 }) (option_map started (by_id s.threads found.0))

met_goes : (p : ℕ) (note : List ℕ) (o : Option ℕ) (s : State) → AllGo Nobody s.threads (met_by p note o s).state.threads
met_goes p note (Some id) s = stay Nobody s.threads
met_goes p note None s = end_goes Nobody (λ t. is_of p (by_id s.threads t)) s.threads

note_goes : (p : ℕ) (s : State) (o : Option Delivery) → AllGo Nobody s.threads (note_first p s o).state.threads
note_goes p s None = next_of_goes s (first_ready p s)
note_goes p s (Some d) = met_goes p d.note d.caught_by (with_proc (with_pending d.pending) p s)

next_goes : (setup : Setup) (p : ℕ) (s : State) → AllGo Nobody s.threads (next_event setup p s).state.threads
unfolding next_event
next_goes setup p s =
    if_go Nobody s.threads (not (is_place setup p)) (same Stray s) _ (stay Nobody s.threads)
    (if_go Nobody s.threads (is_over p s) (same Over s) _ (stay Nobody s.threads)
    (if_go Nobody s.threads (list_any (runs_in p) s.threads) (same Stray s) _ (stay Nobody s.threads) (note_goes p s (next_note p s))))

take_goes : (k : ℕ) (s : State) (o : Option Ioproc) → AllGo Nobody s.threads (take_call k s o).state.threads
take_goes k s None = stay Nobody s.threads
take_goes k s (Some ClosedIoproc) = stay Nobody s.threads
take_goes k s (Some (Begun t call)) = if_go Nobody s.threads (s.over || not (list_any lives s.threads)) _ _ (stay Nobody s.threads) (stay Nobody s.threads)
take_goes k s (Some (Posted t call)) = if_go Nobody s.threads (s.over || not (list_any lives s.threads)) _ _ (stay Nobody s.threads) (stay Nobody s.threads)
take_goes k s (Some Unmade) = if_go Nobody s.threads (s.over || not (list_any lives s.threads)) _ _ (stay Nobody s.threads) (stay Nobody s.threads)
take_goes k s (Some Idle) = if_go Nobody s.threads (s.over || not (list_any lives s.threads)) _ _ (stay Nobody s.threads) (stay Nobody s.threads)

-- who is told an effect
abbrev ByEffect : ℕ → Answer → Type 0
ByEffect u a = tells_io a ≡ true

answered_goes : (effect : Effect) (k : ℕ) (call : IoCall) (s : State) (t : Option ℕ) → Rests s.threads s.waits → waiting_calls k s.waits ≡ call_of (Some (Begun t call)) → AllGo ByEffect s.threads (answered t effect (with_ioproc k Idle s)).threads
answered_goes effect k call s None rests e = stay ByEffect s.threads
answered_goes effect k call s (Some t) rests e =
    let waits = call_waits k t call s rests e in
    (woken_wake ByEffect s (with_ioproc k Idle s) t (IoAnswered (effect_answer effect)) waits refl (record { each = stay ByEffect s.threads; rests = rests })).each

did_goes : (k : ℕ) (effect : Effect) (s : State) (o : Option Ioproc) → Rests s.threads s.waits → waiting_calls k s.waits ≡ call_of o → AllGo ByEffect s.threads (did_call k effect s o).state.threads
did_goes k effect s (Some (Begun t call)) rests e = if_go ByEffect s.threads (fits call effect) _ (same Stray s) (answered_goes effect k call s t rests e) (stay ByEffect s.threads)
did_goes k effect s (Some Unmade) rests e = stay ByEffect s.threads
did_goes k effect s (Some Idle) rests e = stay ByEffect s.threads
did_goes k effect s (Some (Posted t call)) rests e = stay ByEffect s.threads
did_goes k effect s (Some ClosedIoproc) rests e = stay ByEffect s.threads
did_goes k effect s None rests e = stay ByEffect s.threads

io_take_goes : (k : ℕ) (s : State) → AllGo Nobody s.threads (io_event k s None).state.threads
unfolding io_event
io_take_goes k s = take_goes k s (by_id s.ioprocs k)

io_did_goes : (k : ℕ) (effect : Effect) (s : State) → IsAligned s → AllGo ByEffect s.threads (io_event k s (Some effect)).state.threads
unfolding io_event
io_did_goes k effect s aligned = did_goes k effect s (by_id s.ioprocs k) aligned.rests (aligned.calls k)

outcome_steps : (setup : Setup) (seat : Seat) (event : Event) (s : State) → IsAligned s → (u : ℕ) → makes_entry (outcome setup seat event s).reply ≡ true → Steps setup s seat event u (place_of (outcome setup seat event s).state.threads u)
unfolding outcome
outcome_steps setup (Proc p) (Call t r) s aligned u makes = called_steps setup p t r s aligned u makes
outcome_steps setup (Proc p) Next s aligned u makes = Other refl (next_goes setup p s u)
outcome_steps setup (Proc p) IoTake s aligned u makes = cc
outcome_steps setup (Proc p) (IoDid effect) s aligned u makes = cc
outcome_steps setup (IoSeat k) IoTake s aligned u makes = Other refl (io_take_goes k s u)
outcome_steps setup (IoSeat k) (IoDid effect) s aligned u makes = Other refl (io_did_goes k effect s aligned u)
outcome_steps setup (IoSeat k) (Call t r) s aligned u makes = cc
outcome_steps setup (IoSeat k) Next s aligned u makes = cc

counted_steps : (setup : Setup) (seat : Seat) (event : Event) (s : State) (o : Outcome) (u : ℕ) → makes_entry o.reply ≡ true → Steps setup s seat event u (place_of o.state.threads u) → Steps setup s seat event u (place_of (counted s o).state.threads u)
counted_steps setup seat event s o u makes k = rw makes k

-- each event that makes an entry
pub step_steps : (setup : Setup) (seat : Seat) (event : Event) (s : State) → IsAligned s → (u : ℕ) → makes_entry (step setup seat event s).reply ≡ true → Steps setup s seat event u (place_of (step setup seat event s).state.threads u)
unfolding step
step_steps setup seat event s aligned u makes = counted_steps setup seat event s (outcome setup seat event s) u makes (outcome_steps setup seat event s aligned u makes)
