-- What gives the answer Interrupted.
use Rattle.std.proofs.Common.{◌≡◌, ℕ, Bool, true, false, not, cond, ◌&&◌, List, Option, Some, None, refl, ap, subst, ◌∙◌}
use Rattle.p9_word.specs.Setup.{IsValid}
use Rattle.p9_word.specs.declared.answer.Answer.{Answer}
use Rattle.p9_word.specs.declared.answer.Answer.TheVariants.{Bad, Done, Interrupted, Number}
use Rattle.p9_word.specs.declared.io_call.IoCall.{IoCall}
use Rattle.p9_word.specs.declared.request.ChanReq.{ChanReq}
use Rattle.p9_word.specs.declared.request.IoReq.{IoReq}
use Rattle.p9_word.specs.declared.request.IoReq.TheVariants.{IoProc, IoRun, IoInterrupt, CloseIoProc}
use Rattle.p9_word.specs.declared.request.Request.{Request}
use Rattle.p9_word.specs.declared.request.Request.TheVariants.{Thread as ThreadRequest, Signal as SignalRequest, Chan as ChanRequest, Lock as LockRequest, Io as IoRequest}
use Rattle.p9_word.specs.declared.setup.Setup.{Setup}
use Rattle.p9_word.specs.declared.trail.Entry.{Entry}
use Rattle.p9_word.specs.declared.trail.Event.{Event}
use Rattle.p9_word.specs.declared.trail.Event.TheVariants.{Call, Next, IoTake, IoDid}
use Rattle.p9_word.specs.declared.trail.Reply.TheVariants.{Now, Stray}
use Rattle.p9_word.specs.declared.trail.Seat.{Seat}
use Rattle.p9_word.specs.declared.trail.Seat.TheVariants.{Proc, Io as IoSeat}
use Rattle.p9_manual.specs.declared.state.Ioproc.{Ioproc}
use Rattle.p9_manual.specs.declared.state.Ioproc.TheVariants.{Unmade, Idle, Posted, Begun, Closed}
use Rattle.p9_manual.specs.declared.state.Place.TheVariants.{Waiting}
use Rattle.p9_manual.specs.History.{IsLegal}
use Rattle.p9_manual.specs.Ioprocs.{interrupt_begun, interrupt_call, io_call}
use Rattle.p9_manual.specs.Places.{is_marked, runs_there}
use Rattle.p9_manual.specs.Relinquish.{relinquishes}
use Rattle.p9_manual.specs.State.{State, Outcome, by_id, same}
use Rattle.p9_manual.specs.Step.{called, is_doomed, makes_entry, outcome, served, step}
use Rattle.p9_manual.specs.Told.{failed_answer}
use Rattle.p9_laws.specs.Causes.{InterruptsCaused, interrupts, io_interrupts}
use Rattle.p9_laws.specs.Given.{state_before}
use Rattle.p9_laws.proofs.AskedSignals.{DoesToSignals, Posts, Replies, SetsHandlers, Signals, signal_call_does}
use Rattle.p9_laws.proofs.Given.Causes.{Closes, Meets, ToldBy, WokenAt, WokenBy, WokenByChan}
use Rattle.p9_laws.proofs.Given.Entries.{IsAt, is_at}
use Rattle.p9_laws.proofs.Given.Histories.{answers_given}
use Rattle.p9_laws.proofs.Given.Tells.{alt_tells}
use Rattle.p9_laws.proofs.Given.Givers.{giver}
use Rattle.p9_laws.proofs.Given.Served.{ByAnother, ByItself, IsCause}
use Rattle.p9_manual.specs.Standing.{place_of}

-- the outcome is an answer at once
abbrev IsNow : Outcome → Type 0
IsNow o = (a : Answer) × (o.reply ≡ Now a)

signals_now : (s : State) (o : Outcome) → DoesToSignals s o → IsNow o
signals_now s _ (Replies a) = (a, refl)
signals_now s _ (Signals n m signalled) = (Number n, refl)
signals_now s _ (SetsHandlers p handlers) = (Number 1, refl)
signals_now s _ (Posts p note m alive signalled) = (Done, refl)

begun_now : (k : ℕ) (call : IoCall) (s : State) (caller : Option ℕ) → IsNow (interrupt_begun k call s caller)
begun_now k call s None = (Number 0, refl)
begun_now k call s (Some t) = (Number 1, refl)

io_now : (k : ℕ) (s : State) (o : Option Ioproc) → IsNow (interrupt_call k s o)
io_now k s (Some (Posted t call)) = (Number 1, refl)
io_now k s (Some (Begun caller call)) = begun_now k call s caller
io_now k s (Some Idle) = (Number 0, refl)
io_now k s (Some Unmade) = (Bad, refl)
io_now k s (Some Closed) = (Bad, refl)
io_now k s None = (Bad, refl)

io_call_now : (setup : Setup) (t : ℕ) (r : IoReq) (s : State) → io_interrupts r ≡ true → IsNow (io_call setup t r s)
unfolding io_call
io_call_now setup t (IoProc k) s can = cc
io_call_now setup t (IoRun k call) s can = cc
io_call_now setup t (IoInterrupt k) s can = io_now k s (by_id s.ioprocs k)
io_call_now setup t (CloseIoProc k) s can = cc

served_now : (setup : Setup) (t : ℕ) (r : Request) (s : State) → interrupts r ≡ true → IsNow (served setup t r s)
unfolding served
served_now setup t (ThreadRequest r) s can = cc
served_now setup t (SignalRequest r) s can = signals_now s _ (signal_call_does t r s)
served_now setup t (ChanRequest r) s can = cc
served_now setup t (LockRequest r) s can = cc
served_now setup t (IoRequest r) s can = io_call_now setup t r s can

-- it doesn't let others run
stays_on : (r : Request) → interrupts r ≡ true → relinquishes r ≡ false
stays_on (ThreadRequest r) can = cc
stays_on (SignalRequest r) can = refl
stays_on (ChanRequest r) can = cc
stays_on (LockRequest r) can = cc
stays_on (IoRequest r) can = refl

never : (b c : Bool) → c ≡ false → (b && c) ≡ false
never true c e = e
never false c e = refl

call_step : (b c : Bool) (s : State) (o p : Outcome) → c ≡ false → IsNow p → makes_entry (cond (not b) (same Stray s) (cond c o p)).reply ≡ true → IsNow (cond (not b) (same Stray s) (cond c o p))
call_step false c s o p e h makes = cc
call_step true c s o p e h makes = rw e h

called_now : (setup : Setup) (p t : ℕ) (r : Request) (s : State) → interrupts r ≡ true → makes_entry (called setup p t r s).reply ≡ true → IsNow (called setup p t r s)
unfolding called
called_now setup p t r s can makes =
    call_step (runs_there p (by_id s.threads t)) (is_doomed t r s) s _ (served setup t r s) (never (is_marked (by_id s.threads t)) (relinquishes r) (stays_on r can)) (served_now setup t r s can) makes

outcome_now : (setup : Setup) (seat : Seat) (t : ℕ) (r : Request) (s : State) → interrupts r ≡ true → makes_entry (outcome setup seat (Call t r) s).reply ≡ true → IsNow (outcome setup seat (Call t r) s)
unfolding outcome
outcome_now setup (Proc p) t r s can makes = called_now setup p t r s can makes
outcome_now setup (IoSeat k) t r s can makes = cc

-- a request that interrupts threads is answered at once
step_now : (setup : Setup) (seat : Seat) (t : ℕ) (r : Request) (s : State) → interrupts r ≡ true → makes_entry (step setup seat (Call t r) s).reply ≡ true → (a : Answer) × ((step setup seat (Call t r) s).reply ≡ Now a)
unfolding step
step_now setup seat t r s can makes = outcome_now setup seat t r s can makes

-- no request tells its own caller that it was interrupted
own_not_interrupted : (setup : Setup) (s : State) (t : ℕ) (r : Request) → ToldBy setup s t r Interrupted → ⊥
own_not_interrupted setup s t (ThreadRequest r) h = cc
own_not_interrupted setup s t (SignalRequest r) h = h
own_not_interrupted setup s t (ChanRequest r) h = let k = alt_tells setup s t r Interrupted h in cc
own_not_interrupted setup s t (LockRequest r) h = cc
own_not_interrupted setup s t (IoRequest r) h = h

failed_not_interrupted : (single : Bool) (i : ℕ) → Interrupted ≡ failed_answer single i → ⊥
failed_not_interrupted true i e = cc
failed_not_interrupted false i e = cc

chan_not_interrupted : (s : State) (r : ChanReq) (u : ℕ) → WokenByChan s r u Interrupted → ⊥
chan_not_interrupted s r u (Meets alt is_alt h) = cc
chan_not_interrupted s r u (Closes c is fails) = failed_not_interrupted fails.party.single _ fails.answer

-- the event is a call that can interrupt threads
record Interrupts (event : Event) : Type 0 where
  pub caller : ℕ
  pub request : Request
  pub is_call : event ≡ Call caller request
  pub can : interrupts request ≡ true

request_interrupts : (s : State) (t u : ℕ) (r : Request) → WokenBy s r u Interrupted → Interrupts (Call t r)
request_interrupts s t u (ThreadRequest r) h = absurd h
request_interrupts s t u (SignalRequest r) h = record { caller = t; request = SignalRequest r; is_call = refl; can = h.0 }
request_interrupts s t u (ChanRequest r) h = absurd (chan_not_interrupted s r u h)
request_interrupts s t u (LockRequest r) h = cc
request_interrupts s t u (IoRequest r) h = record { caller = t; request = IoRequest r; is_call = refl; can = h.0 }

woken_interrupts : (s : State) (event : Event) (u : ℕ) → WokenAt s event u Interrupted → Interrupts event
woken_interrupts s (Call t r) u h = request_interrupts s t u r h
woken_interrupts s Next u h = absurd h
woken_interrupts s IoTake u h = absurd h
woken_interrupts s (IoDid effect) u h = cc

entry_now : (setup : Setup) (H : List Entry) (n : ℕ) (e : Entry) (t : ℕ) (r : Request) → IsAt setup H n e → e.event ≡ Call t r → interrupts r ≡ true → (a : Answer) × (e.reply ≡ Now a)
entry_now setup H n e t r here is can =
    let k = step_now setup e.seat t r (state_before setup H n) can (subst (λ (event : Event). makes_entry (step setup e.seat event (state_before setup H n)).reply ≡ true) is here.makes) in
    (k.0, here.reply ∙ ap (λ (event : Event). (step setup e.seat event (state_before setup H n)).reply) is ∙ k.1)

cause_interrupts : (setup : Setup) (seat : Seat) (event : Event) (s : State) (t : ℕ) → IsCause setup seat event s t Interrupted → (place_of s.threads t ≡ Waiting) × Interrupts event
cause_interrupts setup seat event s t (ByItself p r seat_is is runs spared told) = absurd (own_not_interrupted setup s t r told)
cause_interrupts setup seat event s t (ByAnother waited woken) = (waited, woken_interrupts s event t woken)

pub interrupts_caused : (setup : Setup) (H : List Entry) → IsValid setup → IsLegal setup H → InterruptsCaused setup H
interrupts_caused setup H valid legal i t e at told =
    let g = answers_given setup H valid legal i t Interrupted e at told in
    let k = cause_interrupts setup g.entry.seat g.entry.event (state_before setup H g.at) t (giver setup H valid legal i t Interrupted g) in
    let now = entry_now setup H g.at g.entry k.1.caller k.1.request (is_at setup H g.at g.entry legal g.is_there) k.1.is_call k.1.can in
    record {
      told = g;
      waited = k.0;
      cause = record { caller = k.1.caller; request = k.1.request; answer = now.0; is_call = k.1.is_call; can_interrupt = k.1.can; answered = now.1 };
    }
