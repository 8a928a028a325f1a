-- Requests on ioprocs: whom they wake, and which answers their caller has.
use Rattle.std.proofs.Common.{◌≡◌, ℕ, Bool, true, false, cond, ltb, eqb, List, [], ◌∷◌, Option, Some, None, refl, subst}
use Rattle.std.specs.Prelude.{All}
use Rattle.std.proofs.lemmas.List.Elements.{All-append, All-cons, All-head, All-nil, All-tail}
use Rattle.p9_word.specs.declared.answer.Answer.{Answer}
use Rattle.p9_word.specs.declared.answer.Answer.TheVariants.{Interrupted}
use Rattle.p9_word.specs.declared.io_call.IoCall.{IoCall}
use Rattle.p9_word.specs.declared.request.IoReq.{IoReq}
use Rattle.p9_word.specs.declared.request.IoReq.TheVariants.{IoProc, IoRun, IoInterrupt, CloseIoProc}
use Rattle.p9_word.specs.declared.request.Request.{Request}
use Rattle.p9_word.specs.declared.request.Request.TheVariants.{Thread as ThreadRequest, Signal as SignalRequest, Chan as ChanRequest, Lock as LockRequest, Io as IoRequest}
use Rattle.p9_word.specs.declared.setup.Setup.{Setup}
use Rattle.p9_manual.specs.declared.state.Ioproc.{Ioproc}
use Rattle.p9_manual.specs.declared.state.Ioproc.TheVariants.{Unmade, Idle, Posted, Begun, Closed}
use Rattle.p9_manual.specs.declared.state.Place.TheVariants.{Running, Waiting}
use Rattle.p9_manual.specs.declared.state.Thread.{Thread}
use Rattle.p9_manual.specs.declared.state.Waiter.{Waiter}
use Rattle.p9_manual.specs.Effects.{message_length}
use Rattle.p9_manual.specs.Ioprocs.{close_ioproc, interrupt_begun, interrupt_call, io_call, make, post_call, with_ioproc}
use Rattle.p9_manual.specs.Sound.{IsSound, call_at, call_in, call_of, waiting_calls}
use Rattle.p9_manual.specs.Standing.{place_of}
use Rattle.p9_manual.specs.State.{State, by_id, wake}
use Rattle.p9_laws.specs.Causes.{io_interrupts}
use Rattle.p9_laws.proofs.Given.Goes.{Rests, Stays, rests_once, stays_woken, woken_wake}
use Rattle.p9_laws.proofs.Given.Replies.{Replies, go_replies, if_replies, same_replies, wait_replies}

-- who is among the waits waits, as do those for whom ioprocs have calls
pub record IsAligned (s : State) : Type 0 where
  pub rests : Rests s.threads s.waits
  pub calls : (k : ℕ) → waiting_calls k s.waits ≡ call_of (by_id s.ioprocs k)

-- a sound state is so
pub aligned : (setup : Setup) (s : State) → IsSound setup s → IsAligned s
aligned setup s sound = record { rests = rests_once s.threads s.line s.waits sound.stand; calls = sound.calls.calls }

-- each of these calls is one of a thread that waits
abbrev CallersRest : List Thread → List (ℕ × IoCall) → Type 0
CallersRest threads calls = All (λ x. place_of threads x.0 ≡ Waiting) calls

if_rests : (threads : List Thread) (b : Bool) (t : ℕ) (call : IoCall) → place_of threads t ≡ Waiting → CallersRest threads (cond b ((t, call) ∷ []) [])
if_rests threads true t call h = All-cons (λ (x : ℕ × IoCall). place_of threads x.0 ≡ Waiting) (t, call) [] h (All-nil (λ x. place_of threads x.0 ≡ Waiting))
if_rests threads false t call h = All-nil (λ x. place_of threads x.0 ≡ Waiting)

call_rests : (threads : List Thread) (k t : ℕ) (r : Request) → place_of threads t ≡ Waiting → CallersRest threads (call_in k t r)
call_rests threads k t (IoRequest (IoRun j call)) h = if_rests threads (eqb j k) t call h
call_rests threads k t (IoRequest (IoProc j)) h = All-nil (λ x. place_of threads x.0 ≡ Waiting)
call_rests threads k t (IoRequest (IoInterrupt j)) h = All-nil (λ x. place_of threads x.0 ≡ Waiting)
call_rests threads k t (IoRequest (CloseIoProc j)) h = All-nil (λ x. place_of threads x.0 ≡ Waiting)
call_rests threads k t (ThreadRequest r) h = All-nil (λ x. place_of threads x.0 ≡ Waiting)
call_rests threads k t (SignalRequest r) h = All-nil (λ x. place_of threads x.0 ≡ Waiting)
call_rests threads k t (ChanRequest r) h = All-nil (λ x. place_of threads x.0 ≡ Waiting)
call_rests threads k t (LockRequest r) h = All-nil (λ x. place_of threads x.0 ≡ Waiting)

callers_rest : (threads : List Thread) (k : ℕ) → (waits : List Waiter) → Rests threads waits → CallersRest threads (waiting_calls k waits)
callers_rest threads k [] rests = All-nil (λ x. place_of threads x.0 ≡ Waiting)
callers_rest threads k (w ∷ ws) rests =
    All-append (λ (x : ℕ × IoCall). place_of threads x.0 ≡ Waiting) (call_at k w) (waiting_calls k ws)
    (call_rests threads k w.tid w.request (All-head (λ x. place_of threads x.tid ≡ Waiting) w ws rests))
    (callers_rest threads k ws (All-tail (λ x. place_of threads x.tid ≡ Waiting) w ws rests))

-- the thread that an ioproc's call is for waits
pub call_waits : (k t : ℕ) (call : IoCall) (s : State) → Rests s.threads s.waits → waiting_calls k s.waits ≡ (t, call) ∷ [] → place_of s.threads t ≡ Waiting
call_waits k t call s rests e =
    let all = subst (CallersRest s.threads) e (callers_rest s.threads k s.waits rests) in
    All-head (λ (x : ℕ × IoCall). place_of s.threads x.0 ≡ Waiting) (t, call) [] all

module _ (P : ℕ → Answer → Type 0) (Q : Answer → Type 0) (t : ℕ) (s : State) (runs : place_of s.threads t ≡ Running) where
  same : Replies P Q t s.threads s.threads
  same = same_replies P Q t s.threads runs

  make_replies : (k : ℕ) (o : Option Ioproc) → Replies P Q t s.threads (make k s o).state.threads
  make_replies k (Some Unmade) = same
  make_replies k (Some Idle) = same
  make_replies k (Some (Posted u call)) = same
  make_replies k (Some (Begun u call)) = same
  make_replies k (Some Closed) = same
  make_replies k None = same

  post_replies : (k : ℕ) (call : IoCall) (o : Option Ioproc) → Replies P Q t s.threads (post_call t k call s o).state.threads
  post_replies k call (Some Idle) =
      if_replies P Q t s.threads (ltb 4294967295 (message_length call)) _ _ (λ _. same) (λ _. wait_replies P Q t s.threads s.threads runs (λ u. Stays (place_of s.threads u)))
  post_replies k call (Some Unmade) = same
  post_replies k call (Some (Posted u other)) = same
  post_replies k call (Some (Begun u other)) = same
  post_replies k call (Some Closed) = same
  post_replies k call None = same

  close_replies : (k : ℕ) (o : Option Ioproc) → Replies P Q t s.threads (close_ioproc k s o).state.threads
  close_replies k (Some Idle) = same
  close_replies k (Some Unmade) = same
  close_replies k (Some (Posted u call)) = same
  close_replies k (Some (Begun u call)) = same
  close_replies k (Some Closed) = same
  close_replies k None = same

  module _ (holds : (u : ℕ) → P u Interrupted) (rests : Rests s.threads s.waits) where
    -- the thread that waits for the call of an ioproc is interrupted
    caller_replies : (k : ℕ) (io : Ioproc) (u : ℕ) (call : IoCall) → waiting_calls k s.waits ≡ (u, call) ∷ [] → Replies P Q t s.threads (wake u Interrupted (with_ioproc k io s)).threads
    caller_replies k io u call e =
        go_replies P Q t s.threads _ runs
        (woken_wake P s (with_ioproc k io s) u Interrupted (call_waits k u call s rests e) (holds u) (record { each = (stays_woken P s rests).each; rests = rests })).each

    begun_replies : (k : ℕ) (call : IoCall) (caller : Option ℕ) → waiting_calls k s.waits ≡ call_of (Some (Begun caller call)) → Replies P Q t s.threads (interrupt_begun k call s caller).state.threads
    begun_replies k call None e = same
    begun_replies k call (Some u) e = caller_replies k (Begun None call) u call e

    interrupt_replies : (k : ℕ) (o : Option Ioproc) → waiting_calls k s.waits ≡ call_of o → Replies P Q t s.threads (interrupt_call k s o).state.threads
    interrupt_replies k (Some (Posted u call)) e = caller_replies k Idle u call e
    interrupt_replies k (Some (Begun caller call)) e = begun_replies k call caller e
    interrupt_replies k (Some Idle) e = same
    interrupt_replies k (Some Unmade) e = same
    interrupt_replies k (Some Closed) e = same
    interrupt_replies k None e = same

-- a request on ioprocs
pub io_replies : (Q : Answer → Type 0) (setup : Setup) (t : ℕ) (r : IoReq) (s : State) → place_of s.threads t ≡ Running → IsAligned s → Replies (λ u a. (io_interrupts r ≡ true) × (a ≡ Interrupted)) Q t s.threads (io_call setup t r s).state.threads
unfolding io_call
io_replies Q setup t (IoProc k) s runs aligned = make_replies _ Q t s runs k (by_id s.ioprocs k)
io_replies Q setup t (IoRun k call) s runs aligned = post_replies _ Q t s runs k call (by_id s.ioprocs k)
io_replies Q setup t (IoInterrupt k) s runs aligned = interrupt_replies _ Q t s runs (λ u. (refl, refl)) aligned.rests k (by_id s.ioprocs k) (aligned.calls k)
io_replies Q setup t (CloseIoProc k) s runs aligned = close_replies _ Q t s runs k (by_id s.ioprocs k)
