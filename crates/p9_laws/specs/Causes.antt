-- What gives threads the answers that they are told at their turns. This project's own.
use Rattle.std.specs.Prelude.{ℕ, ◌≡◌, Bool, true, false, List, Some, slice_get, nat_lt}
use Rattle.p9_word.specs.declared.answer.Answer.{Answer}
use Rattle.p9_word.specs.declared.answer.Answer.TheVariants.{Bad, Interrupted, Minus, Number, Text}
use Rattle.p9_word.specs.declared.request.IoReq.{IoReq}
use Rattle.p9_word.specs.declared.request.IoReq.TheVariants.{IoProc, IoRun, IoInterrupt, CloseIoProc}
use Rattle.p9_word.specs.declared.request.Request.{Request}
use Rattle.p9_word.specs.declared.request.Request.TheVariants.{Thread as ThreadRequest, Signal as SignalRequest, Chan as ChanRequest, Lock as LockRequest, Io as IoRequest}
use Rattle.p9_word.specs.declared.request.SignalReq.{SignalReq}
use Rattle.p9_word.specs.declared.request.SignalReq.TheVariants.{ThreadInt, ThreadKill, ThreadIntGrp, ThreadKillGrp, ThreadNotify, PostNote}
use Rattle.p9_word.specs.declared.setup.Setup.{Setup}
use Rattle.p9_word.specs.declared.trail.Entry.{Entry}
use Rattle.p9_word.specs.declared.trail.Event.TheVariants.{Call}
use Rattle.p9_word.specs.declared.trail.Reply.TheVariants.{Now, Turn}
use Rattle.p9_manual.specs.declared.state.Place.TheVariants.{Waiting}
use Rattle.p9_laws.specs.Given.{IsGivenAt, place_before}

-- the requests on threads and notes that can interrupt threads
abbrev pub signal_interrupts : SignalReq → Bool
signal_interrupts (ThreadInt t) = true
signal_interrupts (ThreadKill t) = true
signal_interrupts (ThreadIntGrp group) = true
signal_interrupts (ThreadKillGrp group) = true
signal_interrupts (PostNote p note) = true
signal_interrupts (ThreadNotify on id prefix) = false

-- the one on ioprocs that can: it ends the wait for an ioproc's call
abbrev pub io_interrupts : IoReq → Bool
io_interrupts (IoProc k) = false
io_interrupts (IoRun k call) = false
io_interrupts (IoInterrupt k) = true
io_interrupts (CloseIoProc k) = false

-- the requests that can interrupt threads are these
abbrev pub interrupts : Request → Bool
interrupts (ThreadRequest r) = false
interrupts (SignalRequest r) = signal_interrupts r
interrupts (ChanRequest r) = false
interrupts (LockRequest r) = false
interrupts (IoRequest r) = io_interrupts r

-- the entry is such a call, which is answered at once
pub record IsInterruption (e : Entry) : Type 0 where
  pub caller : ℕ
  pub request : Request
  pub answer : Answer
  pub is_call : e.event ≡ Call caller request
  pub can_interrupt : interrupts request ≡ true
  pub answered : e.reply ≡ Now answer

-- before position n such an entry interrupted thread t, which waited until then
pub record IsInterruptedAt (setup : Setup) (history : List Entry) (n t : ℕ) : Type 0 where
  pub told : IsGivenAt setup history n t Interrupted
  pub waited : place_before setup history told.at t ≡ Waiting
  pub cause : IsInterruption told.entry

-- each thread that is told Interrupted at its turn was interrupted so
abbrev pub InterruptsCaused : Setup → List Entry → Type 0
InterruptsCaused setup history =
    (i t : ℕ) (e : Entry) → slice_get history i ≡ Some e → e.reply ≡ Turn t Interrupted → IsInterruptedAt setup history i t

-- the answers that can come with a later turn: Bad, Minus, the number 0 and texts come at once, as the answers of the caller's own
-- request
abbrev pub comes_later : Answer → Bool
comes_later Bad = false
comes_later Minus = false
comes_later (Text text) = false
comes_later (Number n) = nat_lt 0 n
comes_later a = true

-- turns tell no others
abbrev pub TurnsTellLater : List Entry → Type 0
TurnsTellLater history =
    (i t : ℕ) (a : Answer) (e : Entry) → slice_get history i ≡ Some e → e.reply ≡ Turn t a → comes_later a ≡ true
