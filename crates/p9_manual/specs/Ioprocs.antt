-- The requests on ioprocs, and what an ioproc does. ioproc(2).
use Rattle.std.specs.Prelude.{ℕ, ◌-◌, ◌||◌, Bool, true, false, not, List, [], ◌∷◌, Option, Some, None, if◌then◌else◌, nat_lt}
use Rattle.std.specs.List.{list_any}
use Rattle.p9_word.specs.declared.answer.Answer.TheVariants.{Done, Number, Interrupted, Io as IoAnswered}
use Rattle.p9_word.specs.declared.answer.IoAnswer.{IoAnswer}
use Rattle.p9_word.specs.declared.answer.IoAnswer.TheVariants as answer
use Rattle.p9_word.specs.declared.trail.Reply.TheVariants.{Took, Noted, Over, Stray, Idle as IdleReply}
use Rattle.p9_word.specs.declared.request.Request.TheVariants.{Io as IoRequest}
use Rattle.p9_word.specs.declared.request.IoReq.{IoReq}
use Rattle.p9_word.specs.declared.request.IoReq.TheVariants.{IoProc, IoRun, IoInterrupt, CloseIoProc}
use Rattle.p9_word.specs.declared.io_call.IoCall.{IoCall}
use Rattle.p9_word.specs.declared.io_call.Effect.{Effect}
use Rattle.p9_word.specs.declared.io_call.Effect.TheVariants.{Opened, Shut, Got, Wrote, Refused}
use Rattle.p9_word.specs.declared.setup.Setup.{Setup}
use Rattle.p9_manual.specs.declared.state.Ioproc.{Ioproc}
use Rattle.p9_manual.specs.declared.state.Ioproc.TheVariants.{Unmade, Idle, Posted, Begun, Closed}
use Rattle.p9_manual.specs.Effects.{fits, message_length}
use Rattle.p9_manual.specs.Places.{lives}
use Rattle.p9_manual.specs.State.{State, Outcome, by_id, changed, replied, same, now, bad, waiting, wake}

-- the state, with ioproc k so
abbrev pub with_ioproc : ℕ → Ioproc → State → State
with_ioproc k io s = record s { ioprocs = changed (λ _. io) s.ioprocs (k - 1) }

-- an ioproc is made once. Here and below k names one of the setup's, or none
abbrev pub make : ℕ → State → Option Ioproc → Outcome
make k s (Some Unmade) = now (Number k) (with_ioproc k Idle s)
make k s (Some Idle) = bad s
make k s (Some (Posted t call)) = bad s
make k s (Some (Begun t call)) = bad s
make k s (Some Closed) = bad s
make k s None = bad s

-- the call is posted at an idle ioproc, and the caller waits for its answer
abbrev pub post_call : ℕ → ℕ → IoCall → State → Option Ioproc → Outcome
post_call t k call s (Some Idle) =
    if nat_lt 4294967295 (message_length call) then bad s
    else waiting t (IoRequest (IoRun k call)) (with_ioproc k (Posted t call) s)
post_call t k call s (Some Unmade) = bad s
post_call t k call s (Some (Posted u other)) = bad s
post_call t k call s (Some (Begun u other)) = bad s
post_call t k call s (Some Closed) = bad s
post_call t k call s None = bad s

-- the thread that waits for the call of a begun ioproc, if one does, is interrupted; the call goes on for nobody
abbrev pub interrupt_begun : ℕ → IoCall → State → Option ℕ → Outcome
interrupt_begun k call s None = now (Number 0) s
interrupt_begun k call s (Some t) = now (Number 1) (wake t Interrupted (with_ioproc k (Begun None call) s))

-- a call that isn't begun yet is taken back, and its thread is interrupted
abbrev pub interrupt_call : ℕ → State → Option Ioproc → Outcome
interrupt_call k s (Some (Posted t call)) = now (Number 1) (wake t Interrupted (with_ioproc k Idle s))
interrupt_call k s (Some (Begun caller call)) = interrupt_begun k call s caller
interrupt_call k s (Some Idle) = now (Number 0) s
interrupt_call k s (Some Unmade) = bad s
interrupt_call k s (Some Closed) = bad s
interrupt_call k s None = bad s

-- an idle ioproc is closed
abbrev pub close_ioproc : ℕ → State → Option Ioproc → Outcome
close_ioproc k s (Some Idle) = now Done (with_ioproc k Closed s)
close_ioproc k s (Some Unmade) = bad s
close_ioproc k s (Some (Posted t call)) = bad s
close_ioproc k s (Some (Begun t call)) = bad s
close_ioproc k s (Some Closed) = bad s
close_ioproc k s None = bad s

-- a request of thread t on ioprocs
unfoldable pub io_call : Setup → ℕ → IoReq → State → Outcome
io_call setup t (IoProc k) s = make k s (by_id s.ioprocs k)
io_call setup t (IoRun k call) s = post_call t k call s (by_id s.ioprocs k)
io_call setup t (IoInterrupt k) s = interrupt_call k s (by_id s.ioprocs k)
io_call setup t (CloseIoProc k) s = close_ioproc k s (by_id s.ioprocs k)

-- an ioproc takes the call that is posted at it, unless the run is at its end or no thread lives
abbrev pub take_call : ℕ → State → Option Ioproc → Outcome
take_call k s None = same Stray s
take_call k s (Some Closed) = same Over s
take_call k s (Some (Begun t call)) = if s.over || not (list_any lives s.threads) then same Over s else same Stray s
take_call k s (Some (Posted t call)) =
    if s.over || not (list_any lives s.threads) then same Over s
    else replied (Took call) (with_ioproc k (Begun (Some t) call) s)
take_call k s (Some Unmade) = if s.over || not (list_any lives s.threads) then same Over s else same IdleReply s
take_call k s (Some Idle) = if s.over || not (list_any lives s.threads) then same Over s else same IdleReply s

-- what a read that gave these bytes is answered: a Fault where it failed before any byte
abbrev pub read_answer : Bool → List ℕ → IoAnswer
read_answer true [] = answer.Fault
read_answer true (b ∷ bs) = answer.Bytes (b ∷ bs)
read_answer false bytes = answer.Bytes bytes

-- the answer of a call with this effect
abbrev pub effect_answer : Effect → IoAnswer
effect_answer Opened = answer.Opened
effect_answer Shut = answer.Shut
effect_answer (Got failed bytes) = read_answer failed bytes
effect_answer (Wrote count failed) = if failed then answer.Fault else answer.Count count
effect_answer Refused = answer.Refused

-- the thread that waits for the call is woken with its answer
abbrev pub answered : Option ℕ → Effect → State → State
answered None effect s = s
answered (Some t) effect s = wake t (IoAnswered (effect_answer effect)) s

-- the effect of a begun call is recorded, and the ioproc is idle
abbrev pub did_call : ℕ → Effect → State → Option Ioproc → Outcome
did_call k effect s (Some (Begun t call)) =
    if fits call effect then replied Noted (answered t effect (with_ioproc k Idle s)) else same Stray s
did_call k effect s (Some Unmade) = same Stray s
did_call k effect s (Some Idle) = same Stray s
did_call k effect s (Some (Posted t call)) = same Stray s
did_call k effect s (Some Closed) = same Stray s
did_call k effect s None = same Stray s

-- what an ioproc does
unfoldable pub io_event : ℕ → State → Option Effect → Outcome
io_event k s None = take_call k s (by_id s.ioprocs k)
io_event k s (Some effect) = did_call k effect s (by_id s.ioprocs k)
