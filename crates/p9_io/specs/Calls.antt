-- The calls of ioprocs, the threads that wait there, and how many calls are begun.
use Rattle.std.specs.Prelude.{ℕ, ◌+◌, Bool, true, false, List, [], ◌∷◌, ◌==◌, Option, Some, None, if◌then◌else◌}
use Rattle.p9_word.specs.declared.io_call.IoCall.{IoCall}
use Rattle.p9_word.specs.declared.io_call.Effect.{Effect}
use Rattle.p9_manual.specs.declared.state.Ioproc.{Ioproc}
use Rattle.p9_manual.specs.declared.state.Ioproc.TheVariants.{Unmade, Idle, Posted, Begun, Closed}
use Rattle.p9_manual.specs.Effects.{fits}
use Rattle.p9_manual.specs.Ioprocs.{effect_answer}
use Rattle.p9_io.specs.declared.effects.Finished.{Finished}
use Rattle.p9_io.specs.declared.io_state.IoState.{IoState}
use Rattle.p9_io.specs.declared.io_state.IoState.TheVariants as state

-- the call that is posted at an ioproc
abbrev pub posted_call : Option Ioproc → Option IoCall
posted_call (Some (Posted t call)) = Some call
posted_call (Some (Begun t call)) = None
posted_call (Some Unmade) = None
posted_call (Some Idle) = None
posted_call (Some Closed) = None
posted_call None = None

-- the call that an ioproc has begun
abbrev pub begun_call : Option Ioproc → Option IoCall
begun_call (Some (Begun t call)) = Some call
begun_call (Some (Posted t call)) = None
begun_call (Some Unmade) = None
begun_call (Some Idle) = None
begun_call (Some Closed) = None
begun_call None = None

-- how an ioproc stands, where there is one; one that isn't there is as one that isn't made
abbrev pub state_of : Option Ioproc → IoState
state_of (Some Unmade) = state.Unmade
state_of (Some Idle) = state.Idle
state_of (Some (Posted t call)) = state.Posted
state_of (Some (Begun t call)) = state.Begun
state_of (Some Closed) = state.Closed
state_of None = state.Unmade

-- the call at an ioproc, posted or begun
abbrev pub call_at : Option Ioproc → Option IoCall
call_at (Some (Posted t call)) = Some call
call_at (Some (Begun t call)) = Some call
call_at (Some Unmade) = None
call_at (Some Idle) = None
call_at (Some Closed) = None
call_at None = None

-- the thread that waits at an ioproc
abbrev pub caller_at : Option Ioproc → Option ℕ
caller_at (Some (Posted t call)) = Some t
caller_at (Some (Begun t call)) = t
caller_at (Some Unmade) = None
caller_at (Some Idle) = None
caller_at (Some Closed) = None
caller_at None = None

-- it is this thread
abbrev pub is_thread : ℕ → Option ℕ → Bool
is_thread t (Some u) = u == t
is_thread t None = false

-- thread t waits at the ioproc
abbrev pub waits_at : ℕ → Ioproc → Bool
waits_at t io = is_thread t (caller_at (Some io))

-- the ioproc is there, and is not made yet
abbrev pub is_unmade : Option Ioproc → Bool
is_unmade (Some Unmade) = true
is_unmade (Some Idle) = false
is_unmade (Some (Posted t call)) = false
is_unmade (Some (Begun t call)) = false
is_unmade (Some Closed) = false
is_unmade None = false

-- 1 for an ioproc with a begun call
abbrev pub begun_weight : Ioproc → ℕ
begun_weight (Begun t call) = 1
begun_weight (Posted t call) = 0
begun_weight Unmade = 0
begun_weight Idle = 0
begun_weight Closed = 0

-- how many ioprocs have a begun call
abbrev pub begun_count : List Ioproc → ℕ
begun_count [] = 0
begun_count (io ∷ ios) = begun_weight io + begun_count ios

-- an effect of the begun call, if it fits: whom it is for, and the answer
abbrev pub finish_of : Effect → Option Ioproc → Option Finished
finish_of effect (Some (Begun t call)) = if fits call effect then Some (record { caller = t; answer = effect_answer effect }) else None
finish_of effect (Some (Posted t call)) = None
finish_of effect (Some Unmade) = None
finish_of effect (Some Idle) = None
finish_of effect (Some Closed) = None
finish_of effect None = None
