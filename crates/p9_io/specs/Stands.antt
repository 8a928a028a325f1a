-- What the ioprocs stand for of a manual's state, and when a call does to them what the manual does to the state. ioproc(2).
use Rattle.std.specs.Prelude.{ℕ, ◌≡◌, true, Option, Some, None, IfSome, slice_get}
use Rattle.p9_manual.specs.declared.state.Ioproc.{Ioproc}
use Rattle.p9_manual.specs.declared.state.Ioproc.TheVariants.{Unmade, Idle, Posted, Begun, Closed}
use Rattle.p9_manual.specs.Ioprocs.{with_ioproc}
use Rattle.p9_manual.specs.State.{State}
use Rattle.p9_io.specs.Calls.{begun_call}
use Rattle.p9_io.specs.Desks.{Desks}

-- there is memory for a copy of what comes of each begun call
abbrev pub HasCopies : Desks → Type 0
HasCopies d = (i : ℕ) → IfSome (begun_call (slice_get d.ioprocs i)) (λ call. slice_get d.prepared i ≡ Some true)

-- the ioprocs stand for those of a state
pub record IoFor (desks : Desks) (s : State) : Type 0 where
  pub ioprocs : s.ioprocs ≡ desks.ioprocs
  pub copies : HasCopies desks

-- whatever state the old ioprocs stand for, the new ones stand for what f makes of it
abbrev pub Tracks : (State → State) → Desks → Desks → Type 0
Tracks f old new = (s : State) → IoFor old s → IoFor new (f s)

-- the state once the call that is posted at ioproc k has begun
abbrev pub state_begun : ℕ → Option Ioproc → State → State
state_begun k (Some (Posted t call)) s = with_ioproc k (Begun (Some t) call) s
state_begun k (Some (Begun t call)) s = s
state_begun k (Some Unmade) s = s
state_begun k (Some Idle) s = s
state_begun k (Some Closed) s = s
state_begun k None s = s

-- the state once the thread that waits at ioproc k is interrupted, as far as ioprocs go
abbrev pub state_interrupted : ℕ → Option Ioproc → State → State
state_interrupted k (Some (Posted t call)) s = with_ioproc k Idle s
state_interrupted k (Some (Begun (Some t) call)) s = with_ioproc k (Begun None call) s
state_interrupted k (Some (Begun None call)) s = s
state_interrupted k (Some Unmade) s = s
state_interrupted k (Some Idle) s = s
state_interrupted k (Some Closed) s = s
state_interrupted k None s = s
