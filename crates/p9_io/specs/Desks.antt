-- What callers see of the ioprocs and of the memory at hand for their calls, and what each call changes. ioproc(2).
use Rattle.std.specs.Prelude.{ℕ, ◌-◌, Bool, true, false, List, Option, Some, None, get_or, map, replicate}
use Rattle.p9_word.specs.declared.io_call.IoCall.{IoCall}
use Rattle.p9_manual.specs.declared.state.Ioproc.{Ioproc}
use Rattle.p9_manual.specs.declared.state.Ioproc.TheVariants.{Unmade, Idle, Posted, Begun, Closed}
use Rattle.p9_manual.specs.Ends.{Gone, let_go}
use Rattle.p9_manual.specs.State.{changed}

-- the ioprocs by their numbers, from 1 on; for each, whether the buffer of its begun call is still here, and whether there
-- is memory for its call: to begin, and for a copy of what comes of it
pub record Desks : Type 0 where
  pub ioprocs : List Ioproc
  pub rooms : List Bool
  pub prepared : List Bool

-- no ioproc is made
abbrev pub begin_desks : ℕ → Desks
begin_desks files = record { ioprocs = replicate files Unmade; rooms = replicate files false; prepared = replicate files false }

-- the list with this item for number k
abbrev pub with_item : {A : Type 0} → ℕ → A → List A → List A
with_item k x xs = changed (λ _. x) xs (k - 1)

-- ioproc k is another; the buffers and the memory at hand stay
abbrev pub with_ioproc : ℕ → Ioproc → Desks → Desks
with_ioproc k io d = record d { ioprocs = with_item k io d.ioprocs }

-- a call is posted at ioproc k; there is no memory for it yet
abbrev pub posted : ℕ → ℕ → IoCall → Desks → Desks
posted k t call d = record d { ioprocs = with_item k (Posted t call) d.ioprocs; prepared = with_item k false d.prepared }

-- there is memory for the call at ioproc k
abbrev pub prepared : ℕ → Desks → Desks
prepared k d = record d { prepared = with_item k true d.prepared }

-- the posted call has begun: its buffer is here where there was memory for it
abbrev pub taken : ℕ → ℕ → IoCall → Desks → Desks
taken k t call d =
    record d {
      ioprocs = with_item k (Begun (Some t) call) d.ioprocs;
      rooms = with_item k (get_or d.prepared (k - 1) false) d.rooms;
    }

-- by what stands at ioproc k
abbrev pub with_begun : ℕ → Option Ioproc → Desks → Desks
with_begun k (Some (Posted t call)) d = taken k t call d
with_begun k (Some (Begun t call)) d = d
with_begun k (Some Unmade) d = d
with_begun k (Some Idle) d = d
with_begun k (Some Closed) d = d
with_begun k None d = d

-- the thread that waits at ioproc k is interrupted: a posted call is removed, and a begun one goes on for nobody
abbrev pub interrupted : ℕ → Option Ioproc → Desks → Desks
interrupted k (Some (Posted t call)) d = with_ioproc k Idle d
interrupted k (Some (Begun (Some t) call)) d = with_ioproc k (Begun None call) d
interrupted k (Some (Begun None call)) d = d
interrupted k (Some Unmade) d = d
interrupted k (Some Idle) d = d
interrupted k (Some Closed) d = d
interrupted k None d = d

-- these threads have ended
abbrev pub without : Gone → Desks → Desks
without ends d = record d { ioprocs = map (let_go ends) d.ioprocs }

-- the buffer of the call that ioproc k has begun is handed out
abbrev pub lent : ℕ → Desks → Desks
lent k d = record d { rooms = with_item k false d.rooms }
