-- What can happen in a state that is stuck, and in one that isn't. All of this is this project's own.
use Rattle.std.specs.Prelude.{ℕ, ◌≡◌, ◌≢◌, ◌≤◌, ◌==◌, ◌↔◌, Bool, true, false, List, Option, Some, None}
use Rattle.std.specs.List.{list_any}
use Rattle.p9_word.specs.declared.setup.Setup.{Setup}
use Rattle.p9_word.specs.declared.trail.Event.{Event}
use Rattle.p9_word.specs.declared.trail.Event.TheVariants.{Next}
use Rattle.p9_word.specs.declared.trail.Reply.TheVariants.{Stuck}
use Rattle.p9_word.specs.declared.trail.Seat.{Seat}
use Rattle.p9_word.specs.declared.trail.Seat.TheVariants.{Proc}
use Rattle.p9_word.specs.declared.trail.Entry.{Entry}
use Rattle.p9_word.specs.Setup.{IsValid}
use Rattle.p9_manual.specs.declared.state.Thread.{Thread}
use Rattle.p9_manual.specs.Places.{lives, stands_ready}
use Rattle.p9_manual.specs.Sound.{AreNotesRead}
use Rattle.p9_manual.specs.State.{State, by_id}
use Rattle.p9_manual.specs.Stuck.{is_stuck}
use Rattle.p9_manual.specs.Next.{is_place, is_over}
use Rattle.p9_manual.specs.Step.{step, makes_entry}
use Rattle.p9_manual.specs.History.{state_after, IsLegal}
use Rattle.p9_laws.specs.RunReplies.{reply_at}

-- no event makes an entry but one that is told Stuck
abbrev pub MovesByStuckAlone : Setup → State → Type 0
MovesByStuckAlone setup s =
    (seat : Seat) (event : Event) → makes_entry (step setup seat event s).reply ≡ true → (step setup seat event s).reply ≡ Stuck

-- some event makes an entry that isn't Stuck
pub record CanMove (setup : Setup) (s : State) : Type 0 where
  pub seat : Seat
  pub event : Event
  pub makes : makes_entry (step setup seat event s).reply ≡ true
  pub moves : (step setup seat event s).reply ≢ Stuck

-- where a place is told Stuck: it isn't over there, and the state is stuck
pub record IsStuckAt (setup : Setup) (p : ℕ) (s : State) : Type 0 where
  pub place : is_place setup p ≡ true
  pub goes_on : is_over p s ≡ false
  pub stuck : is_stuck s ≡ true

abbrev pub is_ready_thread : Option Thread → Bool
is_ready_thread None = false
is_ready_thread (Some thread) = stands_ready thread

-- the line has exactly the ready threads, each thread stands in a proc that is open, and no note is pending where no thread lives
pub record IsLined (setup : Setup) (s : State) : Type 0 where
  pub ready : (t : ℕ) → is_ready_thread (by_id s.threads t) ≡ list_any (λ u. u == t) s.line
  pub opened : s.opened ≤ setup.places
  pub procs : (t : ℕ) (thread : Thread) → by_id s.threads t ≡ Some thread → (1 ≤ thread.proc_no) × (thread.proc_no ≤ s.opened)
  pub notes : AreNotesRead s.procs s.threads

-- in a stuck state nothing makes an entry but Stuck
abbrev pub StuckAlone : Setup → State → Type 0
StuckAlone setup s = is_stuck s ≡ true → MovesByStuckAlone setup s

-- a place is told Stuck only where it isn't over and the state is stuck
abbrev pub StuckCause : Setup → State → Type 0
StuckCause setup s = (p : ℕ) → (step setup (Proc p) Next s).reply ≡ Stuck → IsStuckAt setup p s

-- and there it is
abbrev pub StuckTold : Setup → State → Type 0
StuckTold setup s = IsLined setup s → (p : ℕ) → IsStuckAt setup p s → (step setup (Proc p) Next s).reply ≡ Stuck

-- where a thread lives, the run isn't at its end and the state isn't stuck, something moves
abbrev pub UnstuckMoves : Setup → State → Type 0
UnstuckMoves setup s = IsLined setup s → s.over ≡ false → list_any lives s.threads ≡ true → is_stuck s ≡ false → CanMove setup s

-- after each legal history of a valid setup that holds
abbrev pub LinedAfter : Setup → List Entry → Type 0
LinedAfter setup entries = IsValid setup → IsLegal setup entries → IsLined setup (state_after setup entries)

-- so a place is told Stuck exactly where it isn't over and the state is stuck
abbrev pub StuckExactly : Setup → List Entry → Type 0
StuckExactly setup entries =
    (p : ℕ) → IsValid setup → IsLegal setup entries
    → (reply_at setup entries (Proc p) Next ≡ Stuck) ↔ IsStuckAt setup p (state_after setup entries)

-- and where a thread lives, the run isn't at its end and the state isn't stuck, something moves
abbrev pub LegalMoves : Setup → List Entry → Type 0
LegalMoves setup entries =
    IsValid setup → IsLegal setup entries → (state_after setup entries).over ≡ false
    → list_any lives (state_after setup entries).threads ≡ true
    → is_stuck (state_after setup entries) ≡ false → CanMove setup (state_after setup entries)
