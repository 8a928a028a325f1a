-- What a machine's board stands for: each part stands for its share of a state. A new part adds one line to `Stands`.
use Rattle.std.specs.Prelude.{ℕ, ◌≡◌, ◌+◌, ◌≤◌, Bool, true, false, length}
use Rattle.p9_word.specs.declared.trail.Event.{Event}
use Rattle.p9_word.specs.declared.trail.Reply.{Reply}
use Rattle.p9_word.specs.declared.trail.Seat.{Seat}
use Rattle.p9_manual.specs.State.{State, Outcome, by_id}
use Rattle.p9_manual.specs.Step.{makes_entry, step}
use Rattle.p9_manual.specs.Sound.{IsSound}
use Rattle.p9_manual.specs.Draws.{generator_after}
use Rattle.p9_sched.specs.Schedule.{Schedule}
use Rattle.p9_sched.specs.Stands.{SchedFor}
use Rattle.p9_sched.specs.Turns.{place_of}
use Rattle.p9_sched.specs.declared.turns.Place.TheVariants as place
use Rattle.p9_alt.specs.For.{AltsFor}
use Rattle.p9_lock.specs.Stands.{LocksFor}
use Rattle.p9_io.specs.Calls.{begun_count}
use Rattle.p9_io.specs.Stands.{IoFor}
use Rattle.p9_note.specs.For.{NotesFor}
use Rattle.p9_machine.specs.declared.board.Board.{Board}
use Rattle.p9_machine.specs.Shown.{rooms_after}

-- the board stands for the state
pub record Stands (board : Board) (s : State) : Type 0 where
  pub sched : SchedFor board.setup.places board.sched s
  pub alts : AltsFor board.alts s
  pub locks : LocksFor board.setup.rendezes board.locks s
  pub io : IoFor board.io s
  pub notes : NotesFor board.setup.places board.notes s
  pub draws : board.generator ≡ generator_after board.setup.start s.draws
  pub position : s.position ≡ board.position
  pub over : s.over ≡ board.over

-- it stands for a state that is sound
abbrev pub IsBoard : Board → Type 0
IsBoard board = (s : State) × (Stands board s × IsSound board.setup s)

-- there are notes for each proc place
abbrev pub HasPlaces : Board → Type 0
HasPlaces board = length board.notes ≡ length board.sched.lines

-- thread t runs
abbrev pub IsRunning : ℕ → Schedule → Type 0
IsRunning t sched = place_of (by_id sched.threads t) ≡ place.Running

-- how many calls are begun
abbrev pub calls_of : Board → ℕ
calls_of board = begun_count board.io.ioprocs

-- what an event leaves, but for the position of the next entry: where its reply makes none, the state before it
abbrev pub left : Bool → State → State → State
left true s n = n
left false s n = s

-- the reply is that of the outcome, and the board stands for what the event leaves
pub record Gives (s : State) (o : Outcome) (reply : Reply) (new : Board) : Type 0 where
  pub reply_is : reply ≡ o.reply
  pub stands : Stands new (left (makes_entry reply) s o.state)

-- whatever sound state the old board stands for, the new one gives what f makes of it
abbrev pub GivesAll : (State → Outcome) → Board → Reply → Board → Type 0
GivesAll f old reply new = (s : State) → Stands old s → IsSound old.setup s → Gives s (f s) reply new

-- the reply is that of the outcome, and the board stands for its state
pub record Does (o : Outcome) (reply : Reply) (new : Board) : Type 0 where
  pub reply_is : reply ≡ o.reply
  pub stands : Stands new o.state

-- whatever sound state the old board stands for, the new one does the step
abbrev pub DoesAll : Seat → Event → Board → Reply → Board → Type 0
DoesAll seat event old reply new = (s : State) → Stands old s → IsSound old.setup s → Does (step old.setup seat event s) reply new

-- no buffer goes or comes, and no call begins; no event changes what the run started from
pub record Stays (old new : Board) : Type 0 where
  pub setup : new.setup ≡ old.setup
  pub rooms : new.io.rooms ≡ old.io.rooms
  pub calls : calls_of new ≤ calls_of old

-- the buffer of a call that begins is here, and of calls at most one begins
pub record Follows (old : Board) (seat : Seat) (reply : Reply) (new : Board) : Type 0 where
  pub setup : new.setup ≡ old.setup
  pub rooms : new.io.rooms ≡ rooms_after seat reply old.io.rooms
  pub calls : calls_of new ≤ calls_of old + 1

-- memory was taken, and nothing else
pub record TakesMemory (old new : Board) : Type 0 where
  pub stands : (s : State) → Stands old s → Stands new s
  pub setup : new.setup ≡ old.setup
  pub rooms : new.io.rooms ≡ old.io.rooms
  pub calls : calls_of new ≡ calls_of old
