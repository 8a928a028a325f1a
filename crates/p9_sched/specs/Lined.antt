-- What is kept of a proc place, and how the moves of its threads change it.
use Rattle.std.specs.Prelude.{◌≡◌, ℕ, ◌≤◌, ◌+◌, ◌-◌, ◌==◌, ◌&&◌, Bool, false, not, List, [], Option, None, Some, is_some, length, nat_lt, drop, if◌then◌else◌}
use Rattle.p9_manual.specs.Standing.{times}
use Rattle.p9_sched.specs.Holding.{with_front}
use Rattle.p9_sched.specs.Schedule.{with_last, without}

-- the word of a proc, the line of its ready threads, how many of its threads live, the one that runs, whether the proc is held,
-- and how many threads the line has room for
pub record Lined : Type 0 where
  pub word : ℕ
  pub line : List ℕ
  pub living : ℕ
  pub running : Option ℕ
  pub held : Bool
  pub room : ℕ

-- a lane, whatever its room
abbrev pub bare : Lined → Lined
bare l = record l { room = 0 }

-- no thread lives there yet
abbrev pub no_lane : Lined
no_lane = record { word = 0; line = []; living = 0; running = None; held = false; room = 0 }

-- the line at a place, and how many threads it has room for
abbrev pub line_at : Option Lined → List ℕ
line_at None = []
line_at (Some l) = l.line

abbrev pub room_at : Option Lined → ℕ
room_at None = 0
room_at (Some l) = l.room

-- whether a thread lives there, runs there, or stands in its line while it isn't held
abbrev pub has_living : Lined → Bool
has_living l = nat_lt 0 l.living

abbrev pub has_running : Lined → Bool
has_running l = is_some l.running

abbrev pub has_ready : Lined → Bool
has_ready l = nat_lt 0 (length l.line) && not l.held

-- the line has room for one more living thread
abbrev pub HasSpare : Lined → Type 0
HasSpare l = l.living + 1 ≤ l.room

-- if it is thread t that runs, t doesn't stand in the line
abbrev pub RunsOffLine : ℕ → Lined → Type 0
RunsOffLine t l = l.running ≡ Some t → times (λ u. u == t) l.line ≡ 0

-- the place with another word
abbrev pub worded : ℕ → Lined → Lined
worded word l = record l { word = word }

-- who runs once thread t doesn't
abbrev pub left_by : ℕ → Option ℕ → Option ℕ
left_by t None = None
left_by t (Some u) = if u == t then None else Some u

-- a new thread stands last in the line
abbrev pub joined : ℕ → Lined → Lined
joined t l = record l { line = with_last t l.line; living = l.living + 1 }

-- thread t doesn't run any more
abbrev pub stopped : ℕ → Lined → Lined
stopped t l = record l { running = left_by t l.running }

-- thread t, which ran or waited, stands last in the line
abbrev pub queued : ℕ → Lined → Lined
queued t l = record l { line = with_last t l.line; running = left_by t l.running }

-- thread t, which ran or waited, stands first in the line
abbrev pub queued_first : ℕ → Lined → Lined
queued_first t l = record l { line = with_front t l.line; running = left_by t l.running }

-- the place, held or not from now on
abbrev pub holding : Bool → Lined → Lined
holding held l = record l { held = held }

-- thread t has ended
abbrev pub left : ℕ → Lined → Lined
left t l = record l { line = without t l.line; living = l.living - 1; running = left_by t l.running }

-- no thread lives any more, and it isn't held
abbrev pub cleared : Lined → Lined
cleared l = record l { line = []; living = 0; running = None; held = false }

-- the first thread in the line, if there is one, runs
abbrev pub started : Option ℕ → Lined → Lined
started None l = l
started (Some t) l = record l { line = drop 1 l.line; running = Some t }
