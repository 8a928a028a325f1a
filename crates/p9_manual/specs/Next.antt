-- Which thread a proc runs next. thread(2): a proc runs one thread at a time, until it relinquishes the processor.
use Rattle.std.specs.Prelude.{ℕ, ◌&&◌, ◌||◌, Bool, true, not, List, Option, Some, None, if◌then◌else◌, nat_le, option_map}
use Rattle.std.specs.List.{list_any}
use Rattle.p9_word.specs.declared.trail.Reply.{Reply}
use Rattle.p9_word.specs.declared.trail.Reply.TheVariants.{Begin, Turn, Idle, Over, Stuck, Stray}
use Rattle.p9_word.specs.declared.setup.Setup.{Setup}
use Rattle.p9_manual.specs.declared.state.Place.{Place}
use Rattle.p9_manual.specs.declared.state.Place.TheVariants.{Running, New, Ready, Waiting, Ended}
use Rattle.p9_manual.specs.declared.state.Thread.{Thread}
use Rattle.p9_manual.specs.Held.{is_held}
use Rattle.p9_manual.specs.NoteCalls.{deliver, next_note}
use Rattle.p9_manual.specs.Notes.{Delivery}
use Rattle.p9_manual.specs.Places.{lives, lives_in, runs_in, is_of}
use Rattle.p9_manual.specs.State.{State, Outcome, by_id, pick, placed, replied, same}
use Rattle.p9_manual.specs.Stuck.{is_stuck}

-- p is one of the setup's places
abbrev pub is_place : Setup → ℕ → Bool
is_place setup p = nat_le 1 p && nat_le p setup.places

-- there will be nothing to run in p: the run is at its end, or no thread of p lives; while p isn't open, no thread at all
abbrev pub is_over : ℕ → State → Bool
is_over p s = s.over || not (list_any (if nat_le p s.opened then lives_in p else lives) s.threads)

-- a new thread begins, and any other one goes on with its answer. The line holds no thread that is at another place
abbrev pub turn_reply : ℕ → (ℕ × ℕ × Place) → Reply
turn_reply t (program, arg, New) = Begin t program arg
turn_reply t (program, arg, Ready a) = Turn t a
turn_reply t (program, arg, Running) = Stray
turn_reply t (program, arg, Waiting) = Stray
turn_reply t (program, arg, Ended) = Stray

-- what a thread is started with, and where it is
abbrev pub started : Thread → (ℕ × ℕ × Place)
started thread = (thread.program, thread.arg, thread.place)

-- t, taken out of the line, runs. The line holds no thread that isn't there
abbrev pub turn : ℕ → State → Option (ℕ × ℕ × Place) → Outcome
turn t s None = same Stray s
turn t s (Some start) = replied (turn_reply t start) (record s { threads = placed t Running s.threads })

-- the run is at its end, since it is stuck
abbrev pub stuck : State → Outcome
stuck s = replied Stuck (record s { over = true })

-- the first ready thread of the proc runs; where there is none the run is stuck, or there is nothing to do now
abbrev pub next_of : State → Option (ℕ × List ℕ) → Outcome
next_of s None = if is_stuck s then stuck s else same Idle s
next_of s (Some found) = turn found.0 (record s { line = found.1 }) (option_map started (by_id s.threads found.0))

-- the first ready thread of proc p in the line, and the line without it. A proc that is held has none
abbrev pub first_ready : ℕ → State → Option (ℕ × List ℕ)
first_ready p s = if is_held p s then None else pick (λ t. is_of p (by_id s.threads t)) s.line

-- a note that is pending is delivered before a thread runs, also where p is held
abbrev pub note_first : ℕ → State → Option Delivery → Outcome
note_first p s (Some d) = deliver p d s
note_first p s None = next_of s (first_ready p s)

-- proc p asks for its next thread
unfoldable pub next_event : Setup → ℕ → State → Outcome
next_event setup p s =
    if not (is_place setup p) then same Stray s
    else if is_over p s then same Over s
    else if list_any (runs_in p) s.threads then same Stray s
    else note_first p s (next_note p s)
