-- Which threads may be asked what, and what a thread goes on with when its turn comes. thread(2).
use Rattle.std.specs.Prelude.{ℕ, ◌==◌, ◌&&◌, not, Bool, List, [], ◌∷◌, Option, Some, None, if◌then◌else◌}
use Rattle.p9_word.specs.declared.answer.Answer.{Answer}
use Rattle.p9_manual.specs.declared.state.Place.{Place as Stand}
use Rattle.p9_manual.specs.declared.state.Place.TheVariants as stand
use Rattle.p9_manual.specs.declared.state.Thread.{Thread}
use Rattle.p9_manual.specs.State.{by_id}
use Rattle.p9_manual.specs.Places.{is_ready}
use Rattle.p9_sched.specs.declared.turns.Place.{Place}
use Rattle.p9_sched.specs.declared.turns.Place.TheVariants as place
use Rattle.p9_sched.specs.declared.turns.Ready.{Ready}
use Rattle.p9_sched.specs.declared.turns.Ready.TheVariants.{New, Old}
use Rattle.p9_sched.specs.Holding.{is_held}
use Rattle.p9_sched.specs.Schedule.{Schedule, line_of, begun}

-- where a thread is, without its answer
abbrev pub place_at : Stand → Place
place_at stand.Running = place.Running
place_at stand.New = place.Ready
place_at (stand.Ready a) = place.Ready
place_at stand.Waiting = place.Waiting
place_at stand.Ended = place.Ended

abbrev pub place_of : Option Thread → Place
place_of None = place.Ended
place_of (Some thread) = place_at thread.place

-- a thread of proc p is ready
abbrev pub is_ready_in : ℕ → Thread → Bool
is_ready_in p thread = thread.proc_no == p && is_ready thread.place

-- what thread t goes on with: a new one begins, any other one has its answer
abbrev pub ready_at : ℕ → ℕ → ℕ → Stand → Option Ready
ready_at t program arg stand.New = Some (New t program arg)
ready_at t program arg (stand.Ready a) = Some (Old t a)
ready_at t program arg stand.Running = None
ready_at t program arg stand.Waiting = None
ready_at t program arg stand.Ended = None

abbrev pub ready_of : ℕ → Option Thread → Option Ready
ready_of t None = None
ready_of t (Some thread) = ready_at t thread.program thread.arg thread.place

-- the first thread of a line has its turn, and runs; an empty line has none
abbrev pub turn_of : ℕ → Schedule → List ℕ → Option Ready × Schedule
turn_of p s [] = (None, s)
turn_of p s (t ∷ line) = (ready_of t (by_id s.threads t), begun p t s)

-- a proc that is held has no turn to give
abbrev pub next_in : ℕ → Schedule → Option Ready × Schedule
next_in p s = if is_held p s then (None, s) else turn_of p s (line_of p s)

-- a thread is ready in a proc that isn't held
abbrev pub can_run : Schedule → Thread → Bool
can_run s thread = is_ready thread.place && not (is_held thread.proc_no s)

-- the answer that a ready thread goes on with
abbrev pub answer_at : Stand → Option Answer
answer_at (stand.Ready a) = Some a
answer_at stand.New = None
answer_at stand.Running = None
answer_at stand.Waiting = None
answer_at stand.Ended = None

abbrev pub answer_of : Option Thread → Option Answer
answer_of None = None
answer_of (Some thread) = answer_at thread.place

abbrev pub first_answer : Schedule → List ℕ → Option Answer
first_answer s [] = None
first_answer s (t ∷ line) = answer_of (by_id s.threads t)

abbrev pub answer_next : ℕ → Schedule → Option Answer
answer_next p s = if is_held p s then None else first_answer s (line_of p s)
