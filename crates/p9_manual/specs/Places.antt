-- Where threads and ioprocs are, as tests.
use Rattle.std.specs.Prelude.{ℕ, ◌==◌, ◌&&◌, Bool, true, false, not, Option, Some, None}
use Rattle.p9_manual.specs.declared.state.Place.{Place}
use Rattle.p9_manual.specs.declared.state.Place.TheVariants.{Running, New, Ready, Waiting, Ended}
use Rattle.p9_manual.specs.declared.state.Thread.{Thread}
use Rattle.p9_manual.specs.declared.state.Ioproc.{Ioproc}
use Rattle.p9_manual.specs.declared.state.Ioproc.TheVariants.{Unmade, Idle, Posted, Begun, Closed}

-- the thread runs
abbrev pub is_running : Place → Bool
is_running Running = true
is_running New = false
is_running (Ready a) = false
is_running Waiting = false
is_running Ended = false

-- it stands in the ready line
abbrev pub is_ready : Place → Bool
is_ready New = true
is_ready (Ready a) = true
is_ready Running = false
is_ready Waiting = false
is_ready Ended = false

-- it has ended
abbrev pub is_ended : Place → Bool
is_ended Ended = true
is_ended Running = false
is_ended New = false
is_ended (Ready a) = false
is_ended Waiting = false

-- a thread lives until it has ended
abbrev pub lives : Thread → Bool
lives thread = not (is_ended thread.place)

-- the thread runs
abbrev pub runs : Thread → Bool
runs thread = is_running thread.place

-- it stands in the ready line
abbrev pub stands_ready : Thread → Bool
stands_ready thread = is_ready thread.place

-- it lives, in proc p
abbrev pub lives_in : ℕ → Thread → Bool
lives_in p thread = thread.proc_no == p && not (is_ended thread.place)

-- it runs, in proc p
abbrev pub runs_in : ℕ → Thread → Bool
runs_in p thread = thread.proc_no == p && is_running thread.place

-- the thread is one of proc p
abbrev pub is_of : ℕ → Option Thread → Bool
is_of p None = false
is_of p (Some thread) = thread.proc_no == p

-- the thread runs in proc p
abbrev pub runs_there : ℕ → Option Thread → Bool
runs_there p None = false
runs_there p (Some thread) = runs_in p thread

-- the thread is marked to die
abbrev pub is_marked : Option Thread → Bool
is_marked None = false
is_marked (Some thread) = thread.marked

-- the ioproc has a call, posted or begun
abbrev pub has_call : Ioproc → Bool
has_call (Posted t call) = true
has_call (Begun t call) = true
has_call Unmade = false
has_call Idle = false
has_call Closed = false
