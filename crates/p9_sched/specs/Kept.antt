-- What the fields of a schedule keep.
use Rattle.std.specs.Prelude.{◌≡◌, ℕ, ◌==◌, ◌+◌, ◌≤◌, Bool, false, List, Option, None, Some, IfSome, length, map}
use Rattle.p9_word.specs.declared.limits.TheConstants.{MOST_THREADS}
use Rattle.p9_manual.specs.declared.state.Thread.{Thread}
use Rattle.p9_manual.specs.Places.{lives_in, runs_there}
use Rattle.p9_manual.specs.Standing.{times}
use Rattle.p9_manual.specs.State.{by_id}
use Rattle.p9_sched.specs.Lined.{Lined}
use Rattle.p9_sched.specs.Schedule.{Schedule}
use Rattle.p9_sched.specs.Stored.{HasId}
use Rattle.p9_sched.specs.Table.{one_if}
use Rattle.p9_sched.specs.Turns.{is_ready_in}
use Rattle.p9_sched.specs.declared.sched.Sched.TheInside.{Inside}

-- what callers see
abbrev pub shown : Inside → Schedule
shown s =
    record {
      threads = s.table.threads;
      lines = map (λ l. l.line) s.lanes;
      words = map (λ l. l.word) s.lanes;
      holds = map (λ l. l.held) s.lanes;
      opened = s.opened;
      rooms = s.table.rooms;
    }

-- whether the thread is ready in proc p
abbrev pub ready_there : ℕ → Option Thread → Bool
ready_there p None = false
ready_there p (Some thread) = is_ready_in p thread

-- whether it is thread t that runs
abbrev pub is_at : Option ℕ → ℕ → Bool
is_at None t = false
is_at (Some u) t = u == t

-- the lane of proc p has each ready thread of that proc in its line, once, and knows how many live and which one runs;
-- its line has room for the living threads, and for one more where that was taken
pub record IsLane (p : ℕ) (threads : List Thread) (more : Bool) (l : Lined) : Type 0 where
  pub living : l.living ≡ times (lives_in p) threads
  pub running : (t : ℕ) → is_at l.running t ≡ runs_there p (by_id threads t)
  pub ready : length l.line ≡ times (is_ready_in p) threads
  pub line : (t : ℕ) → times (λ u. u == t) l.line ≡ one_if (ready_there p (by_id threads t))
  pub room : l.living + one_if more ≤ l.room

-- not too many threads stand in the proc places, and each place has its lane
pub record IsSound (threads : List Thread) (lanes : List Lined) (more : Bool) : Type 0 where
  pub few : length threads ≤ MOST_THREADS
  pub procs : (t : ℕ) → IfSome (by_id threads t) (λ x. HasId x.proc_no lanes)
  pub each : (p : ℕ) → IfSome (by_id lanes p) (IsLane p threads more)

abbrev pub IsKept : Inside → Type 0
IsKept s = IsSound s.table.threads s.lanes s.table.rooms.thread
