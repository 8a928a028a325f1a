-- How the table of threads keeps them: a row for each, and the groups and names of those that have one.
use Rattle.std.specs.Prelude.{ℕ, suc, ◌≤◌, ◌==◌, false, List, [], ◌∷◌, ◌++◌, Option, unwrap_or, length, if◌then◌else◌}
use Rattle.p9_manual.specs.declared.state.Place.TheVariants.{Ended}
use Rattle.p9_manual.specs.declared.state.Thread.{Thread}
use Rattle.p9_manual.specs.Create.{fresh}
use Rattle.p9_sched.specs.Rooms.{Rooms}
use Rattle.p9_sched.specs.declared.row.Row.{Row}

-- the threads by their ids, and which rooms are there
pub record Stored : Type 0 where
  pub threads : List Thread
  pub rooms : Rooms

-- id is one of a list's ids, which count from 1
pub record HasId {A : Type 0} (id : ℕ) (xs : List A) : Type 0 where
  pub from : 1 ≤ id
  pub to : id ≤ length xs

-- the thread with this id
abbrev pub thread_of : (ℕ → Option ℕ) → (ℕ → Option (List ℕ)) → ℕ → Row → Thread
thread_of groups names t row =
    record {
      proc_no = row.proc_no;
      program = row.program;
      arg = row.arg;
      group = unwrap_or (groups t) 0;
      name = unwrap_or (names t) [];
      word = row.word;
      marked = row.marked;
      place = row.place;
    }

-- the threads of these rows, whose ids count from t on
abbrev pub threads_of : (ℕ → Option ℕ) → (ℕ → Option (List ℕ)) → ℕ → List Row → List Thread
threads_of groups names t [] = []
threads_of groups names t (row ∷ rows) = thread_of groups names t row ∷ threads_of groups names (suc t) rows

-- what a row keeps of a thread
abbrev pub row_of : Thread → Row
row_of thread =
    record {
      proc_no = thread.proc_no;
      program = thread.program;
      arg = thread.arg;
      word = thread.word;
      marked = thread.marked;
      place = thread.place;
    }

-- a row of a thread that has ended
abbrev pub row_ended : Row → Row
row_ended row = record row { place = Ended }

-- the row, where each thread of proc p has ended
abbrev pub row_ended_in : ℕ → Row → Row
row_ended_in p row = if row.proc_no == p then row_ended row else row

-- a new thread has the next id
abbrev pub with_fresh : ℕ → ℕ → ℕ → ℕ → Stored → Stored
with_fresh p program arg group s =
    record s { threads = s.threads ++ fresh p program arg group ∷ []; rooms = record s.rooms { thread = false } }
