-- What callers see of the threads and procs: the threads by their ids, and for each proc place the ready threads of that
-- proc in their order. thread(2).
use Rattle.std.specs.Prelude.{ℕ, ◌+◌, ◌-◌, ◌==◌, ◌≤◌, Bool, false, not, List, [], ◌∷◌, ◌++◌, Option, Some, None, length, map, drop, replicate, if◌then◌else◌}
use Rattle.std.specs.List.{filter}
use Rattle.p9_word.specs.declared.answer.Answer.{Answer}
use Rattle.p9_manual.specs.declared.state.Place.TheVariants.{Running, Ready, Waiting, Ended}
use Rattle.p9_manual.specs.declared.state.Thread.{Thread}
use Rattle.p9_manual.specs.State.{by_id, changed, placed}
use Rattle.p9_manual.specs.Create.{fresh}
use Rattle.p9_manual.specs.Ends.{at_end}
use Rattle.p9_manual.specs.Threads.{in_group, with_name, with_word}
use Rattle.p9_sched.specs.Rooms.{Rooms, no_rooms}

-- threads stand by their ids, lines, words and whether it is held by their procs, from 1 on; opened counts the procs that are
-- open
pub record Schedule : Type 0 where
  pub threads : List Thread
  pub lines : List (List ℕ)
  pub words : List ℕ
  pub holds : List Bool
  pub opened : ℕ
  pub rooms : Rooms

-- no thread was made
abbrev pub begin_schedule : ℕ → ℕ → Schedule
begin_schedule places opened =
    record {
      threads = [];
      lines = replicate places [];
      words = replicate places 0;
      holds = replicate places false;
      opened = opened;
      rooms = no_rooms;
    }

-- thread t was made
pub record IsMade (t : ℕ) (s : Schedule) : Type 0 where
  pub from : 1 ≤ t
  pub to : t ≤ length s.threads

-- p is one of the proc places
pub record IsPlace (p : ℕ) (s : Schedule) : Type 0 where
  pub from : 1 ≤ p
  pub to : p ≤ length s.lines

-- the proc of a thread
abbrev pub proc_of : Option Thread → ℕ
proc_of None = 0
proc_of (Some thread) = thread.proc_no

abbrev pub group_of : Option Thread → ℕ
group_of None = 0
group_of (Some thread) = thread.group

abbrev pub name_of : Option Thread → List ℕ
name_of None = []
name_of (Some thread) = thread.name

abbrev pub word_of : Option Thread → ℕ
word_of None = 0
word_of (Some thread) = thread.word

-- the ready threads of a proc, in order
abbrev pub line_in : Option (List ℕ) → List ℕ
line_in None = []
line_in (Some line) = line

abbrev pub line_of : ℕ → Schedule → List ℕ
line_of p s = line_in (by_id s.lines p)

abbrev pub with_last : ℕ → List ℕ → List ℕ
with_last t line = line ++ t ∷ []

abbrev pub without : ℕ → List ℕ → List ℕ
without t line = filter (λ u. not (u == t)) line

-- a new thread in proc p has the next id, and stands last in its line
abbrev pub with_new : ℕ → ℕ → ℕ → ℕ → Schedule → Schedule
with_new p program arg group s =
    record s {
      threads = s.threads ++ fresh p program arg group ∷ [];
      lines = changed (with_last (length s.threads + 1)) s.lines (p - 1);
      rooms = record s.rooms { thread = false };
    }

-- the next proc is open, with a new thread in it
abbrev pub with_proc : ℕ → ℕ → ℕ → Schedule → Schedule
with_proc program arg group s = with_new (s.opened + 1) program arg group (record s { opened = s.opened + 1 })

-- thread t is ready with an answer, last in the line of its proc
abbrev pub readied : ℕ → Answer → Schedule → Schedule
readied t a s =
    record s {
      threads = placed t (Ready a) s.threads;
      lines = changed (with_last t) s.lines (proc_of (by_id s.threads t) - 1);
    }

-- thread t waits
abbrev pub waiting : ℕ → Schedule → Schedule
waiting t s = record s { threads = placed t Waiting s.threads }

-- thread t has ended, and stands in no line
abbrev pub ended : ℕ → Schedule → Schedule
ended t s =
    record s {
      threads = placed t Ended s.threads;
      lines = changed (without t) s.lines (proc_of (by_id s.threads t) - 1);
    }

-- all threads of proc p have ended, and it isn't held any more
abbrev pub ended_in : ℕ → Thread → Thread
ended_in p thread = if thread.proc_no == p then at_end thread else thread

abbrev pub proc_ended : ℕ → Schedule → Schedule
proc_ended p s =
    record s {
      threads = map (ended_in p) s.threads;
      lines = changed (λ _. []) s.lines (p - 1);
      holds = changed (λ _. false) s.holds (p - 1);
    }

abbrev pub emptied : List ℕ → List ℕ
emptied line = []

-- all threads have ended, and no proc is held any more
abbrev pub all_ended : Schedule → Schedule
all_ended s = record s { threads = map at_end s.threads; lines = map emptied s.lines; holds = map (λ _. false) s.holds }

-- thread t, the first in the line of proc p, runs
abbrev pub begun : ℕ → ℕ → Schedule → Schedule
begun p t s = record s { threads = placed t Running s.threads; lines = changed (drop 1) s.lines (p - 1) }

-- thread t with another group, name or word
abbrev pub with_group_of : ℕ → ℕ → Schedule → Schedule
with_group_of t group s =
    record s { threads = changed (in_group group) s.threads (t - 1); rooms = record s.rooms { group = false } }

abbrev pub with_name_of : ℕ → List ℕ → Schedule → Schedule
with_name_of t name s =
    record s { threads = changed (with_name name) s.threads (t - 1); rooms = record s.rooms { name = false } }

abbrev pub with_word_of : ℕ → ℕ → Schedule → Schedule
with_word_of t word s = record s { threads = changed (with_word word) s.threads (t - 1) }

abbrev pub with_proc_word : ℕ → ℕ → Schedule → Schedule
with_proc_word p word s = record s { words = changed (λ _. word) s.words (p - 1) }
