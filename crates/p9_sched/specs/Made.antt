-- What becomes of a schedule where a thread or a proc is asked for. thread(2).
use Rattle.std.specs.Prelude.{ℕ, ◌≡◌, ◌+◌, ◌<◌, ◌≤◌, ◌⊎◌, length}
use Rattle.p9_word.specs.declared.limits.TheConstants.{MOST_THREADS}
use Rattle.p9_sched.specs.Schedule.{Schedule, with_new, with_proc}

-- as many threads were made as there can be, so no further one is
pub record RefusesThread (old new : Schedule) : Type 0 where
  pub many : MOST_THREADS ≤ length old.threads
  pub same : new ≡ old

-- thread t, the next id, is made in proc p
pub record AddsThread (t p program arg group : ℕ) (old new : Schedule) : Type 0 where
  pub few : length old.threads < MOST_THREADS
  pub id : t ≡ length old.threads + 1
  pub made : new ≡ with_new p program arg group old

-- as many threads were made as there can be, or all proc places are open, so no further proc is opened
pub record RefusesProc (old new : Schedule) : Type 0 where
  pub none : (MOST_THREADS ≤ length old.threads) ⊎ (length old.lines ≤ old.opened)
  pub same : new ≡ old

-- thread t, the next id, is made in the next proc
pub record AddsProc (t program arg group : ℕ) (old new : Schedule) : Type 0 where
  pub few : length old.threads < MOST_THREADS
  pub left : old.opened < length old.lines
  pub id : t ≡ length old.threads + 1
  pub made : new ≡ with_proc program arg group old
