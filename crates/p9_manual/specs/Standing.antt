-- Where threads stand: what a sound state says of the line and the waits. This project's own.
use Rattle.std.specs.Prelude.{ℕ, ◌≡◌, ◌≤◌, ◌==◌, ◌+◌, All, Bool, cond, List, [], ◌∷◌, Option, Some, None}
use Rattle.p9_manual.specs.declared.state.Place.{Place}
use Rattle.p9_manual.specs.declared.state.Place.TheVariants.{New, Ready, Waiting, Ended}
use Rattle.p9_manual.specs.declared.state.Thread.{Thread}
use Rattle.p9_manual.specs.declared.state.Waiter.{Waiter}
use Rattle.p9_manual.specs.Places.{runs_in}
use Rattle.p9_manual.specs.State.{by_id}

-- how often a test passes
abbrev pub times : {A : Type 0} → (A → Bool) → List A → ℕ
times p [] = 0
times p (x ∷ xs) = cond (p x) 1 0 + times p xs

-- each number is greater than all before it
abbrev pub IsRising : List ℕ → Type 0
IsRising [] = Unit {0}
IsRising (n ∷ ns) = All (λ m. n + 1 ≤ m) ns × IsRising ns

-- where a thread is; one that isn't there has ended
abbrev pub place_in : Option Thread → Place
place_in None = Ended
place_in (Some thread) = thread.place

-- where thread t is
abbrev pub place_of : List Thread → ℕ → Place
place_of threads t = place_in (by_id threads t)

-- how often a thread stands in the line
abbrev pub times_in_line : Place → ℕ
times_in_line New = 1
times_in_line (Ready a) = 1
times_in_line place = 0

-- how often it stands in the waits
abbrev pub times_in_waits : Place → ℕ
times_in_waits Waiting = 1
times_in_waits place = 0

-- where threads stand
pub record StandOnce (threads : List Thread) (line : List ℕ) (waits : List Waiter) : Type 0 where
  -- the line holds exactly the ready threads, each once
  pub in_line : (t : ℕ) → times (λ u. u == t) line ≡ times_in_line (place_of threads t)
  -- the waits hold exactly the waiting threads, each once
  pub in_waits : (t : ℕ) → times (λ w. w.tid == t) waits ≡ times_in_waits (place_of threads t)
  -- at most one thread of each proc runs
  pub one_runs : (p : ℕ) → times (runs_in p) threads ≤ 1
