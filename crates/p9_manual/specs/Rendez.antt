-- Rendezes: threads that sleep until they are woken, and then wait for the QLock again. lock(2).
use Rattle.std.specs.Prelude.{ℕ, ◌++◌, [], ◌∷◌, not, List, Option, Some, None, map, length}
use Rattle.std.specs.List.{filter, find}
use Rattle.std.specs.Option.{option_to_list}
use Rattle.p9_manual.specs.declared.locks.Sort.TheVariants as sort
use Rattle.p9_manual.specs.declared.locks.LockWait.TheVariants as wait
use Rattle.p9_manual.specs.declared.locks.LockWaiter.{LockWaiter}
use Rattle.p9_manual.specs.Holds.{Holds}
use Rattle.p9_manual.specs.Queues.{waits_for, without_first, joined}
use Rattle.p9_manual.specs.Unlocks.{Grant, qlock_released}

-- rsleep of thread t at Rendez r, whose QLock is q: the QLock is given up as by qunlock, and the thread sleeps
abbrev pub sleep : ℕ → ℕ → ℕ → Holds → List LockWaiter → Grant
sleep t r q h waits = let g = qlock_released q h waits in record g { waits = joined t (wait.Sleep r) 0 g.waits }

-- a sleeper that is woken waits for QLock q
abbrev pub woken_for : ℕ → LockWaiter → LockWaiter
woken_for q w = record w { what = wait.Lock sort.QLock q }

-- a wakeup of the thread that has slept longest at Rendez r, if one sleeps: it leaves its place, and stands behind all others
-- as a thread that waits for QLock q
abbrev pub woken_first : ℕ → ℕ → Option LockWaiter → List LockWaiter → List LockWaiter
woken_first r q None waits = waits
woken_first r q (Some w) waits = without_first (waits_for (wait.Sleep r)) waits ++ woken_for q w ∷ []

abbrev pub wakeup : ℕ → ℕ → List LockWaiter → List LockWaiter
wakeup r q waits = woken_first r q (find (waits_for (wait.Sleep r)) waits) waits

-- how many a wakeup moves
abbrev pub count_woken : ℕ → List LockWaiter → ℕ
count_woken r waits = length (option_to_list (find (waits_for (wait.Sleep r)) waits))

-- rwakeupall: all threads that sleep at Rendez r are moved so, in order
abbrev pub sleepers : ℕ → List LockWaiter → List LockWaiter
sleepers r waits = filter (waits_for (wait.Sleep r)) waits

abbrev pub wakeup_all : ℕ → ℕ → List LockWaiter → List LockWaiter
wakeup_all r q waits = filter (λ w. not (waits_for (wait.Sleep r) w)) waits ++ map (woken_for q) (sleepers r waits)
