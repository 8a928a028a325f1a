-- What holds of locks, tags and held procs after every history. This project's own.
use Rattle.std.specs.Prelude.{ℕ, ◌≡◌, ◌≤◌, ◌+◌, ◌&&◌, Bool, true, is_none, List}
use Rattle.p9_manual.specs.declared.locks.Sort.{Sort}
use Rattle.p9_manual.specs.declared.locks.Sort.TheVariants as sort
use Rattle.p9_manual.specs.declared.locks.LockWait.TheVariants as wait
use Rattle.p9_manual.specs.declared.locks.LockWaiter.{LockWaiter}
use Rattle.p9_manual.specs.declared.state.Thread.{Thread}
use Rattle.p9_manual.specs.Claims.{is_free, is_empty, rw_at}
use Rattle.p9_manual.specs.Held.{holds_in}
use Rattle.p9_manual.specs.Holds.{Holds}
use Rattle.p9_manual.specs.Places.{runs_in}
use Rattle.p9_manual.specs.Queues.{waits_for}
use Rattle.p9_manual.specs.Standing.{times}
use Rattle.p9_manual.specs.State.{by_id}

-- nobody holds lock k
abbrev pub is_unheld : Sort → ℕ → Holds → Bool
is_unheld sort.Lock k h = is_free (by_id h.locks k)
is_unheld sort.QLock k h = is_free (by_id h.qlocks k)
is_unheld sort.Read k h = is_none (rw_at k h).writer && is_empty (rw_at k h).readers
is_unheld sort.Write k h = is_none (rw_at k h).writer && is_empty (rw_at k h).readers

-- how threads wait at locks and with tags
pub record WaitInTurn (threads : List Thread) (holds : Holds) (waits : List LockWaiter) : Type 0 where
  -- of each proc at most one thread runs or holds it: in a held proc no thread runs, and one alone holds it
  pub held : (p : ℕ) → times (holds_in threads p) waits + times (runs_in p) threads ≤ 1
  -- nobody waits for a lock that nobody holds
  pub free : (s : Sort) (k : ℕ) → is_unheld s k holds ≡ true → times (waits_for (wait.Lock s k)) waits ≡ 0
  -- no two threads wait with the same tag
  pub tags : (tag : ℕ) → times (waits_for (wait.Tag tag)) waits ≤ 1
