-- What an interrupt needs of a sound state, and keeps.
use Rattle.std.specs.Prelude.{ℕ, ◌≡◌, ◌≤◌, ◌+◌, true, All}
use Rattle.p9_manual.specs.Held.{holds_in}
use Rattle.p9_manual.specs.LockWaits.{lock_waiters}
use Rattle.p9_manual.specs.Places.{runs_in}
use Rattle.p9_manual.specs.Sound.{can_wait}
use Rattle.p9_manual.specs.Standing.{StandOnce, times}
use Rattle.p9_manual.specs.State.{State}

pub record IsFit (s : State) : Type 0 where
  -- each thread stands where its place says
  pub stand : StandOnce s.threads s.line s.waits
  -- each waits in a request that can wait
  pub kinds : All (λ w. can_wait w.request ≡ true) s.waits
  -- of each proc at most one thread runs or holds it
  pub held : (p : ℕ) → times (holds_in s.threads p) (lock_waiters s.waits) + times (runs_in p) s.threads ≤ 1
