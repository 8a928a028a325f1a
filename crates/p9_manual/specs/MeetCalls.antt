-- The request to meet another thread. rendezvous(2).
use Rattle.std.specs.Prelude.{ℕ, Option, Some, None}
use Rattle.p9_word.specs.declared.answer.Answer.TheVariants.{Met}
use Rattle.p9_word.specs.declared.request.LockReq.TheVariants as ask
use Rattle.p9_word.specs.declared.request.Request.TheVariants.{Lock as LockRequest}
use Rattle.p9_manual.specs.declared.locks.LockWaiter.{LockWaiter}
use Rattle.p9_manual.specs.LockWaits.{lock_waiters}
use Rattle.p9_manual.specs.Rendezvous.{partner}
use Rattle.p9_manual.specs.State.{State, Outcome, now, waiting, wake}

-- thread t and its partner are told each other's values, and t runs on; where there is no partner, t waits for one
abbrev pub meet_with : ℕ → ℕ → ℕ → State → Option LockWaiter → Outcome
meet_with t tag value s (Some w) = now (Met w.value) (wake w.tid (Met value) s)
meet_with t tag value s None = waiting t (LockRequest (ask.Rendezvous tag value)) s

-- rendezvous of thread t with a tag and a value
abbrev pub meet : ℕ → ℕ → ℕ → State → Outcome
meet t tag value s = meet_with t tag value s (partner tag (lock_waiters s.waits))
