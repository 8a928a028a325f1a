-- What the services of ioprocs add to a history, and what they make of the devices.
use Rattle.std.specs.Prelude.{ℕ, ◌≡◌, ◌≢◌, ◌+◌, List, [], ◌∷◌}
use Rattle.p9_word.specs.declared.io_call.IoCall.{IoCall}
use Rattle.p9_word.specs.declared.io_call.Effect.{Effect}
use Rattle.p9_word.specs.declared.trail.Entry.{Entry}
use Rattle.p9_manual.specs.FilesInHistory.{calls_at, effects_at, services_at, IsDone}
use Rattle.p9_outside.specs.Reached.{Reached}
use Rattle.p9_run.specs.Untouched.{TouchesNoThread}

-- neither the threads nor the other ioprocs see anything of a service of ioproc k
pub record TouchesOnly (k : ℕ) (before after : List Entry) : Type 0 where
  pub threads : TouchesNoThread before after
  pub calls : (j : ℕ) → j ≢ k → calls_at j after ≡ calls_at j before
  pub effects : (j : ℕ) → j ≢ k → effects_at j after ≡ effects_at j before

-- the device has come from its first state to this one by one service for each call taken at ioproc k, in order, with
-- the effects recorded, and no call is left begun
pub record Serves {D : Type 0} (serves : D → IoCall → Effect → D → Type 0) (k : ℕ) (history : List Entry) (first now : D) : Type 0 where
  pub is_done : IsDone k history
  pub reached : Reached serves first (services_at k history) now

-- each device has served its ioproc so; the first one serves ioproc k, and the next ones those after it
abbrev pub AllServe : {D : Type 0} → (D → IoCall → Effect → D → Type 0) → List Entry → ℕ → List D → List D → Type 0
AllServe serves history k [] [] = Unit {0}
AllServe serves history k [] (d ∷ devices) = ⊥
AllServe serves history k (f ∷ firsts) [] = ⊥
AllServe serves history k (f ∷ firsts) (d ∷ devices) = Serves serves k history f d × AllServe serves history (k + 1) firsts devices

-- where a device has served so by the history before, it has by the one after, whatever its first state was
abbrev pub ServesOn : {D : Type 0} → (D → IoCall → Effect → D → Type 0) → ℕ → List Entry → D → List Entry → D → Type 0
ServesOn {D} serves k before old after new = (first : D) → Serves serves k before first old → Serves serves k after first new

-- the same of all devices, of which the first one serves ioproc 1
abbrev pub AllServeOn : {D : Type 0} → (D → IoCall → Effect → D → Type 0) → List Entry → List D → List Entry → List D → Type 0
AllServeOn {D} serves before old after new = (firsts : List D) → AllServe serves before 1 firsts old → AllServe serves after 1 firsts new
