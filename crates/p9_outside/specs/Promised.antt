-- What sources, sinks and paths may tell of calls to come that won't fail.
use Rattle.std.specs.Prelude.{ℕ, ◌≡◌, ◌≤◌, Bool, true, false, List, Option, Result, Ok, Err}

-- no read of a steady source fails, and it stays steady
abbrev pub StaysSteady : Bool → Bool → Bool → Type 0
StaysSteady failed before now = before ≡ true → (failed ≡ false) × (now ≡ true)

-- how many bytes a write took
abbrev pub taken : {E : Type 0} → Result ℕ E → ℕ
taken (Ok n) = n
taken (Err e) = 0

-- what a source tells: the bytes that it has left, where they are told; how often a read has failed; and that no later
-- read fails
pub record SourceTells (S : Type 0) : Type 0 where
  pub left : S → Option (List ℕ)
  pub faults : S → ℕ
  pub steady : S → Bool

abbrev pub source_tells : {S : Type 0} → (S → Option (List ℕ)) → (S → ℕ) → (S → Bool) → SourceTells S
source_tells left faults steady = record { left = left; faults = faults; steady = steady }

-- what a sink tells: the bytes that it has taken, where they are told; how often a write has failed; and that writes of so
-- many bytes more don't fail
pub record SinkTells (K : Type 0) : Type 0 where
  pub held : K → Option (List ℕ)
  pub faults : K → ℕ
  pub firm : K → ℕ

abbrev pub sink_tells : {K : Type 0} → (K → Option (List ℕ)) → (K → ℕ) → (K → ℕ) → SinkTells K
sink_tells held faults firm = record { held = held; faults = faults; firm = firm }

-- what is told of a path: its sources are steady, its sinks take so many bytes without a failure, it can be opened to be
-- read, it can be opened to be written, and a sink of it can be closed
pub record PathTold : Type 0 where
  pub steady : Bool
  pub firm : ℕ
  pub found : Bool
  pub made : Bool
  pub closes : Bool

-- nothing is told
abbrev pub nothing_told : PathTold
nothing_told = record { steady = false; firm = 0; found = false; made = false; closes = false }

-- what was told of a path is still told
pub record KeepsPath (old new : PathTold) : Type 0 where
  pub steady : old.steady ≡ true → new.steady ≡ true
  pub firm : old.firm ≤ new.firm
  pub found : old.found ≡ true → new.found ≡ true
  pub made : old.made ≡ true → new.made ≡ true
  pub closes : old.closes ≡ true → new.closes ≡ true

-- the same of every path
abbrev pub KeepsTold : (List ℕ → PathTold) → (List ℕ → PathTold) → Type 0
KeepsTold old new = (p : List ℕ) → KeepsPath (old p) (new p)
