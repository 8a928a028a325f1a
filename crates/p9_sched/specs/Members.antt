-- The living threads of a group, by their ids. thread(2).
use Rattle.std.specs.Prelude.{ℕ, ◌≡◌, ◌<◌, ◌==◌, ◌&&◌, Bool, true, false, List, Option, Some, None}
use Rattle.p9_manual.specs.declared.state.Thread.{Thread}
use Rattle.p9_manual.specs.Places.{lives}
use Rattle.p9_manual.specs.State.{by_id}

-- whether it is a thread that lives and is of this group
abbrev pub is_member : ℕ → Option Thread → Bool
is_member group None = false
is_member group (Some thread) = lives thread && thread.group == group

-- no thread above t lives and is of the group
pub record NoMember (group t : ℕ) (threads : List Thread) : Type 0 where
  pub none : (u : ℕ) → t < u → is_member group (by_id threads u) ≡ false

-- thread u is above t, lives and is of the group, and none between them does so and is
pub record NextMember (group t : ℕ) (threads : List Thread) (u : ℕ) : Type 0 where
  pub after : t < u
  pub member : is_member group (by_id threads u) ≡ true
  pub least : (v : ℕ) → t < v → v < u → is_member group (by_id threads v) ≡ false
