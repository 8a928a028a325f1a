-- When the procs of a run are over.
use Rattle.std.specs.Prelude.{ℕ, ◌≡◌, ◌≤◌}
use Rattle.p9_word.specs.declared.trail.Event.{Event}
use Rattle.p9_word.specs.declared.trail.Event.TheVariants.{Next}
use Rattle.p9_word.specs.declared.trail.Reply.{Reply}
use Rattle.p9_word.specs.declared.trail.Reply.TheVariants.{Over}
use Rattle.p9_word.specs.declared.trail.Seat.{Seat}
use Rattle.p9_word.specs.declared.trail.Seat.TheVariants.{Proc}

-- by the replies before and after: a proc that is over stays so
abbrev pub StaysOver : (Seat → Event → Reply) → (Seat → Event → Reply) → Type 0
StaysOver before after = (q : ℕ) → before (Proc q) Next ≡ Over → after (Proc q) Next ≡ Over

-- the procs 1 to n are over: each gets Over where it asks for a turn
abbrev pub AllOver : ℕ → (Seat → Event → Reply) → Type 0
AllOver n reply = (q : ℕ) → 1 ≤ q → q ≤ n → reply (Proc q) Next ≡ Over
