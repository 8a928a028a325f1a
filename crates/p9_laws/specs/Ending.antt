-- When a run is at its end, and what tells it. All of this is this project's own.
use Rattle.std.specs.Prelude.{ℕ, ◌≡◌, ◌≤◌, ◌⊎◌, ◌-◌, Bool, true, false, List, length, slice_get, Option, Some, None}
use Rattle.std.specs.List.{list_any}
use Rattle.p9_word.specs.declared.setup.Setup.{Setup}
use Rattle.p9_word.specs.declared.trail.Entry.{Entry}
use Rattle.p9_word.specs.declared.trail.Event.TheVariants.{Next}
use Rattle.p9_word.specs.declared.trail.Reply.{Reply}
use Rattle.p9_word.specs.declared.trail.Reply.TheVariants.{Stuck, Over}
use Rattle.p9_word.specs.declared.trail.Seat.TheVariants.{Proc}
use Rattle.p9_word.specs.Setup.{IsValid}
use Rattle.p9_manual.specs.Places.{lives}
use Rattle.p9_manual.specs.History.{state_after, IsLegal}
use Rattle.p9_laws.specs.RunReplies.{reply_at}

abbrev pub is_stuck_reply : Reply → Bool
is_stuck_reply Stuck = true
is_stuck_reply reply = false

abbrev pub stuck_at : Option Entry → Bool
stuck_at None = false
stuck_at (Some e) = is_stuck_reply e.reply

-- the last entry is Stuck
abbrev pub ends_stuck : List Entry → Bool
ends_stuck history = stuck_at (slice_get history (length history - 1))

-- the run is at its end: its last entry is Stuck, or no thread lives
abbrev pub HasEnded : Setup → List Entry → Type 0
HasEnded setup history = (ends_stuck history ≡ true) ⊎ (list_any lives (state_after setup history).threads ≡ false)

-- a run is at its end where the turns of each proc place are over
abbrev pub EndsOver : Setup → List Entry → Type 0
EndsOver setup entries =
    IsValid setup → IsLegal setup entries → ((p : ℕ) → 1 ≤ p → p ≤ setup.places → reply_at setup entries (Proc p) Next ≡ Over)
    → HasEnded setup entries
