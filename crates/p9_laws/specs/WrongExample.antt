-- A worked example of what isn't a history: one turn that the manual doesn't allow.
use Rattle.std.specs.Prelude.{◌⊎◌, ℕ, ◌≡◌, false, List, [], ◌∷◌, ◌++◌, Some, slice_get, take}
use Rattle.p9_word.specs.declared.answer.Answer.TheVariants.{Sent}
use Rattle.p9_word.specs.declared.trail.Reply.TheVariants.{Turn}
use Rattle.p9_word.specs.declared.trail.Entry.{Entry}
use Rattle.p9_word.specs.declared.setup.Setup.{Setup}
use Rattle.p9_manual.specs.History.{IsLegal, state_after}
use Rattle.p9_manual.specs.Step.{step, makes_entry}
use Rattle.p9_manual.specs.State.{State}
use Rattle.p9_laws.specs.Shorthand.{turns}
use Rattle.p9_laws.specs.CopyExample.{opened_both, sent_hi}

-- the sender runs before the receiver that it found waiting
abbrev pub swapped : List Entry
swapped = opened_both ++ sent_hi ++ turns (Turn 1 Sent) ∷ []

-- what makes an entry wrong after state s: its reply isn't that of the step there, or makes no entry
abbrev pub IsWrongIn : Setup → State → Entry → Type 0
IsWrongIn setup s e = (e.reply ≡ (step setup e.seat e.event s).reply → ⊥) ⊎ (makes_entry e.reply ≡ false)

-- the history has an entry n, is legal up to it, and is wrong there
abbrev pub IsWrongAt : Setup → List Entry → ℕ → Type 0
IsWrongAt setup history n =
    IsLegal setup (take n history) × (e : Entry) × (slice_get history n ≡ Some e) × IsWrongIn setup (state_after setup (take n history)) e
