-- Which entry gave a thread the answer that it is told at its turn. This project's own.
use Rattle.std.specs.Prelude.{ℕ, ◌≡◌, ◌≤◌, ◌+◌, ◌⊎◌, List, Some, slice_get, take}
use Rattle.p9_word.specs.declared.answer.Answer.{Answer}
use Rattle.p9_word.specs.declared.setup.Setup.{Setup}
use Rattle.p9_word.specs.declared.trail.Entry.{Entry}
use Rattle.p9_word.specs.declared.trail.Reply.TheVariants.{Turn}
use Rattle.p9_manual.specs.declared.state.Place.{Place}
use Rattle.p9_manual.specs.declared.state.Place.TheVariants.{Running, Ready, Waiting}
use Rattle.p9_manual.specs.History.{state_after}
use Rattle.p9_manual.specs.Standing.{place_of}
use Rattle.p9_manual.specs.State.{State}
use Rattle.p9_laws.specs.LastCall.{call_before}

-- the state before position n of a history
abbrev pub state_before : Setup → List Entry → ℕ → State
state_before setup history n = state_after setup (take n history)

-- where thread t is before position n
abbrev pub place_before : Setup → List Entry → ℕ → ℕ → Place
place_before setup history n t = place_of (state_before setup history n).threads t

-- a thread at this place, whose last call has position `call`, awaits an answer when the entry at position `at` comes: it
-- runs, and that entry is the very call; or it waits, and the entry comes later
abbrev pub Awaits : Place → ℕ → ℕ → Type 0
Awaits place call at = ((place ≡ Running) × (at ≡ call)) ⊎ ((place ≡ Waiting) × (call + 1 ≤ at))

-- the entry at position `at`, which is before position n, gave thread t this answer. The last call of t before n has position
-- `call`; until the entry t awaited an answer, and right after it t stands ready with this one
pub record IsGivenAt (setup : Setup) (history : List Entry) (n t : ℕ) (a : Answer) : Type 0 where
  pub call : ℕ
  pub at : ℕ
  pub entry : Entry
  pub is_last : call_before history n t ≡ Some call
  pub is_before : at + 1 ≤ n
  pub is_there : slice_get history at ≡ Some entry
  pub awaited : Awaits (place_before setup history at t) call at
  pub given : place_before setup history (at + 1) t ≡ Ready a

-- each answer that a thread is told at its turn was given by an entry before that turn
abbrev pub AnswersGiven : Setup → List Entry → Type 0
AnswersGiven setup history =
    (i t : ℕ) (a : Answer) (e : Entry) → slice_get history i ≡ Some e → e.reply ≡ Turn t a → IsGivenAt setup history i t a
