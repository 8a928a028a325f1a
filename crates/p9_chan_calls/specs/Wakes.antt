-- Threads that are woken in alts, and what the caller is told.
use Rattle.std.specs.Prelude.{ℕ, ◌==◌, ◌≤◌, ◌≡◌, Bool, List, [], ◌∷◌, Option, Some, None, map}
use Rattle.p9_word.specs.declared.answer.Answer.{Answer}
use Rattle.p9_word.specs.declared.answer.Answer.TheVariants.{Closed, NoBlock}
use Rattle.p9_manual.specs.declared.state.Place.TheVariants.{Waiting}
use Rattle.p9_manual.specs.declared.state.Thread.{Thread}
use Rattle.p9_manual.specs.Standing.{times, times_in_waits, place_of}
use Rattle.p9_manual.specs.State.{State, placed, readied}
use Rattle.p9_manual.specs.Told.{failed_answer}
use Rattle.p9_alt.specs.declared.offer.Offer.{Offer}
use Rattle.p9_alt.specs.declared.offer.Offer.TheVariants as offer
use Rattle.p9_alt.specs.declared.offer.Wake.{Wake}
use Rattle.p9_alt.specs.Exchange.{pair_of}

-- which threads these are, each with its answer
abbrev pub pairs_of : List Wake → List (ℕ × Answer)
pairs_of wakes = map pair_of wakes

-- the thread, if one is woken
abbrev pub pair_in : Option Wake → List (ℕ × Answer)
pair_in None = []
pair_in (Some w) = pair_of w ∷ []

-- these threads are ready with their answers, in this order
abbrev pub all_readied : List (ℕ × Answer) → State → State
all_readied [] s = s
all_readied (w ∷ ws) s = all_readied ws (readied w.0 w.1 s)

-- each of these threads waits, and none is there twice
pub record AreWaiting (threads : List Thread) (ws : List (ℕ × Answer)) : Type 0 where
  pub wait : (t : ℕ) → times (λ w. w.0 == t) ws ≤ times_in_waits (place_of threads t)

-- an answer that tells that a channel is closed
abbrev pub IsFailure : Answer → Type 0
IsFailure a = (single : Bool) × (i : ℕ) × (a ≡ failed_answer single i)

-- the caller goes on with what it is told, or waits
abbrev pub told : ℕ → Offer → State → State
told t (offer.Done a) s = readied t a s
told t offer.NoBlock s = readied t NoBlock s
told t offer.Closed s = readied t Closed s
told t offer.Waits s = record s { threads = placed t Waiting s.threads }
