-- What a history says of each ioproc, and so of each file: the calls taken there and the effects recorded for them.
use Rattle.std.specs.Prelude.{ℕ, ◌≡◌, ◌==◌, Bool, false, List, [], ◌∷◌, length, if◌then◌else◌}
use Rattle.std.specs.List.{flat_map}
use Rattle.p9_word.specs.declared.io_call.IoCall.{IoCall}
use Rattle.p9_word.specs.declared.io_call.Effect.{Effect}
use Rattle.p9_word.specs.declared.trail.Event.{Event}
use Rattle.p9_word.specs.declared.trail.Event.TheVariants.{IoDid}
use Rattle.p9_word.specs.declared.trail.Reply.{Reply}
use Rattle.p9_word.specs.declared.trail.Reply.TheVariants.{Took}
use Rattle.p9_word.specs.declared.trail.Seat.{Seat}
use Rattle.p9_word.specs.declared.trail.Seat.TheVariants.{Proc, Io}
use Rattle.p9_word.specs.declared.trail.Entry.{Entry}

-- the call that a reply hands out, if it does
abbrev pub taken_by : Reply → List IoCall
taken_by (Took call) = call ∷ []
taken_by reply = []

-- the effect that an event tells, if it does
abbrev pub done_by : Event → List Effect
done_by (IoDid effect) = effect ∷ []
done_by event = []

-- the seat is that of ioproc k
abbrev pub is_io : ℕ → Seat → Bool
is_io k (Io j) = k == j
is_io k (Proc p) = false

-- the calls taken at ioproc k, in order
unfoldable pub calls_at : ℕ → List Entry → List IoCall
calls_at k history = flat_map (λ e. if is_io k e.seat then taken_by e.reply else []) history

-- the effects recorded there, in order
unfoldable pub effects_at : ℕ → List Entry → List Effect
effects_at k history = flat_map (λ e. if is_io k e.seat then done_by e.event else []) history

-- the items of two lists by pairs, as long as both last
abbrev pub paired : {A B : Type 0} → List A → List B → List (A × B)
paired [] ys = []
paired (x ∷ xs) [] = []
paired (x ∷ xs) (y ∷ ys) = (x, y) ∷ paired xs ys

-- each call taken at ioproc k, with the effect recorded for it
abbrev pub services_at : ℕ → List Entry → List (IoCall × Effect)
services_at k history = paired (calls_at k history) (effects_at k history)

-- no call of ioproc k is left begun
abbrev pub IsDone : ℕ → List Entry → Type 0
IsDone k history = length (calls_at k history) ≡ length (effects_at k history)
