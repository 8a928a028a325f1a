-- The values that leave channels in a history, read off its steps. This project's own.
use Rattle.std.specs.Prelude.{ℕ, ◌≤◌, ◌==◌, List, [], ◌∷◌, map}
use Rattle.std.specs.List.{filter, flat_map, cons_option}
use Rattle.p9_word.specs.declared.setup.Setup.{Setup}
use Rattle.p9_word.specs.declared.trail.Entry.{Entry}
use Rattle.p9_manual.specs.declared.state.Channel.{Channel}
use Rattle.p9_manual.specs.declared.state.Element.{Element}
use Rattle.p9_manual.specs.Standing.{IsRising, times}
use Rattle.p9_manual.specs.State.{Move, State}
use Rattle.p9_manual.specs.Step.{step}
use Rattle.p9_manual.specs.History.{begin_state, after_entry}

-- the values that leave channels by these entries, from state s on: those that the steps tell
abbrev pub moves_from : Setup → State → List Entry → List Move
moves_from setup s [] = []
moves_from setup s (e ∷ es) = cons_option (step setup e.seat e.event s).moved (moves_from setup (after_entry setup s e) es)

-- all values that left channels in a history, in the order in which they did
unfoldable pub moves : Setup → List Entry → List Move
moves setup history = moves_from setup (begin_state setup) history

-- those of channel c
abbrev pub carried : Setup → List Entry → ℕ → List Move
carried setup history c = filter (λ m. m.chan == c) (moves setup history)

-- how often the value that a call at this position sent has moved
abbrev pub times_moved : ℕ → List Move → ℕ
times_moved position ms = times (λ m. m.from == position) ms

-- the elements of all channels, of those that were freed too
abbrev pub elements_of : List Channel → List Element
elements_of chans = flat_map (λ chan. chan.elements) chans

-- on each channel values move in the order of the calls that sent them
abbrev pub PositionsRise : Setup → List Entry → Type 0
PositionsRise setup history = (c : ℕ) → IsRising (map (λ m. m.from) (carried setup history c))

-- no call's value moves twice, on one channel or on two
abbrev pub MovesOnce : Setup → List Entry → Type 0
MovesOnce setup history = (position : ℕ) → times_moved position (moves setup history) ≤ 1
