-- Notes: the handlers and the pending notes of one proc, and how a note is delivered. notify(2).
use Rattle.std.specs.Prelude.{ℕ, nat_eq, ◌==◌, Bool, List, [], ◌∷◌, ◌++◌, Option, Some, None, if◌then◌else◌, length, nat_lt}
use Rattle.std.specs.List.{find, starts_with}
use Rattle.std.specs.Option.{option_map}
use Rattle.p9_word.specs.declared.limits.TheConstants.{MOST_HANDLERS, MOST_NOTE_BYTES}
use Rattle.p9_manual.specs.State.{pick}

-- the bytes are too many for a note, and for the prefix of a handler
abbrev pub is_no_note : List ℕ → Bool
is_no_note bytes = nat_lt MOST_NOTE_BYTES (length bytes)

-- a handler is an id and a prefix: it has this id
abbrev pub has_id : ℕ → ℕ × List ℕ → Bool
has_id id handler = handler.0 == id

-- its prefix begins the note. An empty prefix begins every note
abbrev pub catches : List ℕ → ℕ × List ℕ → Bool
catches note handler = starts_with nat_eq note handler.1

-- a handler is added last; not where as many stand as may
abbrev pub added : ℕ → List ℕ → List (ℕ × List ℕ) → Option (List (ℕ × List ℕ))
added id prefix handlers = if nat_lt (length handlers) MOST_HANDLERS then Some (handlers ++ (id, prefix) ∷ []) else None

-- the first handler with this id is removed; not where none has it
abbrev pub removed : ℕ → List (ℕ × List ℕ) → Option (List (ℕ × List ℕ))
removed id handlers = option_map (λ found. found.1) (pick (has_id id) handlers)

-- what a threadnotify makes of the handlers: on adds one, and off removes one. None where it is refused
abbrev pub notified : Bool → ℕ → List ℕ → List (ℕ × List ℕ) → Option (List (ℕ × List ℕ))
notified on id prefix handlers = if on then added id prefix handlers else removed id handlers

-- a note is put last among the pending ones
abbrev pub posted : List ℕ → List (List ℕ) → List (List ℕ)
posted note pending = pending ++ note ∷ []

-- the id of the handler that catches a note: the first whose prefix begins it. None where the note kills the proc
abbrev pub catcher : List ℕ → List (ℕ × List ℕ) → Option ℕ
catcher note handlers = option_map (λ handler. handler.0) (find (catches note) handlers)

-- a note that is delivered: which handler catches it, if one does, and the notes that are pending after it
pub record Delivery : Type 0 where
  pub note : List ℕ
  pub caught_by : Option ℕ
  pub pending : List (List ℕ)

-- the oldest pending note is delivered; none where none is pending
abbrev pub delivery : List (ℕ × List ℕ) → List (List ℕ) → Option Delivery
delivery handlers [] = None
delivery handlers (note ∷ later) = Some (record { note = note; caught_by = catcher note handlers; pending = later })
