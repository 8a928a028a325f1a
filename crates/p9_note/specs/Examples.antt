-- Notes, worked out: notes that are caught in their order, a note that kills, and which of several handlers catches. notify(2).
use Rattle.std.specs.Prelude.{ℕ, ◌≡◌, true, false, List, [], ◌∷◌}
use Rattle.p9_note.specs.declared.delivered.Delivered.TheVariants.{Quiet, Caught, Died}
use Rattle.p9_note.specs.ProcNotes.{ProcNotes, no_notes, with_room, is_done, after_notify, after_post, delivered, after_delivery}

-- the bytes "a", "ab" and "b"
abbrev pub a : List ℕ
a = 97 ∷ []

abbrev pub ab : List ℕ
ab = 97 ∷ 98 ∷ []

abbrev pub b : List ℕ
b = 98 ∷ []

-- a proc with these handlers and these pending notes, and no memory at hand
abbrev pub notes : List (ℕ × List ℕ) → List (List ℕ) → ProcNotes
notes handlers pending = record { handlers = handlers; pending = pending; room = false }

-- handler 7 catches what begins with "a"
abbrev pub with_handler : List (List ℕ) → ProcNotes
with_handler pending = notes ((7, a) ∷ []) pending

-- a handler is added, and two notes that it catches are posted: it catches both, the older one first, and each once
pub record CaughtInOrder : Type 0 where
  pub added : after_notify true 7 a (with_room no_notes) ≡ with_handler []
  pub one : after_post ab (with_room (with_handler [])) ≡ with_handler (ab ∷ [])
  pub two : after_post a (with_room (with_handler (ab ∷ []))) ≡ with_handler (ab ∷ a ∷ [])
  pub first : delivered (with_handler (ab ∷ a ∷ [])) ≡ Caught 7
  pub later : after_delivery (with_handler (ab ∷ a ∷ [])) ≡ with_handler (a ∷ [])
  pub second : delivered (with_handler (a ∷ [])) ≡ Caught 7
  pub last : after_delivery (with_handler (a ∷ [])) ≡ with_handler []
  pub over : delivered (with_handler []) ≡ Quiet

-- a note that begins with no handler's prefix kills, also where it is the beginning of a prefix, or where there is no handler
pub record UncaughtKills : Type 0 where
  pub other : delivered (with_handler (b ∷ [])) ≡ Died b
  pub shorter : delivered (notes ((7, ab) ∷ []) (a ∷ [])) ≡ Died a
  pub none : delivered (notes [] (a ∷ [])) ≡ Died a
  pub taken : after_delivery (with_handler (b ∷ [])) ≡ with_handler []

-- the first handler whose prefix begins the note catches it. Off removes the first with its id, whatever its prefix, and then
-- the next one catches; an id that no handler has is refused
pub record FirstCatches : Type 0 where
  pub first : delivered (notes ((7, ab) ∷ (8, a) ∷ (9, []) ∷ []) (ab ∷ [])) ≡ Caught 7
  pub next : delivered (notes ((7, ab) ∷ (8, a) ∷ (9, []) ∷ []) (a ∷ [])) ≡ Caught 8
  pub all : delivered (notes ((7, ab) ∷ (8, a) ∷ (9, []) ∷ []) (b ∷ [])) ≡ Caught 9
  pub removed : after_notify false 8 b (notes ((7, ab) ∷ (8, a) ∷ (8, b) ∷ []) []) ≡ notes ((7, ab) ∷ (8, b) ∷ []) []
  pub refused : is_done false 6 a (with_handler []) ≡ false
