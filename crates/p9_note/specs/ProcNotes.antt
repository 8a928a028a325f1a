-- What callers see of the handlers and the pending notes of the procs, and what each call changes. notify(2).
use Rattle.std.specs.Prelude.{ℕ, Bool, true, false, List, [], Option, Some, None, is_some, length, if◌then◌else◌}
use Rattle.p9_word.specs.Setup.{IsBetween}
use Rattle.p9_manual.specs.Notes.{Delivery, delivery, notified, posted}
use Rattle.p9_manual.specs.State.{by_id}
use Rattle.p9_note.specs.declared.delivered.Delivered.{Delivered}
use Rattle.p9_note.specs.declared.delivered.Delivered.TheVariants.{Quiet, Caught, Died}

-- the handlers of a proc (id and prefix) in the order in which they were added; its pending notes, the oldest first; and
-- whether there is memory for one more of each
pub record ProcNotes : Type 0 where
  pub handlers : List (ℕ × List ℕ)
  pub pending : List (List ℕ)
  pub room : Bool

-- no handler and no pending note
abbrev pub no_notes : ProcNotes
no_notes = record { handlers = []; pending = []; room = false }

-- procs count from 1: p is one of them
abbrev pub IsPlace : ℕ → List ProcNotes → Type 0
IsPlace p all = IsBetween 1 (length all) p

-- what there is of a proc
abbrev pub notes_in : Option ProcNotes → ProcNotes
notes_in (Some x) = x
notes_in None = no_notes

abbrev pub notes_of : ℕ → List ProcNotes → ProcNotes
notes_of p all = notes_in (by_id all p)

-- there is memory for one more handler and one more note
abbrev pub with_room : ProcNotes → ProcNotes
with_room x = record x { room = true }

-- whether a threadnotify does what it says
abbrev pub is_done : Bool → ℕ → List ℕ → ProcNotes → Bool
is_done on id prefix x = is_some (notified on id prefix x.handlers)

-- after a threadnotify that changes the handlers: one that adds a handler uses up the memory at hand
abbrev pub with_handlers : Bool → List (ℕ × List ℕ) → ProcNotes → ProcNotes
with_handlers on handlers x = record x { handlers = handlers; room = if on then false else x.room }

-- a threadnotify that is refused changes nothing
abbrev pub if_done : Bool → Option (List (ℕ × List ℕ)) → ProcNotes → ProcNotes
if_done on (Some handlers) x = with_handlers on handlers x
if_done on None x = x

abbrev pub after_notify : Bool → ℕ → List ℕ → ProcNotes → ProcNotes
after_notify on id prefix x = if_done on (notified on id prefix x.handlers) x

-- after a post, which uses up the memory at hand
abbrev pub after_post : List ℕ → ProcNotes → ProcNotes
after_post note x = record x { pending = posted note x.pending; room = false }

-- a note is caught by a handler, or kills
abbrev pub fate : List ℕ → Option ℕ → Delivered
fate note (Some id) = Caught id
fate note None = Died note

-- what one who delivers is told
abbrev pub told : Option Delivery → Delivered
told (Some d) = fate d.note d.caught_by
told None = Quiet

abbrev pub delivered : ProcNotes → Delivered
delivered x = told (delivery x.handlers x.pending)

-- the pending notes once the oldest was delivered
abbrev pub left : Option Delivery → List (List ℕ)
left (Some d) = d.pending
left None = []

abbrev pub after_delivery : ProcNotes → ProcNotes
after_delivery x = record x { pending = left (delivery x.handlers x.pending) }

-- whether a note is pending
abbrev pub is_pending : ProcNotes → Bool
is_pending x = is_some (delivery x.handlers x.pending)

-- no note is pending any more
abbrev pub cleared : ProcNotes → ProcNotes
cleared x = record x { pending = [] }
