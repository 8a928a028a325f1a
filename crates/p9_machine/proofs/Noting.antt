-- What becomes of the oldest note of a proc at its turn.
use Rattle.std.proofs.Common.{◌≡◌, ℕ, zero, suc, ◌-◌, Bool, true, false, cond, List, [], ◌∷◌, length, map, Option, Some, None, refl, ap, sym, subst, ◌∙◌}
use Rattle.std.specs.Prelude.{option_map, slice_get, nat_lt, is_some}
use Rattle.p9_word.specs.declared.setup.Setup.{Setup}
use Rattle.p9_word.specs.declared.trail.Reply.{Reply}
use Rattle.p9_word.specs.declared.trail.Reply.TheVariants as reply
use Rattle.p9_manual.specs.Ends.{proc_ended}
use Rattle.p9_manual.specs.NoteCalls.{next_note, note_in, noted, with_pending, with_proc}
use Rattle.p9_manual.specs.Notes.{Delivery, delivery}
use Rattle.p9_manual.specs.Next.{note_first}
use Rattle.p9_manual.specs.Sound.{IsSound}
use Rattle.p9_manual.specs.State.{State, Proc, by_id, changed, replied}
use Rattle.p9_manual.specs.Step.{makes_entry}
use Rattle.p9_note.specs.declared.delivered.Delivered.TheVariants as fate
use Rattle.p9_note.specs.For.{NotesFor, bare}
use Rattle.p9_note.specs.ProcNotes.{ProcNotes, notes_in, notes_of, told, fate as fate_of}
use Rattle.p9_machine.specs.declared.board.Board.{Board}
use Rattle.p9_machine.specs.Board.{Stands, Gives, left}
use Rattle.p9_machine.specs.Turns.{turn_in}
use Rattle.p9_machine.proofs.Dispatch.{alts_stay, io_stays, locks_stay, moved, sched_stays}

-- the delivery of these handlers and notes, where there are some
abbrev delivery_in : Option (List (ℕ × List ℕ) × List (List ℕ)) → Option Delivery
delivery_in None = None
delivery_in (Some x) = delivery x.0 x.1

note_in_as : (o : Option Proc) → note_in o ≡ delivery_in (option_map noted o)
note_in_as None = refl
note_in_as (Some proc) = refl

notes_in_as : (o : Option ProcNotes) → delivery (notes_in o).handlers (notes_in o).pending ≡ delivery_in (option_map bare o)
notes_in_as None = refl
notes_in_as (Some x) = refl

get_map : {A B : Type 0} (f : A → B) → (xs : List A) (i : ℕ) → slice_get (map f xs) i ≡ option_map f (slice_get xs i)
get_map f [] i = refl
get_map f (x ∷ xs) zero = refl
get_map f (x ∷ xs) (suc i) = get_map f xs i

map_if : {A B : Type 0} (b : Bool) (f : A → B) (xs : List A) (i : ℕ) → cond b (slice_get (map f xs) i) None ≡ option_map f (cond b (slice_get xs i) None)
map_if true f xs i = get_map f xs i
map_if false f xs i = refl

by_id_map : {A B : Type 0} (f : A → B) (xs : List A) (p : ℕ) → by_id (map f xs) p ≡ option_map f (by_id xs p)
by_id_map f xs p = map_if (nat_lt 0 p) f xs (p - 1)

-- the oldest note of a proc, by the notes that stand for the state
pub note_as : (places : ℕ) (notes : List ProcNotes) (p : ℕ) (s : State) → NotesFor places notes s → next_note p s ≡ delivery (notes_of p notes).handlers (notes_of p notes).pending
note_as places notes p s h =
    note_in_as (by_id s.procs p) ∙ (ap delivery_in (sym (by_id_map noted s.procs p) ∙ (ap (λ (xs : List (List (ℕ × List ℕ) × List (List ℕ))). by_id xs p) h.procs ∙ by_id_map bare notes p)) ∙ sym (notes_in_as (by_id notes p)))

-- no proc but p has other notes, and p had one
less_noted : (later : List (List ℕ)) → (xs : List Proc) (i j : ℕ) → is_some (note_in (slice_get xs i)) ≡ true → is_some (note_in (slice_get (changed (with_pending later) xs i) j)) ≡ true → is_some (note_in (slice_get xs j)) ≡ true
less_noted later [] i j a h = h
less_noted later (x ∷ xs) zero zero a h = a
less_noted later (x ∷ xs) zero (suc j) a h = h
less_noted later (x ∷ xs) (suc i) zero a h = h
less_noted later (x ∷ xs) (suc i) (suc j) a h = less_noted later xs i j a h

less_if : (b c : Bool) (later : List (List ℕ)) (xs : List Proc) (i j : ℕ) → is_some (note_in (cond b (slice_get xs i) None)) ≡ true → is_some (note_in (cond c (slice_get (changed (with_pending later) xs i) j) None)) ≡ true → is_some (note_in (cond c (slice_get xs j) None)) ≡ true
less_if true true later xs i j a h = less_noted later xs i j a h
less_if true false later xs i j a h = h
less_if false c later xs i j a h = absurd (cc a)

-- a state stays sound when the oldest note of a proc is taken
sound_after : (setup : Setup) (s : State) (p : ℕ) (d : Delivery) → next_note p s ≡ Some d → IsSound setup s → IsSound setup (with_proc (with_pending d.pending) p s)
sound_after setup s p d e h = record {
  stand = h.stand;
  members = h.members;
  opened = h.opened;
  waits_right = h.waits_right;
  within = h.within;
  in_turn = h.in_turn;
  order = h.order;
  calls = h.calls;
  notes = λ q is. h.notes q (less_if (nat_lt 0 p) (nat_lt 0 q) d.pending s.procs (p - 1) (q - 1) (ap is_some e) is);
}

words_kept : (later : List (List ℕ)) → (xs : List Proc) (i : ℕ) → map (λ (p : Proc). p.word) (changed (with_pending later) xs i) ≡ map (λ (p : Proc). p.word) xs
words_kept later [] i = refl
words_kept later (x ∷ xs) zero = refl
words_kept later (x ∷ xs) (suc i) = ap (λ (ws : List ℕ). x.word ∷ ws) (words_kept later xs i)

-- the board without the oldest note of a proc
note_taken : (board : Board) (n : List ProcNotes) (s : State) (p : ℕ) (later : List (List ℕ)) → NotesFor board.setup.places n (with_proc (with_pending later) p s) → Stands board s → Stands (record board { notes = n }) (with_proc (with_pending later) p s)
note_taken board n s p later h st = record {
  sched = sched_stays board.setup.places board.sched s _ refl refl (words_kept later s.procs (p - 1)) refl refl st.sched;
  alts = alts_stay board.alts s _ refl refl st.alts;
  locks = locks_stay board.setup.rendezes board.locks s _ refl refl st.locks;
  io = io_stays board.io s _ refl st.io;
  notes = h;
  draws = st.draws;
  position = st.position;
  over = st.over;
}

-- what is told says what became of the note
not_quiet : (note : List ℕ) (o : Option ℕ) → fate.Quiet ≡ fate_of note o → ⊥
not_quiet note None h = cc h
not_quiet note (Some id) h = cc h

told_quiet : (o : Option Delivery) → fate.Quiet ≡ told o → o ≡ None
told_quiet None h = refl
told_quiet (Some d) h = absurd (not_quiet d.note d.caught_by h)

caught_by : (note : List ℕ) (id : ℕ) (o : Option ℕ) → fate.Caught id ≡ fate_of note o → o ≡ Some id
caught_by note id None h = absurd (cc h)
caught_by note id (Some i) h = cc

died_by : (dead note : List ℕ) (o : Option ℕ) → fate.Died dead ≡ fate_of note o → (o ≡ None) × (note ≡ dead)
died_by dead note None h = let e : note ≡ dead = cc in (refl, e)
died_by dead note (Some i) h = absurd (cc h)

changed_length : {A : Type 0} (f : A → A) → (xs : List A) (i : ℕ) → length (changed f xs i) ≡ length xs
changed_length f [] i = refl
changed_length f (x ∷ xs) zero = refl
changed_length f (x ∷ xs) (suc i) = ap suc (changed_length f xs i)

-- there are notes for as many procs as before
pub places_after : (f : ProcNotes → ProcNotes) (n old : List ProcNotes) (i k : ℕ) → n ≡ changed f old i → length old ≡ k → length n ≡ k
places_after f n old i k e h = ap (λ (xs : List ProcNotes). length xs) e ∙ (changed_length f old i ∙ h)

-- no note is pending
pub goes_on : (board new : Board) (s : State) (p : ℕ) (n : List ProcNotes) (r : Reply) → fate.Quiet ≡ told (next_note p s) → n ≡ board.notes → (Stands (record board { notes = n }) s → Gives s (turn_in p s) r new) → Stands board s → Gives s (note_first p s (next_note p s)) r new
goes_on board new s p n r quiet kept f st =
    let none : next_note p s ≡ None = told_quiet (next_note p s) quiet in
    let on = f (subst (λ (m : List ProcNotes). Stands (record board { notes = m }) s) (sym kept) st) in
    subst (λ (o : Option Delivery). Gives s (note_first p s o) r new) (sym none) on

-- the notes once the oldest of proc p was taken
abbrev pub IsAfter : Board → List ProcNotes → ℕ → State → Type 0
IsAfter board n p s = (d : Delivery) → next_note p s ≡ Some d → NotesFor board.setup.places n (with_proc (with_pending d.pending) p s)

caught_in : (board : Board) (s : State) (p : ℕ) (n : List ProcNotes) (id : ℕ) (o : Option Delivery) → next_note p s ≡ o → fate.Caught id ≡ told o → IsAfter board n p s → Stands board s → Gives s (note_first p s o) (reply.Caught id) (record board { notes = n })
caught_in board s p n id None e h after st = absurd (cc h)
caught_in board s p n id (Some d) e h after st =
    let by : d.caught_by ≡ Some id = caught_by d.note id d.caught_by h in
    rw by (record { reply_is = refl; stands = note_taken board n s p d.pending (after d e) st })

-- a handler catches it
pub caught : (board : Board) (s : State) (p : ℕ) (n : List ProcNotes) (id : ℕ) → fate.Caught id ≡ told (next_note p s) → IsAfter board n p s → Stands board s → Gives s (note_first p s (next_note p s)) (reply.Caught id) (record board { notes = n })
caught board s p n id h after st = caught_in board s p n id (next_note p s) refl h after st

-- what a sound state that the board stands for comes to, where all threads of proc p end by a note
abbrev pub Dies : Board → Setup → ℕ → List ℕ → Reply → Board → Type 0
Dies old setup p note r new = (t : State) → Stands old t → IsSound setup t → Gives t (replied (reply.Died note) (proc_ended p t)) r new

from_taken : (new : Board) (s t n : State) (dead : List ℕ) (r : Reply) → Gives t (replied (reply.Died dead) n) r new → Gives s (replied (reply.Died dead) n) r new
from_taken new s t n dead r g =
    let makes : makes_entry r ≡ true = ap makes_entry g.reply_is in
    moved new s (replied (reply.Died dead) n) r g.reply_is makes (subst (λ (b : Bool). Stands new (left b t n)) makes g.stands)

died_in : (board new : Board) (s : State) (p : ℕ) (n : List ProcNotes) (dead : List ℕ) (r : Reply) (o : Option Delivery) → next_note p s ≡ o → fate.Died dead ≡ told o → IsAfter board n p s → Dies (record board { notes = n }) board.setup p dead r new → Stands board s → IsSound board.setup s → Gives s (note_first p s o) r new
died_in board new s p n dead r None e h after dies st sound = absurd (cc h)
died_in board new s p n dead r (Some d) e h after dies st sound =
    let by = died_by dead d.note d.caught_by h in
    let t = with_proc (with_pending d.pending) p s in
    let g = dies t (note_taken board n s p d.pending (after d e) st) (sound_after board.setup s p d e sound) in
    rw (by.0, by.1) (from_taken new s t (proc_ended p t) dead r g)

-- no handler does
pub died : (board new : Board) (s : State) (p : ℕ) (n : List ProcNotes) (dead : List ℕ) (r : Reply) → fate.Died dead ≡ told (next_note p s) → IsAfter board n p s → Dies (record board { notes = n }) board.setup p dead r new → Stands board s → IsSound board.setup s → Gives s (note_first p s (next_note p s)) r new
died board new s p n dead r h after dies st sound = died_in board new s p n dead r (next_note p s) refl h after dies st sound
