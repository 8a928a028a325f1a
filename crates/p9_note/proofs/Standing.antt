-- What a change of one item does to two lists that stand for each other, and what is read of both.
use Rattle.std.proofs.Common.{◌≡◌, ℕ, zero, suc, ◌-◌, ◌<◌, ◌≤◌, Bool, true, List, [], ◌∷◌, map, length, get_or, Option, Some, None, refl, sym, ap, ◌∙◌, arith, tests, rules, subst, Result, Ok, Err, OnOk, OnErr}
use Rattle.std.specs.Prelude.{slice_get, nat_lt}
use Rattle.std.specs.List.{list_any}
use Rattle.p9_manual.specs.Ends.{with_no_note}
use Rattle.p9_manual.specs.NoteCalls.{handlers_set, has_note, next_note, note_in, noted, notify_in, with_handlers, with_note, with_pending, with_proc}
use Rattle.p9_manual.specs.Notes.{Delivery, delivery, notified}
use Rattle.p9_manual.specs.State.{Proc, State, by_id, changed}
use Rattle.p9_note.specs.For.{NotesFor, Tracks, bare}
use Rattle.p9_note.specs.ProcNotes.{ProcNotes, after_delivery, after_notify, after_post, cleared, delivered, is_pending, notes_in, notes_of, told, with_room}

-- an item and its like become likes
changed_likes : {A B C : Type 0} (h : A → C) (k : B → C) (f : A → A) (g : B → B) → (xs : List A) (ys : List B) (i : ℕ) → ((x : A) (y : B) → slice_get xs i ≡ Some x → h x ≡ k y → h (f x) ≡ k (g y)) → map h xs ≡ map k ys → map h (changed f xs i) ≡ map k (changed g ys i)
changed_likes h k f g [] [] i step e = refl
changed_likes h k f g [] (y ∷ ys) i step e = cc
changed_likes h k f g (x ∷ xs) [] i step e = cc
changed_likes h k f g (x ∷ xs) (y ∷ ys) zero step e =
    let like : h x ≡ k y = cc in
    let made = step x y refl like in
    let rest : map h xs ≡ map k ys = cc in
    cc
changed_likes h k f g (x ∷ xs) (y ∷ ys) (suc i) step e =
    let like : h x ≡ k y = cc in
    let rest : map h xs ≡ map k ys = cc in
    let made = changed_likes h k f g xs ys i (λ x' y' at. step x' y' at) rest in
    cc

handlers_like : (x : Proc) (y : ProcNotes) → noted x ≡ bare y → x.handlers ≡ y.handlers
handlers_like x y e = ap (λ (z : List (ℕ × List ℕ) × List (List ℕ)). z.0) e

pending_like : (x : Proc) (y : ProcNotes) → noted x ≡ bare y → x.pending ≡ y.pending
pending_like x y e = ap (λ (z : List (ℕ × List ℕ) × List (List ℕ)). z.1) e

changed_by_nothing : {A : Type 0} (xs : List A) (i : ℕ) → changed (λ x. x) xs i ≡ xs
changed_by_nothing [] i = refl
changed_by_nothing (x ∷ xs) zero = refl
changed_by_nothing (x ∷ xs) (suc i) = ap (λ zs. x ∷ zs) (changed_by_nothing xs i)

changed_length : {A : Type 0} (f : A → A) → (xs : List A) (i : ℕ) → length (changed f xs i) ≡ length xs
changed_length f [] i = refl
changed_length f (x ∷ xs) zero = refl
changed_length f (x ∷ xs) (suc i) = ap suc (changed_length f xs i)

-- proc p and its notes become likes
changed_for : (f : Proc → Proc) (g : ProcNotes → ProcNotes) → (p : ℕ) (old : List ProcNotes) (places : ℕ) (s : State) → ((x : Proc) (y : ProcNotes) → slice_get s.procs (p - 1) ≡ Some x → noted x ≡ bare y → noted (f x) ≡ bare (g y)) → NotesFor places old s → NotesFor places (changed g old (p - 1)) (with_proc f p s)
changed_for f g p old places s step n =
    record {
      procs = changed_likes noted bare f g s.procs old (p - 1) step n.procs;
      count = changed_length g old (p - 1) ∙ n.count;
    }

-- notes of proc p become likes of what it was
kept_for : (g : ProcNotes → ProcNotes) → (p : ℕ) (old : List ProcNotes) (places : ℕ) (s : State) → ((x : Proc) (y : ProcNotes) → slice_get s.procs (p - 1) ≡ Some x → noted x ≡ bare y → noted x ≡ bare (g y)) → NotesFor places old s → NotesFor places (changed g old (p - 1)) s
kept_for g p old places s step n =
    record {
      procs = ap (map noted) (sym (changed_by_nothing s.procs (p - 1))) ∙ changed_likes noted bare (λ x. x) g s.procs old (p - 1) step n.procs;
      count = changed_length g old (p - 1) ∙ n.count;
    }

room_stands : (p : ℕ) (old : List ProcNotes) → Tracks (λ s. s) old (changed with_room old (p - 1))
room_stands p old places s n = kept_for with_room p old places s (λ x y at e. e) n

pub post_stands : (note : List ℕ) (p : ℕ) (old : List ProcNotes) → Tracks (with_proc (with_note note) p) old (changed (after_post note) old (p - 1))
post_stands note p old places s n = changed_for (with_note note) (after_post note) p old places s (λ x y at e. let same_handlers = handlers_like x y e in let same_pending = pending_like x y e in cc) n

pub clear_stands : (p : ℕ) (old : List ProcNotes) → Tracks (with_proc with_no_note p) old (changed cleared old (p - 1))
clear_stands p old places s n = changed_for with_no_note cleared p old places s (λ x y at e. let same_handlers = handlers_like x y e in let same_pending = pending_like x y e in cc) n

by_id_is : {A : Type 0} (xs : List A) (p : ℕ) → 1 ≤ p → by_id xs p ≡ slice_get xs (p - 1)
by_id_is xs zero h = absurd (omega arith)
by_id_is xs (suc p) h = let b : nat_lt 0 (suc p) ≡ true = search (rules, tests) in rw b refl

-- the handlers of a proc, changed or as before
set_stands : (p : ℕ) (on : Bool) (id : ℕ) (prefix : List ℕ) (old : List ProcNotes) (places : ℕ) (s : State) (proc : Proc) → slice_get s.procs (p - 1) ≡ Some proc → (o : Option (List (ℕ × List ℕ))) → notified on id prefix proc.handlers ≡ o → NotesFor places old s → NotesFor places (changed (after_notify on id prefix) old (p - 1)) (handlers_set p o s).state
set_stands p on id prefix old places s proc at None was n =
    kept_for (after_notify on id prefix) p old places s (λ x y here e. refused x y here e) n
  where
    refused : (x : Proc) (y : ProcNotes) → slice_get s.procs (p - 1) ≡ Some x → noted x ≡ bare y → noted x ≡ bare (after_notify on id prefix y)
    refused x y here e =
        let same_handlers = handlers_like x y e in
        let none : notified on id prefix y.handlers ≡ None = cc in
        rw none e
set_stands p on id prefix old places s proc at (Some hs) was n =
    changed_for (with_handlers hs) (after_notify on id prefix) p old places s (λ x y here e. done x y here e) n
  where
    done : (x : Proc) (y : ProcNotes) → slice_get s.procs (p - 1) ≡ Some x → noted x ≡ bare y → noted (with_handlers hs x) ≡ bare (after_notify on id prefix y)
    done x y here e =
        let same_handlers = handlers_like x y e in
        let same_pending = pending_like x y e in
        let some : notified on id prefix y.handlers ≡ Some hs = cc in
        rw some cc

notified_stands : (p : ℕ) (on : Bool) (id : ℕ) (prefix : List ℕ) (old : List ProcNotes) (places : ℕ) (s : State) (o : Option Proc) → slice_get s.procs (p - 1) ≡ o → NotesFor places old s → NotesFor places (changed (after_notify on id prefix) old (p - 1)) (notify_in p on id prefix s o).state
notified_stands p on id prefix old places s None at n = kept_for (after_notify on id prefix) p old places s (λ x y here e. cc) n
notified_stands p on id prefix old places s (Some proc) at n = set_stands p on id prefix old places s proc at (notified on id prefix proc.handlers) refl n

pub notify_stands : (p : ℕ) (on : Bool) (id : ℕ) (prefix : List ℕ) (old : List ProcNotes) → 1 ≤ p → Tracks (λ s. (notify_in p on id prefix s (by_id s.procs p)).state) old (changed (after_notify on id prefix) old (p - 1))
notify_stands p on id prefix old one places s n =
    notified_stands p on id prefix old places s (by_id s.procs p) (sym (by_id_is s.procs p one)) n

next_told : (xs : List Proc) (ys : List ProcNotes) (i : ℕ) → map noted xs ≡ map bare ys → delivered (notes_in (slice_get ys i)) ≡ told (note_in (slice_get xs i))
next_told [] [] i e = refl
next_told [] (y ∷ ys) i e = cc
next_told (x ∷ xs) [] i e = cc
next_told (x ∷ xs) (y ∷ ys) zero e =
    let like : noted x ≡ bare y = cc in
    let same_handlers = handlers_like x y like in
    let same_pending = pending_like x y like in
    cc
next_told (x ∷ xs) (y ∷ ys) (suc i) e = next_told xs ys i cc

-- what is told of the notes is what is told of the state
next_told_for : (p : ℕ) (old : List ProcNotes) (places : ℕ) (s : State) → 1 ≤ p → NotesFor places old s → delivered (notes_of p old) ≡ told (next_note p s)
next_told_for p old places s one n =
    ap (λ o. delivered (notes_in o)) (by_id_is old p one)
    ∙ (next_told s.procs old (p - 1) n.procs ∙ ap (λ o. told (note_in o)) (sym (by_id_is s.procs p one)))

delivered_stands : (p : ℕ) (old : List ProcNotes) (places : ℕ) (s : State) (d : Delivery) (o : Option Proc) → slice_get s.procs (p - 1) ≡ o → NotesFor places old s → note_in o ≡ Some d → NotesFor places (changed after_delivery old (p - 1)) (with_proc (with_pending d.pending) p s)
delivered_stands p old places s d None at n e = absurd cc
delivered_stands p old places s d (Some proc) at n e =
    changed_for (with_pending d.pending) after_delivery p old places s (λ x y here like. made x y here like) n
  where
    made : (x : Proc) (y : ProcNotes) → slice_get s.procs (p - 1) ≡ Some x → noted x ≡ bare y → noted (with_pending d.pending x) ≡ bare (after_delivery y)
    made x y here like =
        let same_handlers = handlers_like x y like in
        let same_pending = pending_like x y like in
        let next : delivery y.handlers y.pending ≡ Some d = cc in
        rw next cc

notes_got : (xs : List ProcNotes) (i : ℕ) (d : ProcNotes) → i < length xs → get_or xs i d ≡ notes_in (slice_get xs i)
notes_got [] i d lt = absurd (omega arith)
notes_got (x ∷ xs) zero d lt = refl
notes_got (x ∷ xs) (suc i) d lt = notes_got xs i d (omega arith)

-- what is told of the notes that stand at p
pub told_at : (p : ℕ) (x : ProcNotes) (xs old : List ProcNotes) (places : ℕ) (s : State) → xs ≡ old → 1 ≤ p → p ≤ length old → x ≡ get_or xs (p - 1) x → NotesFor places old s → delivered x ≡ told (next_note p s)
told_at p x xs old places s e one le at n =
    let lt : p - 1 < length xs = omega (arith, ap length e) in
    ap delivered (at ∙ (notes_got xs (p - 1) x lt ∙ (ap (λ zs. notes_in (slice_get zs (p - 1))) e ∙ ap notes_in (sym (by_id_is old p one)))))
    ∙ next_told_for p old places s one n

-- the oldest note is pending no more
pub deliver_stands : (p : ℕ) (old : List ProcNotes) (places : ℕ) (s : State) (d : Delivery) → 1 ≤ p → NotesFor places old s → next_note p s ≡ Some d → NotesFor places (changed after_delivery old (p - 1)) (with_proc (with_pending d.pending) p s)
deliver_stands p old places s d one n e =
    delivered_stands p old places s d (by_id s.procs p) (sym (by_id_is s.procs p one)) n e

-- a note is pending in both, or in none
pub any_pending : (xs : List Proc) (ys : List ProcNotes) → map noted xs ≡ map bare ys → list_any is_pending ys ≡ list_any has_note xs
any_pending [] [] e = refl
any_pending [] (y ∷ ys) e = cc
any_pending (x ∷ xs) [] e = cc
any_pending (x ∷ xs) (y ∷ ys) e =
    let like : noted x ≡ bare y = cc in
    let same_handlers = handlers_like x y like in
    let same_pending = pending_like x y like in
    let rest = any_pending xs ys cc in
    cc

-- the same, for notes that are equal to these
pub tracked : (f : State → State) (old new other : List ProcNotes) → other ≡ new → Tracks f old new → Tracks f old other
tracked f old new other e h = subst (λ zs. Tracks f old zs) (sym e) h

-- so it is where the memory is taken, and where it is refused
pub reserve_stands : {T E : Type 0} (r : Result T E) (p : ℕ) (old new : List ProcNotes) → OnOk r (new ≡ changed with_room old (p - 1)) → OnErr r (new ≡ old) → Tracks (λ s. s) old new
reserve_stands (Ok v) p old new ok err = tracked (λ s. s) old (changed with_room old (p - 1)) new ok (room_stands p old)
reserve_stands (Err v) p old new ok err = tracked (λ s. s) old old new err (λ places s n. n)
