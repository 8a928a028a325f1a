-- The head of an RWLock's queue, and the readers up to its first writer.
use Rattle.std.proofs.Common.{◌≡◌, inl, inr, ℕ, Bool, true, false, List, [], ◌∷◌, length, Option, Some, None, IfNone, refl, sym, ap, ◌∙◌, rules}
use Rattle.std.proofs.lemmas.Bool.{cases_Bool}
use Rattle.std.specs.List.{find}
use Rattle.std.specs.Option.{option_map, option_to_list}
use Rattle.p9_manual.specs.declared.locks.Sort.TheVariants as sort
use Rattle.p9_manual.specs.declared.locks.LockWait.TheVariants as wait
use Rattle.p9_manual.specs.declared.locks.LockWaiter.{LockWaiter}
use Rattle.p9_manual.specs.Queues.{waits_for, waits_at_rw, without_first, writer_first, readers_in, readers_left}

abbrev pub writes : ℕ → LockWaiter → Bool
writes k w = waits_for (wait.Lock sort.Write k) w

abbrev pub wants_to_read : ℕ → LockWaiter → Bool
wants_to_read k w = waits_for (wait.Lock sort.Read k) w

-- the writer at the head is the first that waits to write
pub writer_found : (k t : ℕ) (ws : List LockWaiter) → writer_first k ws ≡ Some t → option_map (λ w. w.tid) (find (writes k) ws) ≡ Some t
writer_found k t [] e = absurd (cc e)
writer_found k t (w ∷ ws) e =
    elim (cases_Bool (writes k w)) [
      | inl on ↦ elim (cases_Bool (wants_to_read k w)) [
        | inl r ↦ rw on (rw (r, on) at e)
        | inr r ↦ rw on (rw (r, on, on) at e)
      ]
      | inr off ↦ elim (cases_Bool (wants_to_read k w)) [
        | inl r ↦ absurd (cc (rw (r, off) at e))
        | inr r ↦ rw off (writer_found k t ws (rw (r, off) at e))
      ]
    ]

-- nobody is in the queue
pub none_in : (k : ℕ) (ws : List LockWaiter) → find (waits_at_rw k) ws ≡ None → readers_in k ws ≡ []
none_in k [] e = refl
none_in k (w ∷ ws) e =
    elim (cases_Bool (wants_to_read k w)) [
      | inl r ↦ absurd (cc (rw r at e))
      | inr r ↦ elim (cases_Bool (writes k w)) [
        | inl on ↦ rw on refl
        | inr off ↦ rw (off, r) (none_in k ws (rw (r, off) at e))
      ]
    ]

pub all_left : (k : ℕ) (ws : List LockWaiter) → find (waits_at_rw k) ws ≡ None → readers_left k ws ≡ ws
all_left k [] e = refl
all_left k (w ∷ ws) e =
    elim (cases_Bool (wants_to_read k w)) [
      | inl r ↦ absurd (cc (rw r at e))
      | inr r ↦ elim (cases_Bool (writes k w)) [
        | inl on ↦ rw on refl
        | inr off ↦ rw (off, r) (ap (λ (zs : List LockWaiter). w ∷ zs) (all_left k ws (rw (r, off) at e)))
      ]
    ]

pub same_some : {A : Type 0} (x y : A) → Some x ≡ Some y → x ≡ y
same_some x y e = cc

-- a writer is at its head
pub stopped_in : (k : ℕ) (h : LockWaiter) (ws : List LockWaiter) → find (waits_at_rw k) ws ≡ Some h → writes k h ≡ true → readers_in k ws ≡ []
stopped_in k h [] e is = refl
stopped_in k h (w ∷ ws) e is =
    elim (cases_Bool (writes k w)) [
      | inl on ↦ rw on refl
      | inr off ↦ elim (cases_Bool (wants_to_read k w)) [
        | inl r ↦ let same = same_some w h (rw r at e) in absurd (cc (sym off ∙ ap (writes k) same ∙ is))
        | inr r ↦ rw (off, r) (stopped_in k h ws (rw (r, off) at e) is)
      ]
    ]

pub stopped_left : (k : ℕ) (h : LockWaiter) (ws : List LockWaiter) → find (waits_at_rw k) ws ≡ Some h → writes k h ≡ true → readers_left k ws ≡ ws
stopped_left k h [] e is = refl
stopped_left k h (w ∷ ws) e is =
    elim (cases_Bool (writes k w)) [
      | inl on ↦ rw on refl
      | inr off ↦ elim (cases_Bool (wants_to_read k w)) [
        | inl r ↦ let same = same_some w h (rw r at e) in absurd (cc (sym off ∙ ap (writes k) same ∙ is))
        | inr r ↦ rw (off, r) (ap (λ (zs : List LockWaiter). w ∷ zs) (stopped_left k h ws (rw (r, off) at e) is))
      ]
    ]

-- a reader is at its head: it is the first that waits to read, and the others follow it
pub reader_found : (k : ℕ) (h : LockWaiter) (ws : List LockWaiter) → find (waits_at_rw k) ws ≡ Some h → writes k h ≡ false → find (wants_to_read k) ws ≡ Some h
reader_found k h [] e is = absurd (cc e)
reader_found k h (w ∷ ws) e is =
    elim (cases_Bool (wants_to_read k w)) [
      | inl r ↦ rw r (rw r at e)
      | inr r ↦ elim (cases_Bool (writes k w)) [
        | inl on ↦ let same = same_some w h (rw (r, on) at e) in absurd (cc (sym on ∙ ap (writes k) same ∙ is))
        | inr off ↦ rw r (reader_found k h ws (rw (r, off) at e) is)
      ]
    ]

pub reader_then : (k : ℕ) (h : LockWaiter) (ws : List LockWaiter) → find (waits_at_rw k) ws ≡ Some h → writes k h ≡ false → readers_in k ws ≡ h.tid ∷ readers_in k (without_first (wants_to_read k) ws)
reader_then k h [] e is = absurd (cc e)
reader_then k h (w ∷ ws) e is =
    elim (cases_Bool (writes k w)) [
      | inl on ↦ elim (cases_Bool (wants_to_read k w)) [
        | inl r ↦ let same = same_some w h (rw r at e) in absurd (cc (sym on ∙ ap (writes k) same ∙ is))
        | inr r ↦ let same = same_some w h (rw (r, on) at e) in absurd (cc (sym on ∙ ap (writes k) same ∙ is))
      ]
      | inr off ↦ elim (cases_Bool (wants_to_read k w)) [
        | inl r ↦ let same = same_some w h (rw r at e) in rw (off, r) (ap (λ (v : LockWaiter). v.tid ∷ readers_in k ws) same)
        | inr r ↦ rw (off, r, off, r) (reader_then k h ws (rw (r, off) at e) is)
      ]
    ]

pub reader_left : (k : ℕ) (h : LockWaiter) (ws : List LockWaiter) → find (waits_at_rw k) ws ≡ Some h → writes k h ≡ false → readers_left k (without_first (wants_to_read k) ws) ≡ readers_left k ws
reader_left k h [] e is = absurd (cc e)
reader_left k h (w ∷ ws) e is =
    elim (cases_Bool (writes k w)) [
      | inl on ↦ elim (cases_Bool (wants_to_read k w)) [
        | inl r ↦ let same = same_some w h (rw r at e) in absurd (cc (sym on ∙ ap (writes k) same ∙ is))
        | inr r ↦ let same = same_some w h (rw (r, on) at e) in absurd (cc (sym on ∙ ap (writes k) same ∙ is))
      ]
      | inr off ↦ elim (cases_Bool (wants_to_read k w)) [
        | inl r ↦ rw (off, r) refl
        | inr r ↦ rw (off, r, off, r) (ap (λ (zs : List LockWaiter). w ∷ zs) (reader_left k h ws (rw (r, off) at e) is))
      ]
    ]

-- one that is found is one
pub one_found : (o : Option LockWaiter) (t : ℕ) → option_map (λ w. w.tid) o ≡ Some t → length (option_to_list o) ≡ 1
one_found None t e = absurd (cc e)
one_found (Some w) t e = refl

pub at_none : {A P : Type 0} (o : Option A) → P → IfNone o P
at_none o h = search rules

pub not_none : {A P : Type 0} (x : A) → Some x ≡ None → P
not_none x e = absurd (cc e)
