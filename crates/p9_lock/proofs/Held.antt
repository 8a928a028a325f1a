-- An RWLock that is held otherwise, once and again.
use Rattle.std.proofs.Common.{◌≡◌, ℕ, zero, suc, ◌-◌, ◌≤◌, Bool, true, false, cond, List, [], ◌∷◌, ◌++◌, length, Option, Some, None, IsSome, refl, sym, ap, ◌∙◌, arith, append_assoc, rules}
use Rattle.std.proofs.lemmas.List.{append-nil}
use Rattle.std.specs.Prelude.{slice_get}
use Rattle.p9_manual.specs.declared.locks.LockWaiter.{LockWaiter}
use Rattle.p9_manual.specs.Holds.{RwHold}
use Rattle.p9_manual.specs.Claims.{rw_hold}
use Rattle.p9_manual.specs.Queues.{readers_in}
use Rattle.p9_manual.specs.State.{by_id, changed}
use Rattle.p9_lock.specs.Waiting.{held_so}
use Rattle.p9_lock.proofs.Places.{above_zero, by_id_get, is_above}
use Rattle.p9_lock.proofs.Queue.{writes, wants_to_read}

changed_get : {A : Type 0} (xs : List A) (n : ℕ) (y : A) → IsSome (slice_get xs n) → slice_get (changed (λ _. y) xs n) n ≡ Some y
changed_get [] n y h = absurd (cc h)
changed_get (x ∷ xs) zero y h = refl
changed_get (x ∷ xs) (suc n) y h = changed_get xs n y h

changed_twice : {A : Type 0} (xs : List A) (n : ℕ) (y z : A) → changed (λ _. y) (changed (λ _. z) xs n) n ≡ changed (λ _. y) xs n
changed_twice [] n y z = refl
changed_twice (x ∷ xs) zero y z = refl
changed_twice (x ∷ xs) (suc n) y z = ap (λ zs. x ∷ zs) (changed_twice xs n y z)

changed_same : {A : Type 0} (xs : List A) (n : ℕ) (y : A) → slice_get xs n ≡ Some y → changed (λ _. y) xs n ≡ xs
changed_same [] n y e = refl
changed_same (x ∷ xs) zero y e = ap (λ z. z ∷ xs) (same y x (sym e))
  where
    same : {A : Type 0} (x y : A) → Some x ≡ Some y → x ≡ y
    same x y e = cc
changed_same (x ∷ xs) (suc n) y e = ap (λ zs. x ∷ zs) (changed_same xs n y e)

pub held_get : (k : ℕ) (h : RwHold) (xs : List RwHold) → IsSome (by_id xs k) → by_id (held_so k h xs) k ≡ Some h
held_get zero h xs there = absurd (cc there)
held_get (suc k) h xs there = rw (above_zero k) (changed_get xs (suc k - 1) h (rw (above_zero k) at there))

pub held_twice : (k : ℕ) (h g : RwHold) (xs : List RwHold) → held_so k h (held_so k g xs) ≡ held_so k h xs
held_twice k h g xs = changed_twice xs (k - 1) h g

hold_is : (o : Option RwHold) → IsSome o → o ≡ Some (rw_hold o)
hold_is None h = absurd (cc h)
hold_is (Some x) h = refl

pub held_same : (k : ℕ) (xs : List RwHold) → IsSome (by_id xs k) → held_so k (rw_hold (by_id xs k)) xs ≡ xs
held_same k xs there =
    changed_same xs (k - 1) (rw_hold (by_id xs k)) (sym (by_id_get xs k (is_above xs k there)) ∙ hold_is (by_id xs k) there)

-- an RWLock that no writer holds, with so many more readers
abbrev pub read_by : ℕ → List ℕ → List RwHold → List RwHold
read_by k more xs = held_so k (record { writer = None; readers = (rw_hold (by_id xs k)).readers ++ more }) xs

read_again : (k : ℕ) (more : List ℕ) (g : RwHold) (xs : List RwHold) → IsSome (by_id xs k) → read_by k more (held_so k g xs) ≡ held_so k (record { writer = None; readers = g.readers ++ more }) xs
read_again k more g xs there =
    ap (λ (o : Option RwHold). held_so k (record { writer = None; readers = (rw_hold o).readers ++ more }) (held_so k g xs)) (held_get k g xs there) ∙ held_twice k (record { writer = None; readers = g.readers ++ more }) g xs

-- its writer gives it up
pub unwritten : (k : ℕ) (more : List ℕ) (xs : List RwHold) → IsSome (by_id xs k) → read_by k more (held_so k (record (rw_hold (by_id xs k)) { writer = None }) xs) ≡ read_by k more xs
unwritten k more xs there = read_again k more (record (rw_hold (by_id xs k)) { writer = None }) xs there

-- one of them has come in
pub one_more : (k t : ℕ) (more : List ℕ) (xs : List RwHold) → IsSome (by_id xs k) → read_by k more (held_so k (record (rw_hold (by_id xs k)) { readers = (rw_hold (by_id xs k)).readers ++ t ∷ [] }) xs) ≡ read_by k (t ∷ more) xs
one_more k t more xs there =
    read_again k more (record (rw_hold (by_id xs k)) { readers = (rw_hold (by_id xs k)).readers ++ t ∷ [] }) xs there ∙ ap (λ (rs : List ℕ). held_so k (record { writer = None; readers = rs }) xs) (append_assoc (rw_hold (by_id xs k)).readers (t ∷ []) more)

-- all are in
pub all_in : (k : ℕ) (xs : List RwHold) → IsSome (by_id xs k) → (rw_hold (by_id xs k)).writer ≡ None → xs ≡ read_by k [] xs
all_in k xs there none =
    sym (held_same k xs there) ∙ ap (λ h. held_so k h xs) (written (rw_hold (by_id xs k)) none)
  where
    written : (h : RwHold) → h.writer ≡ None → h ≡ record { writer = None; readers = h.readers ++ [] }
    written h e = rw (← e, append-nil) refl

pub held_there : (k : ℕ) (h : RwHold) (xs : List RwHold) → IsSome (by_id xs k) → IsSome (by_id (held_so k h xs) k)
held_there k h xs there = rw (held_get k h xs there) (search rules)

pub held_writer : (k : ℕ) (h : RwHold) (xs : List RwHold) → IsSome (by_id xs k) → (rw_hold (by_id (held_so k h xs) k)).writer ≡ h.writer
held_writer k h xs there = rw (held_get k h xs there) refl

few_by : (b c : Bool) (t n : ℕ) (r : List ℕ) → length r ≤ n → length (cond b [] (cond c (t ∷ r) r)) ≤ suc n
few_by true c t n r le = omega arith
few_by false true t n r le = omega arith
few_by false false t n r le = omega arith

-- there are no more readers than threads that wait
pub readers_few : (k : ℕ) (ws : List LockWaiter) → length (readers_in k ws) ≤ length ws
readers_few k [] = omega arith
readers_few k (w ∷ ws) = few_by (writes k w) (wants_to_read k w) w.tid (length ws) (readers_in k ws) (readers_few k ws)
