-- The first that passes, picked from a list.
use Rattle.std.proofs.Common.{◌≡◌, ℕ, zero, suc, ◌+◌, ◌<◌, ◌≤◌, Bool, true, false, not, cond, List, [], ◌∷◌, length, get_or, refl, ap, arith, tests, Option, Some, None}
use Rattle.std.specs.Prelude.{position, remove}
use Rattle.std.specs.List.{position_or_len}
use Rattle.std.specs.Option.{option_map}
use Rattle.p9_manual.specs.Notes.{has_id, removed}
use Rattle.p9_manual.specs.State.{behind, pick}

-- where the first that passes stands at i, it is picked, and the others stay
pub picked_at : {A : Type 0} (p : A → Bool) (xs : List A) (i : ℕ) (d : A) → i < length xs → p (get_or xs i d) ≡ true → ((k : ℕ) → k < i → p (get_or xs k d) ≡ false) → pick p xs ≡ Some (get_or xs i d, remove xs i)
picked_at p [] i d lt on before = absurd (omega arith)
picked_at p (x ∷ xs) zero d lt on before = rw on refl
picked_at p (x ∷ xs) (suc i) d lt on before =
    let off : p x ≡ false = before 0 (omega arith) in
    rw off (ap (behind x) (picked_at p xs i d (omega arith) on (λ k lt'. before (suc k) (omega arith))))

none_at : {A : Type 0} (p : A → Bool) (xs : List A) → length xs ≤ position_or_len p xs → pick p xs ≡ None
none_at p [] le = refl
none_at p (x ∷ xs) le = none_by (p x) x xs (pick p xs) (length xs) (position_or_len p xs) le (none_at p xs)
  where
    none_by : {A : Type 0} (b : Bool) (x : A) (xs : List A) (o : Option (A × List A)) (n m : ℕ) → suc n ≤ cond (not b) (1 + m) 0 → (n ≤ m → o ≡ None) → cond b (Some (x, xs)) (behind x o) ≡ None
    none_by true x xs o n m le k = absurd (omega arith)
    none_by false x xs o n m le k = ap (behind x) (k (omega arith))

past : {A : Type 0} (p : A → Bool) (xs : List A) → position p xs ≡ None → length xs ≤ position_or_len p xs
past p xs e = grind (arith, tests)

-- where none passes, none is picked
pub none_picked : {A : Type 0} (p : A → Bool) (xs : List A) → position p xs ≡ None → pick p xs ≡ None
none_picked p xs e = none_at p xs (past p xs e)

-- so it is removed
pub removed_at : (id : ℕ) (hs : List (ℕ × List ℕ)) (i : ℕ) (d : ℕ × List ℕ) → i < length hs → has_id id (get_or hs i d) ≡ true → ((k : ℕ) → k < i → has_id id (get_or hs k d) ≡ false) → removed id hs ≡ Some (remove hs i)
removed_at id hs i d lt on before = ap (option_map (λ found. found.1)) (picked_at (has_id id) hs i d lt on before)

-- where none has the id, none is
pub none_removed : (id : ℕ) (hs : List (ℕ × List ℕ)) → position (has_id id) hs ≡ None → removed id hs ≡ None
none_removed id hs e = ap (option_map (λ found. found.1)) (none_picked (has_id id) hs e)
