-- The first that passes, taken out of a list.
use Rattle.std.proofs.Common.{◌≡◌, ℕ, zero, suc, ◌+◌, ◌<◌, ◌≤◌, Bool, true, false, not, cond, List, [], ◌∷◌, length, get_or, refl, ap, arith, tests, Option, Some, None}
use Rattle.std.specs.Prelude.{position, remove}
use Rattle.std.specs.List.{find, position_or_len}
use Rattle.p9_manual.specs.Queues.{without_first}

-- where the first that passes stands at i, it is found, and the others stay
pub found_at : {A : Type 0} (p : A → Bool) (ws : List A) (i : ℕ) (d : A) → i < length ws → p (get_or ws i d) ≡ true → ((k : ℕ) → k < i → p (get_or ws k d) ≡ false) → find p ws ≡ Some (get_or ws i d)
found_at p [] i d lt on before = absurd (omega arith)
found_at p (w ∷ ws) zero d lt on before = rw on refl
found_at p (w ∷ ws) (suc i) d lt on before =
    let off : p w ≡ false = before 0 (omega arith) in
    rw off (found_at p ws i d (omega arith) on (λ k lt'. before (suc k) (omega arith)))

pub removed_at : {A : Type 0} (p : A → Bool) (ws : List A) (i : ℕ) (d : A) → i < length ws → p (get_or ws i d) ≡ true → ((k : ℕ) → k < i → p (get_or ws k d) ≡ false) → remove ws i ≡ without_first p ws
removed_at p [] i d lt on before = absurd (omega arith)
removed_at p (w ∷ ws) zero d lt on before = rw on refl
removed_at p (w ∷ ws) (suc i) d lt on before =
    let off : p w ≡ false = before 0 (omega arith) in
    rw off (ap (λ (zs : List _). w ∷ zs) (removed_at p ws i d (omega arith) on (λ k lt'. before (suc k) (omega arith))))

-- where none passes, none is found, and all stay
none_at : {A : Type 0} (p : A → Bool) (ws : List A) → length ws ≤ position_or_len p ws → find p ws ≡ None
none_at p [] le = refl
none_at p (w ∷ ws) le = none_by (p w) w (find p ws) (length ws) (position_or_len p ws) le (none_at p ws)
  where
    none_by : {A : Type 0} (b : Bool) (w : A) (o : Option A) (n m : ℕ) → suc n ≤ cond (not b) (1 + m) 0 → (n ≤ m → o ≡ None) → cond b (Some w) o ≡ None
    none_by true w o n m le k = absurd (omega arith)
    none_by false w o n m le k = k (omega arith)

all_at : {A : Type 0} (p : A → Bool) (ws : List A) → length ws ≤ position_or_len p ws → without_first p ws ≡ ws
all_at p [] le = refl
all_at p (w ∷ ws) le = all_by (p w) w ws (without_first p ws) (length ws) (position_or_len p ws) le (all_at p ws)
  where
    all_by : {A : Type 0} (b : Bool) (w : A) (ws r : List A) (n m : ℕ) → suc n ≤ cond (not b) (1 + m) 0 → (n ≤ m → r ≡ ws) → cond b ws (w ∷ r) ≡ w ∷ ws
    all_by true w ws r n m le k = absurd (omega arith)
    all_by false w ws r n m le k = ap (λ (zs : List _). w ∷ zs) (k (omega arith))

past : {A : Type 0} (p : A → Bool) (ws : List A) → position p ws ≡ None → length ws ≤ position_or_len p ws
past p ws e = grind (arith, tests)

pub none_found : {A : Type 0} (p : A → Bool) (ws : List A) → position p ws ≡ None → find p ws ≡ None
none_found p ws e = none_at p ws (past p ws e)

pub all_stay : {A : Type 0} (p : A → Bool) (ws : List A) → position p ws ≡ None → without_first p ws ≡ ws
all_stay p ws e = all_at p ws (past p ws e)
