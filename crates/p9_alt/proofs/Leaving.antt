-- A thread is looked for among those that wait.
use Rattle.std.proofs.Common.{◌≡◌, ℕ, zero, suc, ◌+◌, ◌<◌, ◌≤◌, Bool, true, false, not, cond, List, [], ◌∷◌, length, get_or, refl, arith, tests, Some, None}
use Rattle.std.specs.Prelude.{position}
use Rattle.std.specs.List.{find, position_or_len}
use Rattle.p9_manual.specs.Standing.{times}

-- where the first that passes stands at i, it is found
pub found_at : {A : Type 0} (p : A → Bool) (ws : List A) (i : ℕ) (d : A) → i < length ws → p (get_or ws i d) ≡ true → ((k : ℕ) → k < i → p (get_or ws k d) ≡ false) → find p ws ≡ Some (get_or ws i d)
found_at p [] i d lt on before = absurd (omega arith)
found_at p (w ∷ ws) zero d lt on before = rw on refl
found_at p (w ∷ ws) (suc i) d lt on before =
    let off : p w ≡ false = before 0 (omega arith) in
    rw off (found_at p ws i d (omega arith) on (λ k lt'. before (suc k) (omega arith)))

none_by : (b : Bool) (k n m : ℕ) → suc n ≤ cond (not b) (1 + m) 0 → (n ≤ m → k ≡ 0) → cond b 1 0 + k ≡ 0
none_by true k n m le f = absurd (omega arith)
none_by false k n m le f = let none = f (omega arith) in omega (arith, none)

none_at : {A : Type 0} (p : A → Bool) (ws : List A) → length ws ≤ position_or_len p ws → times p ws ≡ 0
none_at p [] le = refl
none_at p (w ∷ ws) le = none_by (p w) (times p ws) (length ws) (position_or_len p ws) le (none_at p ws)

past : {A : Type 0} (p : A → Bool) (ws : List A) → position p ws ≡ None → length ws ≤ position_or_len p ws
past p ws e = grind (arith, tests)

-- where no place is told, none passes
pub none_passes : {A : Type 0} (p : A → Bool) (ws : List A) → position p ws ≡ None → times p ws ≡ 0
none_passes p ws e = none_at p ws (past p ws e)
