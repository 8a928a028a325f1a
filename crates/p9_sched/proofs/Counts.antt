-- How often a test passes, and what moves do to that.
use Rattle.std.proofs.Common.{◌≡◌, ◌≢◌, ℕ, zero, suc, ◌+◌, ◌≤◌, Bool, true, false, not, cond, List, [], ◌∷◌, ◌++◌, length, map, Some, refl, sym, ◌∙◌, arith}
use Rattle.std.proofs.lemmas.Bool.{eqb-true, ne_eqb}
use Rattle.std.specs.Prelude.{◌==◌, slice_get}
use Rattle.p9_manual.specs.State.{changed}
use Rattle.p9_manual.specs.Standing.{times}
use Rattle.p9_sched.specs.Schedule.{without}
use Rattle.p9_sched.specs.Table.{one_if}

pub times-changed : {A : Type 0} (f : A → Bool) (g : A → A) → (xs : List A) (i : ℕ) (x : A) → slice_get xs i ≡ Some x → times f (changed g xs i) + one_if (f x) ≡ times f xs + one_if (f (g x))
times-changed f g [] i x e = cc
times-changed f g (y ∷ xs) zero x e =
    let same : y ≡ x = cc in
    rw same (omega arith)
times-changed f g (y ∷ xs) (suc i) x e = let h = times-changed f g xs i x e in omega arith

pub times-push : {A : Type 0} (f : A → Bool) → (xs : List A) (x : A) → times f (xs ++ x ∷ []) ≡ times f xs + one_if (f x)
times-push f [] x = omega arith
times-push f (y ∷ xs) x = let h = times-push f xs x in omega arith

one_or_none : (b : Bool) → one_if b ≤ 1
one_or_none true = omega arith
one_or_none false = omega arith

pub times-le_length : {A : Type 0} (f : A → Bool) → (xs : List A) → times f xs ≤ length xs
times-le_length f [] = omega arith
times-le_length f (x ∷ xs) = let b = one_or_none (f x) in let h = times-le_length f xs in omega arith

one_le : (a b : Bool) → (a ≡ true → b ≡ true) → one_if a ≤ one_if b
one_le true true h = omega arith
one_le true false h = let off : false ≡ true = h refl in cc
one_le false true h = omega arith
one_le false false h = omega arith

pub times-le : {A : Type 0} (f g : A → Bool) → ((x : A) → f x ≡ true → g x ≡ true) → (xs : List A) → times f xs ≤ times g xs
times-le f g h [] = omega arith
times-le f g h (x ∷ xs) = let a = one_le (f x) (g x) (h x) in let b = times-le f g h xs in omega arith

pub times-lt : {A : Type 0} (f g : A → Bool) → ((x : A) → f x ≡ true → g x ≡ true) → (xs : List A) (i : ℕ) (x : A) → slice_get xs i ≡ Some x → f x ≡ false → g x ≡ true → times f xs + 1 ≤ times g xs
times-lt f g h [] i x at off on = cc
times-lt f g h (y ∷ xs) zero x at off on =
    let same : y ≡ x = cc in
    let b = times-le f g h xs in
    rw (same, off, on) (omega arith)
times-lt f g h (y ∷ xs) (suc i) x at off on =
    let a = one_le (f y) (g y) (h y) in
    let b = times-lt f g h xs i x at off on in
    omega arith

pub times-none : {A B : Type 0} (f : B → Bool) (g : A → B) → ((x : A) → f (g x) ≡ false) → (xs : List A) → times f (map g xs) ≡ 0
times-none f g off [] = refl
times-none f g off (x ∷ xs) = rw (off x, times-none f g off xs) refl

pub times-map_same : {A : Type 0} (f : A → Bool) (g : A → A) → ((x : A) → f (g x) ≡ f x) → (xs : List A) → times f (map g xs) ≡ times f xs
times-map_same f g e [] = refl
times-map_same f g e (x ∷ xs) = rw (e x, times-map_same f g e xs) refl

without_step : (b : Bool) (x : ℕ) (r : List ℕ) (n m : ℕ) → length r + n ≡ m → length (cond (not b) (x ∷ r) r) + (cond b 1 0 + n) ≡ suc m
without_step true x r n m e = omega arith
without_step false x r n m e = omega arith

-- a line without t is shorter by as often as t stood there
pub length-without : (t : ℕ) (line : List ℕ) → length (without t line) + times (λ u. u == t) line ≡ length line
length-without t [] = refl
length-without t (x ∷ line) =
    without_step (x == t) x (without t line) (times (λ u. u == t) line) (length line) (length-without t line)

gone_step : (b : Bool) (t x : ℕ) (r : List ℕ) → (x == t) ≡ b → times (λ u. u == t) r ≡ 0 → times (λ u. u == t) (cond (not b) (x ∷ r) r) ≡ 0
gone_step true t x r e h = h
gone_step false t x r e h = rw (e, h) refl

pub times-without_same : (t : ℕ) (line : List ℕ) → times (λ u. u == t) (without t line) ≡ 0
times-without_same t [] = refl
times-without_same t (x ∷ line) = gone_step (x == t) t x (without t line) refl (times-without_same t line)

other_step : (b : Bool) (t v x : ℕ) (r : List ℕ) (n : ℕ) → v ≢ t → (x == t) ≡ b → times (λ u. u == v) r ≡ n → times (λ u. u == v) (cond (not b) (x ∷ r) r) ≡ cond (x == v) 1 0 + n
other_step true t v x r n ne e h =
    let same : x ≡ t = eqb-true x t e in
    let apart : x ≢ v = λ f. ne (sym f ∙ same) in
    rw (ne_eqb x v apart, h) (omega arith)
other_step false t v x r n ne e h = rw h refl

pub times-without_other : (t v : ℕ) (line : List ℕ) → v ≢ t → times (λ u. u == v) (without t line) ≡ times (λ u. u == v) line
times-without_other t v [] ne = refl
times-without_other t v (x ∷ line) ne =
    other_step (x == t) t v x (without t line) (times (λ u. u == v) line) ne refl (times-without_other t v line ne)

off_step : (b : Bool) (t x : ℕ) (line : List ℕ) → (cond b 1 0) + times (λ u. u == t) line ≡ 0 → (times (λ u. u == t) line ≡ 0 → without t line ≡ line) → cond (not b) (x ∷ without t line) (without t line) ≡ x ∷ line
off_step true t x line e h = absurd (omega arith)
off_step false t x line e h = let none : times (λ u. u == t) line ≡ 0 = omega arith in rw (h none) refl

-- a line in which t doesn't stand is the same without t
pub without-off : (t : ℕ) (line : List ℕ) → times (λ u. u == t) line ≡ 0 → without t line ≡ line
without-off t [] e = refl
without-off t (x ∷ line) e = off_step (x == t) t x line e (without-off t line)
