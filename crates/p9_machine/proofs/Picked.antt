-- The first thread in the line of a proc is the one that is picked.
use Rattle.std.proofs.Common.{◌≡◌, ℕ, Bool, true, false, cond, List, [], ◌∷◌, Option, Some, None, refl}
use Rattle.std.specs.List.{filter}
use Rattle.p9_manual.specs.State.{pick, behind}

-- the first item that passes is the one that is picked
pub record FirstOf (p : ℕ → Bool) (t : ℕ) (line : List ℕ) : Type 0 where
  pub others : List ℕ
  pub picked : pick p line ≡ Some (t, others)

behind_first : (p : ℕ → Bool) (x t : ℕ) (line : List ℕ) → p x ≡ false → FirstOf p t line → FirstOf p t (x ∷ line)
behind_first p x t line off f = record { others = x ∷ f.others; picked = rw (off, f.picked) refl }

first_if : (b : Bool) (p : ℕ → Bool) (x t : ℕ) (rest line : List ℕ) → p x ≡ b → cond b (x ∷ filter p line) (filter p line) ≡ t ∷ rest → (filter p line ≡ t ∷ rest → FirstOf p t line) → FirstOf p t (x ∷ line)
first_if true p x t rest line e h more = let same : x ≡ t = cc in record { others = line; picked = rw (e, same) refl }
first_if false p x t rest line e h more = behind_first p x t line e (more h)

pub first_of : (p : ℕ → Bool) (t : ℕ) (rest : List ℕ) → (line : List ℕ) → filter p line ≡ t ∷ rest → FirstOf p t line
first_of p t rest [] h = absurd (cc h)
first_of p t rest (x ∷ line) h = first_if (p x) p x t rest line refl h (first_of p t rest line)

none_if : (b : Bool) (x : ℕ) (xs : List ℕ) (o : Option (ℕ × List ℕ)) (line : List ℕ) → cond b (x ∷ xs) xs ≡ [] → (xs ≡ [] → o ≡ None) → cond b (Some (x, line)) (behind x o) ≡ None
none_if true x xs o line h more = absurd (cc h)
none_if false x xs o line h more = rw (more h) refl

-- where none passes, none is picked
pub none_picked : (p : ℕ → Bool) → (line : List ℕ) → filter p line ≡ [] → pick p line ≡ None
none_picked p [] h = refl
none_picked p (x ∷ line) h = none_if (p x) x (filter p line) (pick p line) line h (none_picked p line)
