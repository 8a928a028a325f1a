-- The entries of files in memory.
use Rattle.std.proofs.Common.{◌≡◌, ◌≢◌, ℕ, List, [], ◌∷◌, Bool, true, false, refl, ◌∙◌, arith}
use Rattle.std.specs.Prelude.{Some, is_some, cond, bytes_eq}
use Rattle.std.proofs.lemmas.Slice.Eq.{bytes_eq-Decides}
use Rattle.p9_outside.specs.declared.memory.files.Held.{Held}
use Rattle.p9_outside.specs.MemoryFiles.{found, without, entry}

-- one entry more, which is that of the one path or isn't, and that of the other or isn't
step : (h : Held) (held less : List Held) (path p : List ℕ) (is : Bool) → bytes_eq h.path path ≡ is → p ≢ path → found less p ≡ found held p → found (cond is held (h ∷ less)) p ≡ found (h ∷ held) p
step h held less path p true e other on = grind (arith, bytes_eq-Decides)
step h held less path p false e other on = grind arith

-- without the entry of one path the others are found as before
pub found_without : (held : List Held) (path p : List ℕ) → p ≢ path → found (without held path) p ≡ found held p
found_without [] path p other = refl
found_without (h ∷ held) path p other = step h held (without held path) path p (bytes_eq h.path path) refl other (found_without held path p other)

-- the first entry is the path's
at : (path bytes : List ℕ) (held : List Held) → found (entry path bytes ∷ held) path ≡ Some bytes
at path bytes held = grind (arith, bytes_eq-Decides)

-- the first entry is not that of another path
beside : (path bytes p : List ℕ) (held : List Held) → p ≢ path → found (entry path bytes ∷ held) p ≡ found held p
beside path bytes p held other = grind (arith, bytes_eq-Decides)

-- a path's new entry in the place of its old one
pub puts : (old new : List Held) (path bytes : List ℕ) → new ≡ entry path bytes ∷ without old path → (found new path ≡ Some bytes) × ((p : List ℕ) → p ≢ path → found new p ≡ found old p)
puts old new path bytes is =
    (rw is (at path bytes (without old path)), λ p other. rw is (beside path bytes p (without old path) other) ∙ found_without old path p other)

other : (path p : List ℕ) → bytes_eq path p ≡ false → p ≢ path
other path p e same = grind (arith, bytes_eq-Decides)

found_at : (held : List Held) (path bytes p : List ℕ) (is : Bool) → bytes_eq path p ≡ is → is_some (found held p) ≡ true → is_some (cond is (Some bytes) (found (without held path) p)) ≡ true
found_at held path bytes p true e some = refl
found_at held path bytes p false e some = rw (found_without held path p (other path p e)) some

-- what was found is still found where a path gets new contents
pub found_still : (old new : List Held) (path bytes : List ℕ) → new ≡ entry path bytes ∷ without old path → (p : List ℕ) → is_some (found old p) ≡ true → is_some (found new p) ≡ true
found_still old new path bytes is p some = rw is (found_at old path bytes p (bytes_eq path p) refl some)
