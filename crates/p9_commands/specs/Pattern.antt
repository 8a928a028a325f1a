-- The bytes of files whose length alone is told.
use Rattle.std.specs.Prelude.{ℕ, zero, suc, ◌%◌, List, [], ◌∷◌, ◌++◌}

-- so many bytes: each is what is left of its place after the division by 251
abbrev pub pattern_of : ℕ → List ℕ
pattern_of zero = []
pattern_of (suc n) = pattern_of n ++ (n % 251) ∷ []
