-- The lines of a text, what a line may hold, and which lines say nothing.
use Rattle.std.specs.Prelude.{ℕ, ◌==◌, ◌&&◌, ◌||◌, Bool, true, false, not, List, [], ◌∷◌, nat_lt, if◌then◌else◌}
use Rattle.p9_word.specs.Words.{is_blank}

-- the first line begins with b too
abbrev pub begun : ℕ → List (List ℕ) → List (List ℕ)
begun b [] = (b ∷ []) ∷ []
begun b (l ∷ ls) = (b ∷ l) ∷ ls

-- lines ended by a newline, which the last may lack
abbrev pub lines_of : List ℕ → List (List ℕ)
lines_of [] = []
lines_of (b ∷ bs) = if b == 10 then [] ∷ lines_of bs else begun b (lines_of bs)

-- no byte below 32 other than tab, nor the byte 127
abbrev pub is_text : List ℕ → Bool
is_text [] = true
is_text (b ∷ bs) = if (nat_lt b 32 && not (b == 9)) || b == 127 then false else is_text bs

-- a line of blanks, or one whose first word begins with a `#`
abbrev pub is_skipped : List ℕ → Bool
is_skipped [] = true
is_skipped (b ∷ bs) = if is_blank b then is_skipped bs else b == 35
