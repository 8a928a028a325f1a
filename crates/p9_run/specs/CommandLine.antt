-- The words of the command line, after the program's name.
use Rattle.std.specs.Prelude.{ℕ, Bool, false, not, ◌==◌, ◌&&◌, List, [], ◌∷◌, Option, Some, None, codes, if◌then◌else◌}
use Rattle.std.specs.Str.{bytes_eq}

-- a word that begins with `-`
abbrev pub is_option : List ℕ → Bool
is_option [] = false
is_option (b ∷ bytes) = b == 45

-- FILE, where the words are `run FILE` and FILE begins with no `-`; all other words are no command
abbrev pub command : List (List ℕ) → Option (List ℕ)
command (word ∷ file ∷ []) = if bytes_eq word (codes "run") && not (is_option file) then Some file else None
command words = None
