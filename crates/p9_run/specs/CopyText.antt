-- The text of a copy: six lines, in which the two paths are free.
use Rattle.std.specs.Prelude.{ℕ, ◌≡◌, ◌≢◌, ◌==◌, ◌||◌, ◌&&◌, Bool, List, [], ◌++◌, codes, nat_le}
use Rattle.std.specs.List.{AllPass}

-- ASCII letters, ASCII digits, `.`, `/` and `_`
abbrev pub is_path_byte : ℕ → Bool
is_path_byte b =
    (nat_le 65 b && nat_le b 90) || (nat_le 97 b && nat_le b 122) || (nat_le 48 b && nat_le b 57) || b == 46 || b == 47 || b == 95

-- one or more such bytes
pub record IsPath (path : List ℕ) : Type 0 where
  pub some : path ≢ []
  pub bytes : AllPass is_path_byte path

-- what follows the second path
abbrev pub copy_end : List ℕ
copy_end = codes "'\nchan a 0\nproc p\nthread r read i to a\nthread w write o from a\n"

-- the six lines, each ended by a newline; the two paths are their free parts
abbrev pub copy_lines : List ℕ → List ℕ → List ℕ
copy_lines from to = codes "file i in '" ++ from ++ codes "'\nfile o out '" ++ to ++ copy_end

-- the text copies the file `from` to the other file `to`
pub record IsCopyText (text from to : List ℕ) : Type 0 where
  pub lines : text ≡ copy_lines from to
  pub from_path : IsPath from
  pub to_path : IsPath to
  pub differ : from ≢ to

-- the text is no copy's
abbrev pub IsNoCopyText : List ℕ → Type 0
IsNoCopyText text = (from to : List ℕ) → ¬ (IsCopyText text from to)
