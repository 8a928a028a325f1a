-- The text of FILE, and when it is one that is run.
use Rattle.std.specs.Prelude.{ℕ, ◌≡◌, ◌+◌, ◌≤◌, List, length, take, Some, None, ⊤}
use Rattle.p9_word.specs.declared.limits.TheConstants.{MOST_TEXT_BYTES}
use Rattle.p9_outside.specs.Contents.{Told}
use Rattle.p9_run.specs.CopyText.{IsCopyText}

-- a text that is run: it is that of a copy, and isn't too long
pub record IsAccepted (text from to : List ℕ) : Type 0 where
  pub copy : IsCopyText text from to
  pub short : length text ≤ MOST_TEXT_BYTES

-- no copy's text, or one that is too long
abbrev pub IsRefused : List ℕ → Type 0
IsRefused text = (from to : List ℕ) → ¬ (IsAccepted text from to)

-- the path has this text, where contents are told
abbrev pub HasText : Told → List ℕ → List ℕ → Type 0
HasText None path text = ⊤
HasText (Some f) path text = f path ≡ Some text

-- these bytes are the text of the path, to its end or to one byte past the longest text
pub record IsReadFrom (told : Told) (path bytes : List ℕ) : Type 0 where
  pub text : List ℕ
  pub has : HasText told path text
  pub read : bytes ≡ take (MOST_TEXT_BYTES + 1) text

-- FILE has the text of a copy from one path to another
pub record IsCopyFile (told : Told) (file from to : List ℕ) : Type 0 where
  pub text : List ℕ
  pub has : HasText told file text
  pub accepted : IsAccepted text from to

-- FILE has another text
pub record IsOtherFile (told : Told) (file : List ℕ) : Type 0 where
  pub text : List ℕ
  pub has : HasText told file text
  pub other : IsRefused text
