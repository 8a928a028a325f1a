-- The words of a line, as they are spelled: words stand between blanks. A word that begins with a single quote goes on to
-- the next single quote that isn't doubled. In any other word a quote stands for itself.
use Rattle.std.specs.Prelude.{◌≡◌, ◌≢◌, ◌==◌, ◌||◌, ℕ, Bool, true, false, not, List, [], ◌∷◌, ◌++◌, if◌then◌else◌}
use Rattle.std.specs.List.{list_all}
use Rattle.p9_word.specs.declared.words.Word.{Word}

-- a space or a tab
abbrev pub is_blank : ℕ → Bool
is_blank b = b == 32 || b == 9

-- any other byte
abbrev pub is_visible : ℕ → Bool
is_visible b = not (is_blank b)

-- each quote stands twice
abbrev pub doubled : List ℕ → List ℕ
doubled [] = []
doubled (b ∷ bs) = if b == 39 then 39 ∷ 39 ∷ doubled bs else b ∷ doubled bs

-- the bytes with each quote doubled, and a quote on each side
abbrev pub quote : List ℕ → List ℕ
quote bytes = 39 ∷ (doubled bytes ++ 39 ∷ [])

-- what can stand without quotes: one or more bytes, none of them blank, the first no quote
abbrev pub IsPlain : List ℕ → Type 0
IsPlain [] = ⊥
IsPlain (b ∷ bs) = (b ≢ 39) × (list_all is_visible (b ∷ bs) ≡ true)

-- text spells a word with these bytes, quoted or not
abbrev pub IsSpelled : Bool → List ℕ → List ℕ → Type 0
IsSpelled true bytes text = text ≡ quote bytes
IsSpelled false bytes text = (text ≡ bytes) × IsPlain bytes

-- a word can end here: at the line's end, or before a blank
abbrev pub IsEnd : List ℕ → Type 0
IsEnd [] = Unit {0}
IsEnd (b ∷ bs) = is_blank b ≡ true

-- the line is blanks, or none, then this word, and then a rest of which IsRest is true
pub record Begins (w : Word) (IsRest : List ℕ → Type 0) (line : List ℕ) : Type 0 where
  pub gap : List ℕ
  pub text : List ℕ
  pub rest : List ℕ
  pub parts : line ≡ gap ++ (text ++ rest)
  pub blank : list_all is_blank gap ≡ true
  pub spelled : IsSpelled w.quoted w.bytes text
  pub ended : IsEnd rest
  pub others : IsRest rest

-- the line is these words: blanks alone, or a word and a rest that is the other words
abbrev pub IsLine : List Word → List ℕ → Type 0
IsLine [] line = list_all is_blank line ≡ true
IsLine (w ∷ ws) line = Begins w (IsLine ws) line

-- the line is no words
abbrev pub IsUnspelled : List ℕ → Type 0
IsUnspelled line = (ws : List Word) → IsLine ws line → ⊥

-- the text of these bytes, quoted or not
abbrev pub spelled_as : Bool → List ℕ → List ℕ
spelled_as true bytes = quote bytes
spelled_as false bytes = bytes

-- the one text that spells the word
abbrev pub spelled : Word → List ℕ
spelled w = spelled_as w.quoted w.bytes

-- any bytes can be quoted
abbrev pub StandsAs : Bool → List ℕ → Type 0
StandsAs true bytes = Unit {0}
StandsAs false bytes = IsPlain bytes

-- some text spells the word
abbrev pub CanStand : Word → Type 0
CanStand w = StandsAs w.quoted w.bytes

-- the words with one space between two
abbrev pub joined : List Word → List ℕ
joined [] = []
joined (w ∷ []) = spelled w
joined (w ∷ v ∷ ws) = spelled w ++ 32 ∷ joined (v ∷ ws)
