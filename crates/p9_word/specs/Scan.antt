-- The words of a line, read from left to right. Behind the quote that ends a quoted word a blank or the line's end must
-- come: anything else there is a bad quote, and so is a quoted word without such a quote.
use Rattle.std.specs.Prelude.{◌≡◌, ◌==◌, ℕ, Bool, true, false, List, [], ◌∷◌, ◌++◌, Option, Some, None, Result, Ok, Err, if◌then◌else◌}
use Rattle.p9_word.specs.declared.words.Word.{Word}
use Rattle.p9_word.specs.declared.words.WordsFault.{WordsFault}
use Rattle.p9_word.specs.declared.words.WordsFault.TheVariants.{Memory, Quote}
use Rattle.p9_word.specs.declared.scanner.Mode.{Mode}
use Rattle.p9_word.specs.declared.scanner.Mode.TheVariants.{Between, Plain, Quoted, Closed}
use Rattle.p9_word.specs.declared.scanner.Scanner.{Scanner}
use Rattle.p9_word.specs.Words.{is_blank}

-- the words so far, where in the line it stands, and the word that has begun
pub record Scan : Type 0 where
  pub words : List Word
  pub mode : Mode
  pub current : List ℕ

-- what a scanner stands for
abbrev pub scan_state : Scanner → Scan
scan_state s = record { words = s.words.items; mode = s.mode; current = s.current.items }

-- before the first byte
abbrev pub start : Scan
start = record { words = []; mode = Between; current = [] }

-- the word ends
abbrev pub finished : Scan → Bool → Scan
finished s quoted = record { words = s.words ++ record { bytes = s.current; quoted = quoted } ∷ []; mode = Between; current = [] }

-- the word has one more byte
abbrev pub grown : Scan → Mode → ℕ → Scan
grown s mode b = record { words = s.words; mode = mode; current = s.current ++ b ∷ [] }

-- a quote that is no byte of the word, or the first of two that are one
abbrev pub moved : Scan → Mode → Scan
moved s mode = record { words = s.words; mode = mode; current = s.current }

-- after the next byte, by the mode; None at a bad quote
abbrev pub after_in : Mode → Scan → ℕ → Option Scan
after_in Between s b = if is_blank b then Some s else if b == 39 then Some (moved s Quoted) else Some (grown s Plain b)
after_in Plain s b = if is_blank b then Some (finished s false) else Some (grown s Plain b)
after_in Quoted s b = if b == 39 then Some (moved s Closed) else Some (grown s Quoted b)
after_in Closed s b = if b == 39 then Some (grown s Quoted b) else if is_blank b then Some (finished s true) else None

-- after the next byte
abbrev pub after : Scan → ℕ → Option Scan
after s b = after_in s.mode s b

-- the words at the line's end, by the mode; None at a bad quote
abbrev pub ending_in : Mode → Scan → Option (List Word)
ending_in Between s = Some s.words
ending_in Plain s = Some (finished s false).words
ending_in Quoted s = None
ending_in Closed s = Some (finished s true).words

-- the words at the line's end
abbrev pub ending : Scan → Option (List Word)
ending s = ending_in s.mode s

-- one step, and then another unless the first found a bad quote
infixl 10 ◌>>=◌
abbrev pub ◌>>=◌ : {A B : Type 0} → Option A → (A → Option B) → Option B
(Some x) >>= f = f x
None >>= f = None

-- the words, once the rest of the line is read
abbrev pub scan : Scan → List ℕ → Option (List Word)
scan s [] = ending s
scan s (b ∷ bs) = after s b >>= λ t. scan t bs

-- the words of a line; None where it has a bad quote
abbrev pub words_of : List ℕ → Option (List Word)
words_of line = scan start line

-- a fault tells a bad quote, and want of memory nothing
abbrev pub Fails : {Y : Type 0} → WordsFault → Option Y → Type 0
Fails Memory given = Unit {0}
Fails Quote given = given ≡ None

-- what a function returned, seen by view, is what is given, unless memory was wanted
abbrev pub Gives : {X Y : Type 0} → (X → Y) → Result X WordsFault → Option Y → Type 0
Gives view (Ok x) given = given ≡ Some (view x)
Gives view (Err fault) given = Fails fault given
