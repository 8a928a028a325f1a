-- The sorts of words that a statement is made of. Each is looked at in the order of its lines here, and the first thing that
-- is wrong decides.
use Rattle.std.specs.Prelude.{ℕ, ◌==◌, ◌&&◌, ◌||◌, Bool, not, List, [], ◌∷◌, ◌++◌, length, Option, Some, None, Result, Ok, Err, nat_le, nat_lt, bytes_eq, position, if◌then◌else◌}
use Rattle.std.specs.List.{list_all, list_any}
use Rattle.p9_word.specs.declared.limits.TheConstants.{MOST_NAME_BYTES}
use Rattle.p9_word.specs.declared.words.Word.{Word}
use Rattle.p9_word.specs.Numbers.{number_of}
use Rattle.p9_grammar.specs.declared.why.Why.{Why}
use Rattle.p9_grammar.specs.declared.why.Why.TheVariants as whys
use Rattle.p9_grammar.specs.Steps.{◌>>=◌, present}

-- the next word, which must be there, and the words after it
abbrev pub first : List Word → Result (Word × List Word) Why
first [] = Err whys.WordCount
first (w ∷ ws) = Ok (w, ws)

-- no word is left over
abbrev pub the_end : List Word → Result (Unit {0}) Why
the_end [] = Ok tt
the_end (w ∷ ws) = Err whys.WordCount

-- this word, not quoted
abbrev pub is_word : List ℕ → Word → Bool
is_word text w = not w.quoted && bytes_eq w.bytes text

-- ASCII letters, ASCII digits, `_` and `.`
abbrev pub is_name_byte : ℕ → Bool
is_name_byte b = (nat_le 65 b && nat_le b 90) || (nat_le 97 b && nat_le b 122) || (nat_le 48 b && nat_le b 57) || b == 95 || b == 46

-- 1 to 64 of them
abbrev pub is_name : List ℕ → Bool
is_name bytes = nat_le 1 (length bytes) && (nat_le (length bytes) MOST_NAME_BYTES && list_all is_name_byte bytes)

-- a NAME: it isn't quoted
unfoldable pub name_of : Word → Result (List ℕ) Why
name_of w = if w.quoted then Err whys.NotAName else if is_name w.bytes then Ok w.bytes else Err whys.NotAName

-- one name more, at the end: it isn't there yet, and fewer than most are
abbrev pub with_name : ℕ → List (List ℕ) → List ℕ → Result (List (List ℕ)) Why
with_name most names name =
    if list_any (λ n. bytes_eq name n) names then Err whys.Twice
    else if nat_lt (length names) most then Ok (names ++ name ∷ [])
    else Err whys.TooMany

-- a NAME that is new: these names and it
unfoldable pub new_name : ℕ → List (List ℕ) → Word → Result (List (List ℕ)) Why
new_name most names w = name_of w >>= with_name most names

-- where a name stands, counted from 0
abbrev pub place_of : List ℕ → List (List ℕ) → Option ℕ
place_of name names = position (λ n. bytes_eq name n) names

-- a NAME that an earlier line declares: its place among these
unfoldable pub known : List (List ℕ) → Word → Result ℕ Why
known names w = name_of w >>= λ name. present whys.NotDeclared (place_of name names)

-- the number is one of low to high
abbrev pub within : ℕ → ℕ → Option ℕ → Result ℕ Why
within low high None = Err whys.NotANumber
within low high (Some n) = if nat_lt n low || nat_lt high n then Err whys.OutOfRange else Ok n

-- a NUMBER from low to high: it isn't quoted
unfoldable pub number_in : ℕ → ℕ → Word → Result ℕ Why
number_in low high w = if w.quoted then Err whys.NotANumber else within low high (number_of w.bytes)
