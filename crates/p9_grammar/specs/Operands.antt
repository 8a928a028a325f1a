-- What stands behind the word of an instruction.
use Rattle.std.specs.Prelude.{ℕ, ◌+◌, ◌-◌, ◌^◌, Bool, true, false, List, codes, Option, Some, Result, Ok, Err, if◌then◌else◌}
use Rattle.p9_word.specs.declared.words.Word.{Word}
use Rattle.p9_grammar.specs.declared.instr.Num.{Num}
use Rattle.p9_grammar.specs.declared.instr.Num.TheVariants as nums
use Rattle.p9_grammar.specs.declared.instr.Bytes.{Bytes}
use Rattle.p9_grammar.specs.declared.instr.Bytes.TheVariants as bytes
use Rattle.p9_grammar.specs.declared.instr.Instr.{Instr}
use Rattle.p9_grammar.specs.declared.why.Why.{Why}
use Rattle.p9_grammar.specs.declared.why.Why.TheVariants as whys
use Rattle.p9_grammar.specs.Steps.{◌>>=◌}
use Rattle.p9_grammar.specs.Sorts.{first, the_end, is_word, known, number_in}

-- `$` where it isn't quoted
abbrev pub is_dollar : Word → Bool
is_dollar w = is_word (codes "$") w

-- a NAME that is one of these, or `$`: things are counted from 1
unfoldable pub named : List (List ℕ) → Word → Result Num Why
named names w = if is_dollar w then Ok nums.Dollar else (known names w >>= λ place. Ok (nums.Fixed (place + 1)))

-- a NUMBER that a u32 holds, or `$`
unfoldable pub small : Word → Result Num Why
small w = if is_dollar w then Ok nums.Dollar else (number_in 0 (2 ^ 32 - 1) w >>= λ n. Ok (nums.Fixed n))

-- a NUMBER, or `$`
unfoldable pub wide : Word → Result Num Why
wide w = if is_dollar w then Ok nums.Dollar else (number_in 0 (2 ^ 64 - 1) w >>= λ n. Ok (nums.Fixed n))

-- a TEXT, or `$`
unfoldable pub text : Word → Result Bytes Why
text w = if is_dollar w then Ok bytes.Dollar else Ok (bytes.Fixed w.bytes)

-- `on` or `off`: whether it is `on`
unfoldable pub switch : Word → Result Bool Why
switch w = if is_word (codes "on") w then Ok true else if is_word (codes "off") w then Ok false else Err whys.UnknownInstruction

-- one operand, and no word more
unfoldable pub one : {A : Type 0} → (Word → Result A Why) → List Word → Result A Why
one a ws = do
  w ← first ws
  x ← a w.0
  _ ← the_end w.1
  Ok x

-- two operands, and no word more
unfoldable pub two : {A B : Type 0} → (Word → Result A Why) → (Word → Result B Why) → List Word → Result (A × B) Why
two a b ws = do
  w ← first ws
  x ← a w.0
  y ← one b w.1
  Ok (x, y)

-- three operands, and no word more
unfoldable pub three : {A B C : Type 0} → (Word → Result A Why) → (Word → Result B Why) → (Word → Result C Why) → List Word → Result (A × B × C) Why
three a b c ws = do
  w ← first ws
  x ← a w.0
  y ← two b c w.1
  Ok (x, y.0, y.1)

-- the instruction with these operands
abbrev pub made : {A : Type 0} → (A → Instr) → Result A Why → Result (Option Instr) Why
made make operands = operands >>= λ x. Ok (Some (make x))

-- the instruction without operands
abbrev pub bare : Instr → List Word → Result (Option Instr) Why
bare i ws = the_end ws >>= λ _. Ok (Some i)
