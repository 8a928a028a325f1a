-- The stages: their words, their arguments, and how many channels each has.
use Rattle.std.specs.Prelude.{ℕ, ◌+◌, ◌==◌, Bool, true, false, List, [], ◌∷◌, ◌++◌, codes, Option, Some, None, Result, Ok, Err, slice_get, if◌then◌else◌}
use Rattle.std.specs.List.{list_any}
use Rattle.p9_word.specs.declared.limits.TheConstants.{MOST_ELEMENT_BYTES}
use Rattle.p9_word.specs.declared.words.Word.{Word}
use Rattle.p9_grammar.specs.declared.limits.TheConstants.{MOST_TURNS, MOST_FIELD}
use Rattle.p9_grammar.specs.declared.kind.Kind.{Kind}
use Rattle.p9_grammar.specs.declared.kind.Kind.TheVariants as kinds
use Rattle.p9_grammar.specs.declared.why.Why.{Why}
use Rattle.p9_grammar.specs.declared.why.Why.TheVariants as whys
use Rattle.p9_grammar.specs.Steps.{◌>>=◌, present}
use Rattle.p9_grammar.specs.Sorts.{first, is_word, known, number_in}
use Rattle.p9_grammar.specs.Draft.{Files}
use Rattle.p9_grammar.specs.Decls.{differ}

-- how many channels a stage receives on
abbrev pub ins_of : Kind → ℕ
ins_of (kinds.Read file) = 0
ins_of kinds.Cat = 2
ins_of kinds.Zip = 2
ins_of kinds.Merge = 2
ins_of (kinds.Write file) = 1
ins_of kinds.Lines = 1
ins_of (kinds.Blocks n) = 1
ins_of (kinds.Keep text) = 1
ins_of (kinds.Drop text) = 1
ins_of kinds.Number = 1
ins_of kinds.Count = 1
ins_of (kinds.First n) = 1
ins_of (kinds.Last n) = 1
ins_of kinds.Uniq = 1
ins_of (kinds.Field n) = 1
ins_of kinds.Reverse = 1
ins_of kinds.Sort = 1
ins_of kinds.Tee = 1
ins_of kinds.Deal = 1

-- how many channels a stage sends on
abbrev pub outs_of : Kind → ℕ
outs_of (kinds.Write file) = 0
outs_of kinds.Tee = 2
outs_of kinds.Deal = 2
outs_of (kinds.Read file) = 1
outs_of kinds.Lines = 1
outs_of (kinds.Blocks n) = 1
outs_of (kinds.Keep text) = 1
outs_of (kinds.Drop text) = 1
outs_of kinds.Number = 1
outs_of kinds.Count = 1
outs_of (kinds.First n) = 1
outs_of (kinds.Last n) = 1
outs_of kinds.Uniq = 1
outs_of (kinds.Field n) = 1
outs_of kinds.Reverse = 1
outs_of kinds.Sort = 1
outs_of kinds.Cat = 1
outs_of kinds.Zip = 1
outs_of kinds.Merge = 1

-- a file has the direction that the stage wants
abbrev pub directed : Bool → Bool → Result (Unit {0}) Why
directed out is_out = if differ out is_out then Err whys.WrongDirection else Ok tt

-- a NAME of a file of this direction that no stage uses yet: its number, the files with it used, and the words left
unfoldable pub file_argument : Bool → Files → List Word → Result (ℕ × Files × List Word) Why
file_argument out f ws = do
  w ← first ws
  place ← known f.names w.0
  decl ← present whys.NotDeclared (slice_get f.decls place)
  _ ← directed out decl.out
  if list_any (λ k. k == place) f.used then Err whys.UsedTwice else Ok (place + 1, record f { used = f.used ++ place ∷ [] }, w.1)

-- a NUMBER from low to high, and the words left
unfoldable pub number_argument : ℕ → ℕ → List Word → Result (ℕ × List Word) Why
number_argument low high ws = do
  w ← first ws
  n ← number_in low high w.0
  Ok (n, w.1)

-- a stage that has a file: its word decides which way
abbrev pub file_kind : Word → Files → List Word → Result (Option (Kind × Files × List Word)) Why
file_kind w f ws =
    if is_word (codes "read") w then (file_argument false f ws >>= λ x. Ok (Some (kinds.Read x.0, x.1, x.2)))
    else if is_word (codes "write") w then (file_argument true f ws >>= λ x. Ok (Some (kinds.Write x.0, x.1, x.2)))
    else Ok None

-- a stage that has a number or a text
abbrev pub argument_kind : Word → List Word → Result (Option (Kind × List Word)) Why
argument_kind w ws =
    if is_word (codes "blocks") w then (number_argument 1 MOST_ELEMENT_BYTES ws >>= λ x. Ok (Some (kinds.Blocks x.0, x.1)))
    else if is_word (codes "keep") w then (first ws >>= λ x. Ok (Some (kinds.Keep x.0.bytes, x.1)))
    else if is_word (codes "drop") w then (first ws >>= λ x. Ok (Some (kinds.Drop x.0.bytes, x.1)))
    else if is_word (codes "first") w then (number_argument 0 MOST_TURNS ws >>= λ x. Ok (Some (kinds.First x.0, x.1)))
    else if is_word (codes "last") w then (number_argument 0 MOST_TURNS ws >>= λ x. Ok (Some (kinds.Last x.0, x.1)))
    else if is_word (codes "field") w then (number_argument 1 MOST_FIELD ws >>= λ x. Ok (Some (kinds.Field x.0, x.1)))
    else Ok None

-- a stage that has no argument
abbrev pub bare_kind : Word → Option Kind
bare_kind w =
    if is_word (codes "lines") w then Some kinds.Lines
    else if is_word (codes "number") w then Some kinds.Number
    else if is_word (codes "count") w then Some kinds.Count
    else if is_word (codes "uniq") w then Some kinds.Uniq
    else if is_word (codes "reverse") w then Some kinds.Reverse
    else if is_word (codes "sort") w then Some kinds.Sort
    else if is_word (codes "tee") w then Some kinds.Tee
    else if is_word (codes "cat") w then Some kinds.Cat
    else if is_word (codes "zip") w then Some kinds.Zip
    else if is_word (codes "deal") w then Some kinds.Deal
    else if is_word (codes "merge") w then Some kinds.Merge
    else None

-- one of the stages without a file, and the words behind its argument
abbrev pub plain_kind : Option (Kind × List Word) → Word → List Word → Result (Kind × List Word) Why
plain_kind (Some found) w ws = Ok found
plain_kind None w ws = present whys.UnknownStage (bare_kind w) >>= λ kind. Ok (kind, ws)

abbrev pub other_kind : Option (Kind × Files × List Word) → Word → Files → List Word → Result (Kind × Files × List Word) Why
other_kind (Some found) w f ws = Ok found
other_kind None w f ws = do
  found ← argument_kind w ws
  kind ← plain_kind found w ws
  Ok (kind.0, f, kind.1)

-- KIND ARGS: the stage, the files with its file used, and the words left
unfoldable pub kind_of : Word → Files → List Word → Result (Kind × Files × List Word) Why
kind_of w f ws = file_kind w f ws >>= λ found. other_kind found w f ws
