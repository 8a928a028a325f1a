-- The channels of a stage: the list after `from`, and the list after `to`.
use Rattle.std.specs.Prelude.{ℕ, ◌+◌, ◌==◌, Bool, true, false, List, [], ◌∷◌, ◌++◌, length, codes, Result, Ok, Err, nat_lt, slice_get, slice_set, if◌then◌else◌}
use Rattle.p9_word.specs.declared.words.Word.{Word}
use Rattle.p9_grammar.specs.declared.ends.ChanEnds.{ChanEnds}
use Rattle.p9_grammar.specs.declared.why.Why.{Why}
use Rattle.p9_grammar.specs.declared.why.Why.TheVariants as whys
use Rattle.p9_grammar.specs.Steps.{◌>>=◌, present}
use Rattle.p9_grammar.specs.Sorts.{is_word, known}

-- the ends of a channel that is received on: at most one stage does
abbrev pub reads : ChanEnds → Result ChanEnds Why
reads c = if c.read then Err whys.TwoReaders else Ok (record c { read = true })

-- the ends of a channel that is sent on: at most one stage does, and it stands before the one that receives
abbrev pub writes : ChanEnds → Result ChanEnds Why
writes c = if c.written then Err whys.TwoWriters else if c.read then Err whys.ReaderFirst else Ok (record c { written = true })

-- a NAME of a channel: its number, and the ends with its end used
unfoldable pub used : (ChanEnds → Result ChanEnds Why) → List (List ℕ) → List ChanEnds → Word → Result (ℕ × List ChanEnds) Why
used use_end names ends w = do
  place ← known names w
  old ← present whys.NotDeclared (slice_get ends place)
  new ← use_end old
  Ok (place + 1, slice_set ends place new)

-- the channels behind those that are done, up to the next word `to` or the line's end; the ends then, and the words left
abbrev pub inputs : List (List ℕ) → List ChanEnds → List ℕ → List Word → Result (List ℕ × List ChanEnds × List Word) Why
inputs names ends done [] = Ok (done, ends, [])
inputs names ends done (w ∷ ws) =
    if is_word (codes "to") w then Ok (done, ends, w ∷ ws)
    else (used reads names ends w >>= λ x. inputs names x.1 (done ++ x.0 ∷ []) ws)

-- the channels behind those that are done, up to the line's end
abbrev pub outputs : List (List ℕ) → List ChanEnds → List ℕ → List Word → Result (List ℕ × List ChanEnds) Why
outputs names ends done [] = Ok (done, ends)
outputs names ends done (w ∷ ws) = used writes names ends w >>= λ x. outputs names x.1 (done ++ x.0 ∷ []) ws

-- a stage that has the part wants so many channels in it; one that doesn't have it wants none, and that it is left out
abbrev pub counted : Why → Bool → ℕ → ℕ → Result (Unit {0}) Why
counted why written count found = if found == count then (if written then (if nat_lt 0 count then Ok tt else Err why) else Ok tt) else Err why

-- the part after `from`: whether it is written, its channels, the ends then, and the words left
abbrev pub from_words : List (List ℕ) → List ChanEnds → List Word → Result (Bool × List ℕ × List ChanEnds × List Word) Why
from_words names ends [] = Ok (false, [], ends, [])
from_words names ends (w ∷ ws) =
    if is_word (codes "from") w then (inputs names ends [] ws >>= λ x. Ok (true, x.0, x.1, x.2))
    else if is_word (codes "to") w then Ok (false, [], ends, w ∷ ws)
    else Err whys.WordCount

-- so many inputs
unfoldable pub from_part : ℕ → List (List ℕ) → List ChanEnds → List Word → Result (List ℕ × List ChanEnds × List Word) Why
from_part count names ends ws = do
  found ← from_words names ends ws
  _ ← counted whys.Inputs found.0 count (length found.1)
  Ok (found.1, found.2, found.3)

-- the part after `to`
abbrev pub to_words : List (List ℕ) → List ChanEnds → List Word → Result (Bool × List ℕ × List ChanEnds) Why
to_words names ends [] = Ok (false, [], ends)
to_words names ends (w ∷ ws) =
    if is_word (codes "to") w then (outputs names ends [] ws >>= λ x. Ok (true, x.0, x.1))
    else Err whys.WordCount

-- so many outputs
unfoldable pub to_part : ℕ → List (List ℕ) → List ChanEnds → List Word → Result (List ℕ × List ChanEnds) Why
to_part count names ends ws = do
  found ← to_words names ends ws
  _ ← counted whys.Outputs found.0 count (length found.1)
  Ok (found.1, found.2)

-- so many inputs and so many outputs: their channels, and the ends then
unfoldable pub ports : ℕ → ℕ → List (List ℕ) → List ChanEnds → List Word → Result (List ℕ × List ℕ × List ChanEnds) Why
ports ins outs names ends ws = do
  from ← from_part ins names ends ws
  to ← to_part outs names from.1 from.2
  Ok (from.0, to.0, to.1)
