-- The instruction alt: entries, and then `end` or `noblk`. alt in thread(2).
use Rattle.std.specs.Prelude.{ℕ, Bool, true, false, List, [], ◌∷◌, length, codes, Option, Some, None, Result, Ok, Err, nat_lt, if◌then◌else◌}
use Rattle.p9_word.specs.declared.limits.TheConstants.{MOST_ENTRIES}
use Rattle.p9_word.specs.declared.alt.AltOp.TheVariants as ops
use Rattle.p9_word.specs.declared.alt.Ending.{Ending}
use Rattle.p9_word.specs.declared.alt.Ending.TheVariants as endings
use Rattle.p9_word.specs.declared.words.Word.{Word}
use Rattle.p9_grammar.specs.declared.instr.CodeSlot.{CodeSlot}
use Rattle.p9_grammar.specs.declared.instr.CodeSlot.TheVariants as slots
use Rattle.p9_grammar.specs.declared.instr.CodeEntry.{CodeEntry}
use Rattle.p9_grammar.specs.declared.why.Why.{Why}
use Rattle.p9_grammar.specs.declared.why.Why.TheVariants as whys
use Rattle.p9_grammar.specs.Steps.{◌>>=◌}
use Rattle.p9_grammar.specs.Sorts.{first, is_word}
use Rattle.p9_grammar.specs.Operands.{named, text}

-- what an entry that sends sends: a bare `-` is zeros
unfoldable pub sent_slot : Word → Result CodeSlot Why
sent_slot w = if is_word (codes "-") w then Ok slots.Null else (text w >>= λ x. Ok (slots.Give x))

-- what an entry does with what it receives, which it keeps but for a bare `-`; and the words left
abbrev pub received_slot : List Word → CodeSlot × List Word
received_slot [] = (slots.Keep, [])
received_slot (w ∷ ws) = if is_word (codes "-") w then (slots.Null, ws) else (slots.Keep, w ∷ ws)

-- whether an entry's err is set, and the words left
abbrev pub err_part : List Word → Bool × List Word
err_part [] = (false, [])
err_part (w ∷ ws) = if is_word (codes "err") w then (true, ws) else (false, w ∷ ws)

-- snd C TEXT, snd C -, behind `snd`
unfoldable pub snd_entry : List (List ℕ) → List Word → Result (CodeEntry × List Word) Why
snd_entry chans ws = do
  w ← first ws
  chan ← named chans w.0
  v ← first w.1
  slot ← sent_slot v.0
  Ok (record { op = ops.Snd; chan = chan; err = (err_part v.1).0; slot = slot }, (err_part v.1).1)

-- rcv C, rcv C -, behind `rcv`
unfoldable pub rcv_entry : List (List ℕ) → List Word → Result (CodeEntry × List Word) Why
rcv_entry chans ws = do
  w ← first ws
  chan ← named chans w.0
  Ok (record { op = ops.Rcv; chan = chan; err = (err_part (received_slot w.1).1).0; slot = (received_slot w.1).0 }, (err_part (received_slot w.1).1).1)

-- nop C, behind `nop`
unfoldable pub nop_entry : List (List ℕ) → List Word → Result (CodeEntry × List Word) Why
nop_entry chans ws = do
  w ← first ws
  chan ← named chans w.0
  Ok (record { op = ops.Nop; chan = chan; err = (err_part w.1).0; slot = slots.Null }, (err_part w.1).1)

-- an entry by its first word; nothing where it is none
abbrev pub entry_of : List (List ℕ) → Word → List Word → Option (Result (CodeEntry × List Word) Why)
entry_of chans w ws =
    if is_word (codes "snd") w then Some (snd_entry chans ws)
    else if is_word (codes "rcv") w then Some (rcv_entry chans ws)
    else if is_word (codes "nop") w then Some (nop_entry chans ws)
    else None

-- the list's end by its word; nothing where it is none
abbrev pub ending_of : Word → Option Ending
ending_of w = if is_word (codes "end") w then Some endings.End else if is_word (codes "noblk") w then Some endings.NoBlk else None

-- one entry more is one that an alt may have
abbrev pub enough_entries : List CodeEntry → Result (Unit {0}) Why
enough_entries done = if nat_lt (length done) MOST_ENTRIES then Ok tt else Err whys.TooMany

-- an entry, where the word begins one
abbrev pub entry_here : List CodeEntry → Option (Result (CodeEntry × List Word) Why) → Result (CodeEntry × List Word) Why
entry_here done None = Err whys.UnknownInstruction
entry_here done (Some e) = enough_entries done >>= λ _. e
