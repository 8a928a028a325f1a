-- The instruction alt: entries one after another, up to `end` or `noblk`. alt in thread(2).
use Rattle.std.specs.Prelude.{ℕ, suc, zero, List, [], ◌∷◌, ◌++◌, length, codes, Option, Some, None, Result, Ok, Err, if◌then◌else◌}
use Rattle.p9_word.specs.declared.alt.Ending.{Ending}
use Rattle.p9_word.specs.declared.words.Word.{Word}
use Rattle.p9_grammar.specs.declared.instr.CodeEntry.{CodeEntry}
use Rattle.p9_grammar.specs.declared.instr.Instr.{Instr}
use Rattle.p9_grammar.specs.declared.instr.Instr.TheVariants as instr
use Rattle.p9_grammar.specs.declared.why.Why.{Why}
use Rattle.p9_grammar.specs.declared.why.Why.TheVariants as whys
use Rattle.p9_grammar.specs.Steps.{◌>>=◌}
use Rattle.p9_grammar.specs.Sorts.{the_end, is_word}
use Rattle.p9_grammar.specs.Draft.{Draft}
use Rattle.p9_grammar.specs.Operands.{made}
use Rattle.p9_grammar.specs.AltRows.{entry_of, entry_here, ending_of}

-- the list's end where the word is one, and else the others
abbrev pub ended_by : Option Ending → List CodeEntry → List Word → Result (List CodeEntry × Ending) Why → Result (List CodeEntry × Ending) Why
ended_by (Some ending) done ws others = the_end ws >>= λ _. Ok (done, ending)
ended_by None done ws others = others

-- The entries behind those that are done, and how the list ends. Each takes a word at least, so as many steps as there are
-- words are enough.
abbrev pub entries_in : ℕ → List (List ℕ) → List CodeEntry → List Word → Result (List CodeEntry × Ending) Why
entries_in zero chans done ws = Err whys.WordCount
entries_in (suc steps) chans done [] = Err whys.WordCount
entries_in (suc steps) chans done (w ∷ ws) =
    ended_by (ending_of w) done ws (entry_here done (entry_of chans w ws) >>= λ e. entries_in steps chans (done ++ e.0 ∷ []) e.1)

-- alt, and its entries
abbrev pub alt_row : Draft → Word → List Word → Result (Option Instr) Why
alt_row d w ws =
    if is_word (codes "alt") w then made (λ x. instr.Alt x.0 x.1) (entries_in (length ws) d.chans.names [] ws)
    else Ok None
