-- The entries of an alt, one step of reading at a time.
use Rattle.std.proofs.Common.{◌≡◌, ℕ, suc, ◌+◌, ◌-◌, ◌<◌, List, [], ◌∷◌, ◌++◌, refl, arith, Result}
use Rattle.p9_word.specs.declared.alt.Ending.{Ending}
use Rattle.p9_word.specs.declared.words.Word.{Word}
use Rattle.p9_grammar.specs.declared.instr.CodeEntry.{CodeEntry}
use Rattle.p9_grammar.specs.declared.why.Why.{Why}
use Rattle.p9_grammar.specs.Steps.{◌>>=◌}
use Rattle.p9_grammar.specs.Sorts.{first}
use Rattle.p9_grammar.specs.AltRows.{entry_of, entry_here, ending_of}
use Rattle.p9_grammar.specs.AltLines.{ended_by, entries_in}

-- what the next word says, and then the entries behind it
abbrev pub entries_by : ℕ → List (List ℕ) → List CodeEntry → List Word → Result (List CodeEntry × Ending) Why
entries_by steps chans done ws =
    first ws >>= λ x. ended_by (ending_of x.0) done x.1 (entry_here done (entry_of chans x.0 x.1) >>= λ e. entries_in steps chans (done ++ e.0 ∷ []) e.1)

entries_suc : (steps : ℕ) (chans : List (List ℕ)) (done : List CodeEntry) (ws : List Word) → entries_in (suc steps) chans done ws ≡ entries_by steps chans done ws
entries_suc steps chans done [] = refl
entries_suc steps chans done (w ∷ ws) = refl

-- a step more of those that are left
pub entries_step : (n k : ℕ) (chans : List (List ℕ)) (done : List CodeEntry) (ws : List Word) → k < n → entries_in (n - k) chans done ws ≡ entries_by (n - (k + 1)) chans done ws
entries_step n k chans done ws lt =
    let e : n - k ≡ suc (n - (k + 1)) = omega (arith, lt) in
    rw e (entries_suc (n - (k + 1)) chans done ws)
