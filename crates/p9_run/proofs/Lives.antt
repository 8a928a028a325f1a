-- One more entry.
use Rattle.std.proofs.Common.{◌≡◌, ◌≢◌, ℕ, true, false, List, [], ◌∷◌, ◌++◌, refl}
use mathlib.Core.Logic.{inl, inr}
use Rattle.std.specs.Prelude.{◌==◌, ◌⊎◌}
use Rattle.std.specs.List.{fold}
use Rattle.std.proofs.lemmas.Grind.{fold-append}
use Rattle.std.proofs.lemmas.Bool.{eq-eqb}
use Rattle.std.proofs.lemmas.Bool.Decides.{eqb_tells}
use Rattle.p9_word.specs.declared.trail.Entry.{Entry}
use Rattle.p9_manual.specs.Programs.{Life, Unborn, life, life_after, Asks, IsAsked, RunsFrom, RunsPrograms}

pub life-push : (t : ℕ) (H : List Entry) (e : Entry) → life t (H ++ e ∷ []) ≡ life_after t (life t H) e
unfolding life
life-push t H e = fold-append (life_after t) Unborn H (e ∷ [])

runs_from-push : (asks : Asks) (lives : ℕ → Life) (H : List Entry) (e : Entry) → RunsFrom asks lives H → IsAsked asks (λ t. fold (life_after t) (lives t) H) e.event → RunsFrom asks lives (H ++ e ∷ [])
runs_from-push asks lives [] e runs asked = (asked, tt)
runs_from-push asks lives (x ∷ H) e runs asked = (runs.0, runs_from-push asks (λ t. life_after t (lives t) x) H e runs.1 asked)

pub runs-push : (asks : Asks) (H : List Entry) (e : Entry) → RunsPrograms asks H → IsAsked asks (λ t. life t H) e.event → RunsPrograms asks (H ++ e ∷ [])
unfolding life RunsPrograms
runs-push asks H e runs asked = runs_from-push asks (λ t. Unborn) H e runs asked

pub same_id : (t : ℕ) → (t == t) ≡ true
same_id t = eq-eqb t t refl

other : (t u : ℕ) → t ≢ u → (((t == u) ≡ true) × (t ≡ u)) ⊎ (((t == u) ≡ false) × (t ≢ u)) → (t == u) ≡ false
other t u ne (inl same) = absurd (ne same.1)
other t u ne (inr differs) = differs.0

pub other_id : (t u : ℕ) → t ≢ u → (t == u) ≡ false
other_id t u ne = other t u ne (eqb_tells t u)
