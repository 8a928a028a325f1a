-- Where the first line of a text ends.
use Rattle.std.proofs.Common.{◌≡◌, ℕ, suc, ◌+◌, ◌<◌, ◌≤◌, ◌==◌, ◌++◌, ◌&&◌, Bool, true, false, cond, List, [], ◌∷◌, length, take, drop, Some, None, refl, ◌∙◌, arith}
use Rattle.std.specs.Prelude.{position, not}
use Rattle.std.specs.List.{prefix_len, list_all}
use Rattle.std.proofs.Math.ListN.{drop_of_length-le}
use Rattle.std.proofs.Math.Seq.{take-length}
use Rattle.std.proofs.lemmas.Bool.{ltb-false}
use Rattle.std.proofs.lemmas.List.Sums.{prefix_len-le-length}
use Rattle.p9_grammar.specs.Lines.{lines_of, begun}

abbrev is_other : ℕ → Bool
is_other b = not (b == 10)

steps : (b : ℕ) (xs : List ℕ) (k : ℕ) → (b ∷ take k xs) ∷ lines_of (drop (k + 1) xs) ≡ take (1 + k) (b ∷ xs) ∷ lines_of (drop (1 + k + 1) (b ∷ xs))
steps b xs k =
    let e : 1 + k ≡ suc k = omega arith in
    let f : suc k + 1 ≡ suc (k + 1) = omega arith in
    rw (e, f) refl

cuts : (text : List ℕ) → 0 < length text → lines_of text ≡ take (prefix_len is_other text) text ∷ lines_of (drop (prefix_len is_other text + 1) text)
cuts [] some = absurd (omega arith)
cuts (b ∷ []) some = elim (b == 10) as (λ v. cond v ([] ∷ []) ((b ∷ []) ∷ []) ≡ take (cond (not v) 1 0) (b ∷ []) ∷ lines_of (drop (cond (not v) 1 0 + 1) (b ∷ []))) [ true ↦ refl | false ↦ refl ]
cuts (b ∷ c ∷ bs) some =
    let k = prefix_len is_other (c ∷ bs) in
    let rest = cuts (c ∷ bs) (omega arith) in
    elim (b == 10) as (λ v. cond v ([] ∷ lines_of (c ∷ bs)) (begun b (lines_of (c ∷ bs))) ≡ take (cond (not v) (1 + k) 0) (b ∷ c ∷ bs) ∷ lines_of (drop (cond (not v) (1 + k) 0 + 1) (b ∷ c ∷ bs))) [
      | true ↦ refl
      | false ↦ rw rest (steps b (c ∷ bs) k)
    ]

found_at : (b : Bool) (k i : ℕ) → cond b (Some k) None ≡ Some i → k ≡ i
found_at true k i e = cc
found_at false k i e = absurd cc

not_found : (b : Bool) (k : ℕ) → cond b (Some k) None ≡ None → b ≡ false
not_found true k e = absurd cc
not_found false k e = refl

pub cut_at : (text : List ℕ) (i : ℕ) → 0 < length text → position (λ b. b == 10) text ≡ Some i → lines_of text ≡ take i text ∷ lines_of (drop (i + 1) text)
cut_at text i some e = rw (← found_at _ _ i e) (cuts text some)

pub cut_whole : (text : List ℕ) → 0 < length text → position (λ b. b == 10) text ≡ None → lines_of text ≡ text ∷ []
cut_whole text some e =
    let long : length text ≤ prefix_len is_other text = ltb-false _ _ (not_found _ _ e) in
    let k : prefix_len is_other text ≡ length text = omega (arith, prefix_len-le-length is_other text) in
    let h = rw k at (cuts text some) in
    h ∙ rw (take-length text, drop_of_length-le text {i = length text + 1} (omega arith)) refl

both : (a b : Bool) → (a && b) ≡ true → (a ≡ true) × (b ≡ true)
both true b h = (refl, h)
both false b h = absurd cc

other : (b : Bool) → not b ≡ true → b ≡ false
other true h = absurd cc
other false h = refl

pub line_again : (line rest : List ℕ) → list_all (λ b. not (b == 10)) line ≡ true → lines_of (line ++ 10 ∷ rest) ≡ line ∷ lines_of rest
line_again [] rest h = refl
line_again (b ∷ line) rest h =
    let k = both _ _ h in
    rw (other (b == 10) k.0, line_again line rest k.1) refl
