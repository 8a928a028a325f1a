-- how long bytes are with each quote doubled
use Rattle.std.proofs.Common.{◌≡◌, ◌==◌, ◌+◌, ℕ, List, [], ◌∷◌, length, Bool, true, false, cond, refl, arith}
use Rattle.std.specs.Prelude.{count_by}
use Rattle.std.proofs.lemmas.List.Sums.{sum_by-cons}
use Rattle.p9_word.specs.Words.{doubled}

-- a byte that stands twice is one more
one_more : (quote : Bool) (b count more : ℕ) (bs ds : List ℕ) → more ≡ cond quote 1 0 + count → length ds ≡ length bs + count → length (cond quote (39 ∷ 39 ∷ ds) (b ∷ ds)) ≡ length (b ∷ bs) + more
one_more true b count more bs ds m e = omega (arith, m, e)
one_more false b count more bs ds m e = omega (arith, m, e)

pub length_doubled : (bs : List ℕ) → length (doubled bs) ≡ length bs + count_by (λ b. b == 39) bs
length_doubled [] = refl
length_doubled (b ∷ bs) =
    one_more (b == 39) b (count_by (λ x. x == 39) bs) (count_by (λ x. x == 39) (b ∷ bs)) bs (doubled bs) (sum_by-cons (λ x. cond (x == 39) 1 0) b bs) (length_doubled bs)
