-- One more service.
use Rattle.std.proofs.Common.{◌≡◌, ℕ, List, [], ◌∷◌, ◌++◌, length, arith, append-nil, refl, ap}
use Rattle.std.proofs.lemmas.Grind.{flat_map-append}
use Rattle.p9_word.specs.declared.trail.Entry.{Entry}
use Rattle.p9_manual.specs.FilesInHistory.{calls_at, effects_at, paired, taken_by, done_by, is_io}
use Rattle.std.specs.Prelude.{if◌then◌else◌}

pub paired-push : {A B : Type 0} (xs : List A) (ys : List B) (x : A) (y : B) → length xs ≡ length ys → paired (xs ++ x ∷ []) (ys ++ y ∷ []) ≡ paired xs ys ++ (x, y) ∷ []
paired-push [] [] x y e = refl
paired-push [] (b ∷ ys) x y e = absurd (omega (arith, e))
paired-push (a ∷ xs) [] x y e = absurd (omega (arith, e))
paired-push (a ∷ xs) (b ∷ ys) x y e = ap (λ t. (a, b) ∷ t) (paired-push xs ys x y (omega (arith, e)))

pub calls-push : (k : ℕ) (H : List Entry) (e : Entry) → calls_at k (H ++ e ∷ []) ≡ calls_at k H ++ (if is_io k e.seat then taken_by e.reply else [])
unfolding calls_at
calls-push k H e = simp (flat_map-append, append-nil)

pub effects-push : (k : ℕ) (H : List Entry) (e : Entry) → effects_at k (H ++ e ∷ []) ≡ effects_at k H ++ (if is_io k e.seat then done_by e.event else [])
unfolding effects_at
effects-push k H e = simp (flat_map-append, append-nil)
