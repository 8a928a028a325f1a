-- Which procs die out where threads end, and what becomes of their notes.
use Rattle.std.proofs.Common.{◌≡◌, ◌≢◌, ℕ, zero, suc, ◌+◌, ◌≤◌, Bool, true, false, not, cond, eqb, List, [], ◌∷◌, map, length, Some, refl, ap, arith, tests, rules}
use Rattle.std.specs.Prelude.{◌&&◌, ◌||◌, slice_get}
use Rattle.std.specs.List.{list_any}
use Rattle.p9_manual.specs.declared.state.Place.TheVariants.{Ended}
use Rattle.p9_manual.specs.declared.state.Thread.{Thread}
use Rattle.p9_manual.specs.Ends.{at_end, with_no_note}
use Rattle.p9_manual.specs.Places.{lives_in}
use Rattle.p9_manual.specs.Standing.{times}
use Rattle.p9_manual.specs.State.{Proc, at_place, changed, each_from}
use Rattle.p9_sched.specs.Schedule.{ended_in}
use Rattle.p9_ends.specs.Parts.{first_quiet, quiet_if}

pub changed_by_nothing : {A : Type 0} (xs : List A) (i : ℕ) → changed (λ x. x) xs i ≡ xs
changed_by_nothing [] i = refl
changed_by_nothing (x ∷ xs) zero = refl
changed_by_nothing (x ∷ xs) (suc i) = ap (λ zs. x ∷ zs) (changed_by_nothing xs i)

pub changed_length : {A : Type 0} (f : A → A) → (xs : List A) (i : ℕ) → length (changed f xs i) ≡ length xs
changed_length f [] i = refl
changed_length f (x ∷ xs) zero = refl
changed_length f (x ∷ xs) (suc i) = ap suc (changed_length f xs i)

pub none_quiet : (dies : ℕ → Bool) (n k : ℕ) (xs : List Proc) → k ≡ 0 → first_quiet dies n k xs ≡ xs
none_quiet dies n k [] e = refl
none_quiet dies n zero (x ∷ xs) e = refl
none_quiet dies n (suc k) (x ∷ xs) e = absurd (omega arith)

-- one proc more
pub quiet_more : (dies : ℕ → Bool) (n k m : ℕ) (xs : List Proc) → m ≡ n + k → first_quiet dies n (suc k) xs ≡ changed (quiet_if (dies m)) (first_quiet dies n k xs) k
quiet_more dies n k m [] e = refl
quiet_more dies n zero m (x ∷ xs) e =
    let same : n ≡ m = omega arith in
    rw (none_quiet dies (suc n) 0 xs refl) (ap (λ j. quiet_if (dies j) x ∷ xs) same)
quiet_more dies n (suc k) m (x ∷ xs) e = ap (λ zs. quiet_if (dies n) x ∷ zs) (quiet_more dies (suc n) k m xs (omega arith))

-- all of them
pub quiet_all : (dies : ℕ → Bool) (n k : ℕ) (xs : List Proc) → length xs ≤ k → first_quiet dies n k xs ≡ each_from (λ p. quiet_if (dies p)) n xs
quiet_all dies n k [] le = refl
quiet_all dies n zero (x ∷ xs) le = absurd (omega arith)
quiet_all dies n (suc k) (x ∷ xs) le = ap (λ zs. quiet_if (dies n) x ∷ zs) (quiet_all dies (suc n) k xs (omega arith))

-- the same tests give the same procs
pub each_same : (f g : ℕ → Bool) (n : ℕ) (xs : List Proc) → ((p : ℕ) → f p ≡ g p) → each_from (λ p. quiet_if (f p)) n xs ≡ each_from (λ p. quiet_if (g p)) n xs
each_same f g n [] h = refl
each_same f g n (x ∷ xs) h = let e = h n in let rest = each_same f g (suc n) xs h in cc

-- where none dies out nothing is removed
pub none_dies : (dies : ℕ → Bool) (n : ℕ) (xs : List Proc) → ((p : ℕ) → n ≤ p → dies p ≡ false) → each_from (λ p. quiet_if (dies p)) n xs ≡ xs
none_dies dies n [] h = refl
none_dies dies n (x ∷ xs) h =
    let e = h n (omega arith) in
    rw e (ap (λ zs. x ∷ zs) (none_dies dies (suc n) xs (λ p le. h p (omega arith))))

-- where at most proc p dies out, at most its notes are removed
pub one_dies : (dies : ℕ → Bool) (n k p : ℕ) (xs : List Proc) → p ≡ n + k → ((q : ℕ) → q ≢ p → dies q ≡ false) → each_from (λ q. quiet_if (dies q)) n xs ≡ changed (quiet_if (dies p)) xs k
one_dies dies n k p [] e h = refl
one_dies dies n zero p (x ∷ xs) e h =
    let same : n ≡ p = omega arith in
    let first : quiet_if (dies n) x ≡ quiet_if (dies p) x = ap (λ j. quiet_if (dies j) x) same in
    let rest = none_dies dies (suc n) xs (λ q le. h q (λ e'. omega arith)) in
    cc
one_dies dies n (suc k) p (x ∷ xs) e h =
    let off = h n (λ e'. omega arith) in
    rw off (ap (λ zs. x ∷ zs) (one_dies dies (suc n) k p xs (omega arith) h))

-- a proc that dies out, or not
pub quiet_on : (b : Bool) (xs : List Proc) (i : ℕ) → b ≡ true → changed (quiet_if b) xs i ≡ changed with_no_note xs i
quiet_on b xs i e = rw e refl

pub quiet_off : (b : Bool) (xs : List Proc) (i : ℕ) → b ≡ false → changed (quiet_if b) xs i ≡ xs
quiet_off b xs i e = rw e (changed_by_nothing xs i)

any_step : (b : Bool) (n : ℕ) (r : Bool) → r ≡ not (eqb n 0) → (b || r) ≡ not (eqb (cond b 1 0 + n) 0)
any_step true n r e = let h : eqb (1 + n) 0 ≡ false = search (rules, tests) in rw h refl
any_step false n r e = let h : 0 + n ≡ n = omega arith in rw h e

-- some pass where their number isn't 0
pub any_times : {A : Type 0} (p : A → Bool) (xs : List A) → list_any p xs ≡ not (eqb (times p xs) 0)
any_times p [] = refl
any_times p (x ∷ xs) = any_step (p x) (times p xs) (list_any p xs) (any_times p xs)

and_false : (b : Bool) → (b && false) ≡ false
and_false true = refl
and_false false = refl

-- where all end none lives
pub none_lives : (p : ℕ) (ts : List Thread) → list_any (lives_in p) (map at_end ts) ≡ false
none_lives p [] = refl
none_lives p (t ∷ ts) = rw (and_false (eqb t.proc_no p)) (none_lives p ts)

of_step : (b : Bool) (p : ℕ) (t : Thread) → eqb t.proc_no p ≡ b → lives_in p (cond b (at_end t) t) ≡ false
of_step true p t h = and_false (eqb t.proc_no p)
of_step false p t h = rw h refl

-- where those of proc p end, none of them lives
pub of_proc : (p : ℕ) (ts : List Thread) → list_any (lives_in p) (map (ended_in p) ts) ≡ false
of_proc p [] = refl
of_proc p (t ∷ ts) = rw (of_step (eqb t.proc_no p) p t refl) (of_proc p ts)

apart : (n p q : ℕ) → eqb n p ≡ true → q ≢ p → eqb n q ≡ false
apart n p q e ne = grind (arith, tests)

other_step : (b : Bool) (p q : ℕ) (t : Thread) → eqb t.proc_no p ≡ b → q ≢ p → lives_in q (cond b (at_end t) t) ≡ lives_in q t
other_step true p q t h ne = rw (apart t.proc_no p q h ne) refl
other_step false p q t h ne = refl

-- and those of other procs are as before
pub of_others : (p q : ℕ) (ts : List Thread) → q ≢ p → list_any (lives_in q) (map (ended_in p) ts) ≡ list_any (lives_in q) ts
of_others p q [] ne = refl
of_others p q (t ∷ ts) ne =
    let first = other_step (eqb t.proc_no p) p q t refl ne in
    let rest = of_others p q ts ne in
    cc

unequal : (n q : ℕ) → q ≢ n → eqb n q ≡ false
unequal n q ne = grind (arith, tests)

-- where one thread ends, another proc is as before
pub one_other : (q i : ℕ) (ts : List Thread) (t : Thread) → slice_get ts i ≡ Some t → q ≢ t.proc_no → list_any (lives_in q) (changed (at_place Ended) ts i) ≡ list_any (lives_in q) ts
one_other q i [] t e ne = refl
one_other q zero (x ∷ xs) t e ne =
    let same : t ≡ x = cc in
    let off : eqb t.proc_no q ≡ false = unequal t.proc_no q ne in
    let at : eqb x.proc_no q ≡ false = cc in
    rw at refl
one_other q (suc i) (x ∷ xs) t e ne = ap (λ b. lives_in q x || b) (one_other q i xs t e ne)

or_true : (b : Bool) → (b || true) ≡ true
or_true true = refl
or_true false = refl

-- and its own proc had one that lived
pub one_lived : (p i : ℕ) (ts : List Thread) (t : Thread) → slice_get ts i ≡ Some t → lives_in p t ≡ true → list_any (lives_in p) ts ≡ true
one_lived p i [] t e on = absurd (cc e)
one_lived p zero (x ∷ xs) t e on =
    let same : lives_in p x ≡ true = cc in
    rw same refl
one_lived p (suc i) (x ∷ xs) t e on = rw (one_lived p i xs t e on) (or_true (lives_in p x))
