-- What the manual's way to end threads, by a test on their ids, does to the threads, the line, the waits and the procs' words.
use Rattle.std.proofs.Common.{◌≡◌, ◌≢◌, ℕ, zero, suc, ◌+◌, ◌-◌, ◌<◌, ◌≤◌, Bool, true, false, not, List, [], ◌∷◌, length, map, Option, Some, None, refl, ap, sym, ◌∙◌, arith}
use Rattle.std.specs.Prelude.{◌==◌, option_map, slice_get}
use Rattle.std.specs.List.{filter}
use Rattle.p9_manual.specs.declared.state.Place.TheVariants.{Ended}
use Rattle.p9_manual.specs.declared.state.Thread.{Thread}
use Rattle.p9_manual.specs.Ends.{at_end, dies_out, ended_if, quieted}
use Rattle.p9_manual.specs.Places.{is_of}
use Rattle.p9_manual.specs.State.{Proc, by_id, changed, each_from, at_place, placed}
use Rattle.p9_sched.specs.Schedule.{Schedule, ended_in, proc_ended, proc_of, line_of}
use Rattle.p9_sched.specs.Stands.{AreLines}
use Rattle.p9_sched.proofs.Held.{of_other}
use Rattle.p9_sched.proofs.Lines.{CasesEq, Same, Other, cases_eq, eq_same, eq_other, filter_ext, filter_none, filter_within, line_other, line_same}
use Rattle.p9_sched.proofs.Lists.{by_id_at, by_id-map, length-changed, positive}

-- a thread with a proc was made
pub made_one : (xs : List Thread) (t : ℕ) (o : Option Thread) → by_id xs t ≡ o → 1 ≤ proc_of o → 1 ≤ t
made_one xs t None at one = absurd (omega arith)
made_one xs t (Some x) at one = positive xs t x at

-- ids that count from above t have no thread t
ended_past : (t n : ℕ) → t < n → (xs : List Thread) → each_from (ended_if (λ u. u == t)) n xs ≡ xs
ended_past t n lt [] = refl
ended_past t n lt (x ∷ xs) = rw (eq_other n t (λ e. omega arith), ended_past t (suc n) (omega arith) xs) refl

ended_from : (t n i : ℕ) → t ≡ n + i → (xs : List Thread) → each_from (ended_if (λ u. u == t)) n xs ≡ changed (at_place Ended) xs i
ended_from t n i e [] = refl
ended_from t n zero e (x ∷ xs) =
    let same : n ≡ t = omega arith in
    rw (same, eq_same t, ended_past t (suc t) (omega arith) xs) refl
ended_from t n (suc i) e (x ∷ xs) = rw (eq_other n t (λ f. omega arith), ended_from t (suc n) i (omega arith) xs) refl

-- one thread has ended
pub one_ended : (t : ℕ) (xs : List Thread) → 1 ≤ t → each_from (ended_if (λ u. u == t)) 1 xs ≡ placed t Ended xs
one_ended t xs one = ended_from t 1 (t - 1) (omega arith) xs

-- all threads have
pub all_threads : (n : ℕ) (xs : List Thread) → each_from (ended_if (λ u. true)) n xs ≡ map at_end xs
all_threads n [] = refl
all_threads n (x ∷ xs) = ap (λ ys. at_end x ∷ ys) (all_threads (suc n) xs)

-- nothing stays where all ends
pub none_stays : {A : Type 0} (xs : List A) → filter (λ x. not true) xs ≡ []
none_stays [] = refl
none_stays (x ∷ xs) = none_stays xs

proc_from : (p n : ℕ) (all xs : List Thread) → ((i : ℕ) → by_id all (n + i) ≡ slice_get xs i) → each_from (ended_if (λ t. is_of p (by_id all t))) n xs ≡ map (ended_in p) xs
proc_from p n all [] at = refl
proc_from p n all (x ∷ xs) at =
    let here : by_id all n ≡ Some x = ap (by_id all) (omega arith) ∙ at 0 in
    let more = proc_from p (suc n) all xs (λ i. ap (by_id all) (omega arith) ∙ at (suc i)) in
    rw (here, more) refl

-- all threads of a proc have ended
pub proc_threads : (p : ℕ) (xs : List Thread) → each_from (ended_if (λ t. is_of p (by_id xs t))) 1 xs ≡ map (ended_in p) xs
proc_threads p xs = proc_from p 1 xs xs (λ i. by_id_at xs (1 + i) (omega arith) ∙ ap (slice_get xs) (omega arith))

of_if : (b : Bool) (p : ℕ) (x : Thread) → (x.proc_no == p) ≡ b → (ended_in p x).proc_no ≡ x.proc_no
of_if true p x e = rw e refl
of_if false p x e = rw e refl

of_ended : (p q : ℕ) (o : Option Thread) → is_of q (option_map (ended_in p) o) ≡ is_of q o
of_ended p q None = refl
of_ended p q (Some x) = ap (λ n. n == q) (of_if (x.proc_no == p) p x refl)

-- each keeps its proc
pub is_of_ended : (p q : ℕ) (xs : List Thread) (u : ℕ) → is_of q (by_id (map (ended_in p) xs) u) ≡ is_of q (by_id xs u)
is_of_ended p q xs u = ap (is_of q) (by_id-map (ended_in p) xs u) ∙ of_ended p q (by_id xs u)

-- the words of procs stay, though their notes go
word_quiet : (b : Bool) (before after : List Thread) (n : ℕ) (x : Proc) → dies_out before after n ≡ b → (quieted before after n x).word ≡ x.word
word_quiet true before after n x e = rw e refl
word_quiet false before after n x e = rw e refl

pub words_quiet : (before after : List Thread) (n : ℕ) (ps : List Proc) → map (λ p. p.word) (each_from (quieted before after) n ps) ≡ map (λ p. p.word) ps
words_quiet before after n [] = refl
words_quiet before after n (x ∷ ps) =
    rw (word_quiet (dies_out before after n) before after n x refl, words_quiet before after (suc n) ps) refl

not_off : (b : Bool) → b ≡ false → not b ≡ true
not_off true e = cc
not_off false e = refl

not_on : (b : Bool) → b ≡ true → not b ≡ false
not_on true e = refl
not_on false e = cc

-- the line of proc q, once all threads of proc p have ended
part_proc_ended : (p q : ℕ) (s : Schedule) (xs : List Thread) (line : List ℕ) → 1 ≤ p → 1 ≤ q → q ≤ length s.lines → xs ≡ s.threads → line_of q s ≡ filter (λ u. is_of q (by_id s.threads u)) line → CasesEq q p → line_of q (proc_ended p s) ≡ filter (λ u. is_of q (by_id s.threads u)) (filter (λ t. not (is_of p (by_id xs t))) line)
part_proc_ended p q s xs line one a b e part (Same same) =
    rw (e, same, line_same (λ _. []) s.lines p one (rw same at b)) (sym (filter_none (λ u. is_of p (by_id s.threads u)) (λ t. not (is_of p (by_id s.threads t))) (λ u mine. not_on (is_of p (by_id s.threads u)) mine) line))
part_proc_ended p q s xs line one a b e part (Other ne) =
    let far : p ≢ q = λ f. ne (sym f) in
    rw (e, line_other (λ _. []) s.lines p q a one ne) (part ∙ sym (filter_within (λ u. is_of q (by_id s.threads u)) (λ t. not (is_of p (by_id s.threads t))) (λ u mine. not_off (is_of p (by_id s.threads u)) (of_other q p (by_id s.threads u) far mine)) line))

pub parts_proc_ended : (p : ℕ) (s : Schedule) (xs : List Thread) (line : List ℕ) → 1 ≤ p → xs ≡ s.threads → AreLines s line → AreLines (proc_ended p s) (filter (λ t. not (is_of p (by_id xs t))) line)
parts_proc_ended p s xs line one e h = record {
  part = λ q a b1.
      let b : q ≤ length s.lines = rw length-changed at b1 in
      part_proc_ended p q s xs line one a b e (h.part q a b) (cases_eq q p) ∙ sym (filter_ext _ _ (λ u. is_of_ended p q s.threads u) (filter (λ t. not (is_of p (by_id xs t))) line));
}
