-- What happens to the procs' lines, and to the line of all ready threads of which they are the parts.
use Rattle.std.proofs.Common.{◌≡◌, ◌≢◌, ℕ, zero, suc, ◌+◌, ◌-◌, ◌<◌, ◌≤◌, Bool, true, false, not, cond, List, [], ◌∷◌, ◌++◌, length, map, Option, Some, None, refl, ap, sym, ◌∙◌, arith, rules, tests}
use Rattle.std.specs.Prelude.{◌==◌, slice_get, nat_lt, drop}
use Rattle.std.specs.List.{filter}
use Rattle.std.proofs.lemmas.List.Elements.{filter-append}
use Rattle.p9_word.specs.declared.answer.Answer.{Answer}
use Rattle.p9_manual.specs.declared.state.Place.{Place as Stand}
use Rattle.p9_manual.specs.declared.state.Place.TheVariants.{Running, Ready, Waiting, Ended}
use Rattle.p9_manual.specs.declared.state.Thread.{Thread}
use Rattle.p9_manual.specs.State.{by_id, changed, at_place, placed, pick, behind}
use Rattle.p9_manual.specs.Places.{is_of}
use Rattle.p9_manual.specs.Standing.{times}
use Rattle.p9_sched.specs.Holding.{with_front}
use Rattle.p9_sched.specs.Schedule.{Schedule, IsPlace, line_of, line_in, with_last, without, emptied, readied, waiting, ended, all_ended, begun, proc_of}
use Rattle.p9_sched.specs.Stands.{AreLines}
use Rattle.p9_sched.proofs.Lists.{by_id_at, length-changed, by_id-push_new, by_id-push_other}

-- two numbers are the same or not
pub data CasesEq (a b : ℕ) : Type 0 where
  Same : a ≡ b → CasesEq a b
  Other : a ≢ b → CasesEq a b

cases_suc : (a b : ℕ) → CasesEq a b → CasesEq (suc a) (suc b)
cases_suc a b (Same e) = Same (ap suc e)
cases_suc a b (Other n) = Other (λ e. n (omega arith))

pub cases_eq : (a b : ℕ) → CasesEq a b
cases_eq zero zero = Same refl
cases_eq zero (suc b) = Other (λ e. omega arith)
cases_eq (suc a) zero = Other (λ e. omega arith)
cases_eq (suc a) (suc b) = cases_suc a b (cases_eq a b)

pub eq_same : (a : ℕ) → (a == a) ≡ true
eq_same a = search (rules, tests)

pub eq_other : (a b : ℕ) → a ≢ b → (a == b) ≡ false
eq_other a b n = search (rules, tests)

-- tests that agree pass the same items
pub filter_ext : {A : Type 0} (p q : A → Bool) → ((x : A) → p x ≡ q x) → (xs : List A) → filter p xs ≡ filter q xs
filter_ext p q h [] = refl
filter_ext p q h (x ∷ xs) = rw (h x, filter_ext p q h xs) refl

any_if : (b : Bool) → {A : Type 0} (x : A) (xs ys zs : List A) → xs ≡ ys → cond b (x ∷ xs) xs ≡ cond b (x ∷ ys) ys
any_if b x xs ys zs e = rw e refl

skip_step : (t x : ℕ) (p : ℕ → Bool) (xs : List ℕ) → p t ≡ false → filter p (without t xs) ≡ filter p xs → CasesEq x t → filter p (without t (x ∷ xs)) ≡ filter p (x ∷ xs)
skip_step t x p xs h e (Same s) = rw (s, eq_same t, h) e
skip_step t x p xs h e (Other n) = rw (eq_other x t n, e) refl

-- an item that doesn't pass can be left out before
pub filter_skip : (t : ℕ) (p : ℕ → Bool) → p t ≡ false → (xs : List ℕ) → filter p (without t xs) ≡ filter p xs
filter_skip t p h [] = refl
filter_skip t p h (x ∷ xs) = skip_step t x p xs h (filter_skip t p h xs) (cases_eq x t)

swap_if : (a b : Bool) (x : ℕ) (p q : ℕ → Bool) (xs : List ℕ) → q x ≡ a → p x ≡ b → filter p (filter q xs) ≡ filter q (filter p xs) → filter p (filter q (x ∷ xs)) ≡ filter q (filter p (x ∷ xs))
swap_if true true x p q xs ea eb e = rw (ea, eb, ea, e) refl
swap_if true false x p q xs ea eb e = rw (ea, eb, e) refl
swap_if false true x p q xs ea eb e = rw (ea, eb, ea, e) refl
swap_if false false x p q xs ea eb e = rw (ea, eb, e) refl

-- two tests pass the same items in either order
pub filter_swap : (p q : ℕ → Bool) (xs : List ℕ) → filter p (filter q xs) ≡ filter q (filter p xs)
filter_swap p q [] = refl
filter_swap p q (x ∷ xs) = swap_if (q x) (p x) x p q xs refl refl (filter_swap p q xs)

-- a change that leaves a thread's proc
pub record KeepsProc (f : Thread → Thread) : Type 0 where
  pub same : (x : Thread) → (f x).proc_no ≡ x.proc_no

slice_keeps : (f : Thread → Thread) → KeepsProc f → (p : ℕ) (xs : List Thread) (i j : ℕ) → is_of p (slice_get (changed f xs i) j) ≡ is_of p (slice_get xs j)
slice_keeps f k p [] i j = refl
slice_keeps f k p (x ∷ xs) zero zero = rw (k.same x) refl
slice_keeps f k p (x ∷ xs) zero (suc j) = refl
slice_keeps f k p (x ∷ xs) (suc i) zero = refl
slice_keeps f k p (x ∷ xs) (suc i) (suc j) = slice_keeps f k p xs i j

keeps_if : (b : Bool) (p : ℕ) (o q : Option Thread) → is_of p o ≡ is_of p q → is_of p (cond b o None) ≡ is_of p (cond b q None)
keeps_if true p o q e = e
keeps_if false p o q e = refl

pub is_of_keeps : (f : Thread → Thread) → KeepsProc f → (p : ℕ) (xs : List Thread) (i u : ℕ) → is_of p (by_id (changed f xs i) u) ≡ is_of p (by_id xs u)
is_of_keeps f k p xs i u = keeps_if (nat_lt 0 u) p _ _ (slice_keeps f k p xs i (u - 1))

-- where threads are changed, but no proc, the lines stay the parts
pub parts_changed : (f : Thread → Thread) → KeepsProc f → (s n : Schedule) (i : ℕ) (line : List ℕ) → n.threads ≡ changed f s.threads i → n.lines ≡ s.lines → AreLines s line → AreLines n line
parts_changed f k s n i line et el h = record {
  part = λ p a b.
      let part = h.part p a (rw el at b) in
      rw (et, el) (part ∙ filter_ext _ _ (λ u. sym (is_of_keeps f k p s.threads i u)) line);
}

-- a line after one was changed
get_same : (f : List ℕ → List ℕ) (xs : List (List ℕ)) (i : ℕ) → i < length xs → line_in (slice_get (changed f xs i) i) ≡ f (line_in (slice_get xs i))
get_same f [] i lt = absurd (omega arith)
get_same f (x ∷ xs) zero lt = refl
get_same f (x ∷ xs) (suc i) lt = get_same f xs i (omega arith)

get_other : {A : Type 0} (f : A → A) (xs : List A) (i j : ℕ) → i ≢ j → slice_get (changed f xs i) j ≡ slice_get xs j
get_other f [] i j n = refl
get_other f (x ∷ xs) zero zero n = absurd (n refl)
get_other f (x ∷ xs) zero (suc j) n = refl
get_other f (x ∷ xs) (suc i) zero n = refl
get_other f (x ∷ xs) (suc i) (suc j) n = get_other f xs i j (λ e. n (ap suc e))

-- each other item, by its id
pub by_id_other : {A : Type 0} (f : A → A) (xs : List A) (t u : ℕ) (x : A) → by_id xs t ≡ Some x → u ≢ t → by_id (changed f xs (t - 1)) u ≡ by_id xs u
by_id_other f xs zero u x e ne = cc
by_id_other f xs (suc t) zero x e ne = refl
by_id_other f xs (suc t) (suc u) x e ne =
    rw (by_id_at (changed f xs (suc t - 1)) (suc u) (omega arith), by_id_at xs (suc u) (omega arith)) (get_other f xs (suc t - 1) (suc u - 1) (λ h. ne (omega arith)))

pub line_same : (f : List ℕ → List ℕ) (xs : List (List ℕ)) (p : ℕ) → 1 ≤ p → p ≤ length xs → line_in (by_id (changed f xs (p - 1)) p) ≡ f (line_in (by_id xs p))
line_same f xs p a b = rw (by_id_at (changed f xs (p - 1)) p a, by_id_at xs p a) (get_same f xs (p - 1) (omega arith))

pub line_other : (f : List ℕ → List ℕ) (xs : List (List ℕ)) (q p : ℕ) → 1 ≤ p → 1 ≤ q → p ≢ q → line_in (by_id (changed f xs (q - 1)) p) ≡ line_in (by_id xs p)
line_other f xs q p a b n = rw (by_id_at (changed f xs (q - 1)) p a, by_id_at xs p a) (ap line_in (get_other f xs (q - 1) (p - 1) (λ e. n (omega arith))))

append_none : (xs : List ℕ) → xs ++ [] ≡ xs
append_none [] = refl
append_none (x ∷ xs) = ap (λ (ys : List ℕ). x ∷ ys) (append_none xs)

-- a thread that comes last in the line of proc q, and in the line of all
part_last : (q p t : ℕ) (s n : Schedule) (line : List ℕ) → 1 ≤ q → q ≤ length s.lines → 1 ≤ p → p ≤ length s.lines → n.lines ≡ changed (with_last t) s.lines (q - 1) → filter (λ u. is_of p (by_id n.threads u)) line ≡ filter (λ u. is_of p (by_id s.threads u)) line → is_of p (by_id n.threads t) ≡ (q == p) → line_of p s ≡ filter (λ u. is_of p (by_id s.threads u)) line → CasesEq p q → line_of p n ≡ filter (λ u. is_of p (by_id n.threads u)) (line ++ t ∷ [])
part_last q p t s n line a b c d el same at part (Same e) =
    let here : is_of p (by_id n.threads t) ≡ true = at ∙ (rw e (eq_same q)) in
    rw (filter-append, here, same, el, ← e, line_same (with_last t) s.lines p c d) (ap (λ (xs : List ℕ). xs ++ t ∷ []) part)
part_last q p t s n line a b c d el same at part (Other e) =
    let off : is_of p (by_id n.threads t) ≡ false = at ∙ eq_other q p (λ h. e (sym h)) in
    rw (filter-append, off, same, el, line_other (with_last t) s.lines q p c a e) (part ∙ sym (append_none _))

pub parts_last : (q t : ℕ) (s n : Schedule) (line : List ℕ) → 1 ≤ q → q ≤ length s.lines → n.lines ≡ changed (with_last t) s.lines (q - 1) → ((p : ℕ) → filter (λ u. is_of p (by_id n.threads u)) line ≡ filter (λ u. is_of p (by_id s.threads u)) line) → ((p : ℕ) → is_of p (by_id n.threads t) ≡ (q == p)) → AreLines s line → AreLines n (line ++ t ∷ [])
parts_last q t s n line a b el same at h = record {
  part = λ p c d.
      let e : p ≤ length s.lines = rw (el, length-changed) at d in
      part_last q p t s n line a b c e el (same p) (at p) (h.part p c e) (cases_eq p q);
}

-- a thread that comes first in the line of proc q, and in the line of all
part_first : (q p t : ℕ) (s n : Schedule) (line : List ℕ) → 1 ≤ q → 1 ≤ p → p ≤ length s.lines → n.lines ≡ changed (with_front t) s.lines (q - 1) → filter (λ u. is_of p (by_id n.threads u)) line ≡ filter (λ u. is_of p (by_id s.threads u)) line → is_of p (by_id n.threads t) ≡ (q == p) → line_of p s ≡ filter (λ u. is_of p (by_id s.threads u)) line → CasesEq p q → line_of p n ≡ filter (λ u. is_of p (by_id n.threads u)) (t ∷ line)
part_first q p t s n line a c d el same at part (Same e) =
    let here : is_of p (by_id n.threads t) ≡ true = at ∙ (rw e (eq_same q)) in
    rw (here, same, el, ← e, line_same (with_front t) s.lines p c d) (ap (λ (xs : List ℕ). t ∷ xs) part)
part_first q p t s n line a c d el same at part (Other e) =
    let off : is_of p (by_id n.threads t) ≡ false = at ∙ eq_other q p (λ h. e (sym h)) in
    rw (off, same, el, line_other (with_front t) s.lines q p c a e) part

pub parts_first : (q t : ℕ) (s n : Schedule) (line : List ℕ) → 1 ≤ q → n.lines ≡ changed (with_front t) s.lines (q - 1) → ((p : ℕ) → filter (λ u. is_of p (by_id n.threads u)) line ≡ filter (λ u. is_of p (by_id s.threads u)) line) → ((p : ℕ) → is_of p (by_id n.threads t) ≡ (q == p)) → AreLines s line → AreLines n (t ∷ line)
parts_first q t s n line a el same at h = record {
  part = λ p c d.
      let e : p ≤ length s.lines = rw (el, length-changed) at d in
      part_first q p t s n line a c e el (same p) (at p) (h.part p c e) (cases_eq p q);
}

-- whether a thread is one of a proc
pub is_of_proc : (p : ℕ) (o : Option Thread) → 1 ≤ proc_of o → is_of p o ≡ (proc_of o == p)
is_of_proc p None one = absurd (omega arith)
is_of_proc p (Some thread) one = refl

-- the proc of a thread that was made
pub is_of_made : (p : ℕ) (o : Option Thread) (thread : Thread) → o ≡ Some thread → is_of p o ≡ (thread.proc_no == p)
is_of_made p o thread e = rw e refl

pub place_keeps : (pl : Stand) → KeepsProc (at_place pl)
place_keeps pl = record { same = λ x. refl }

-- a thread that is ready
pub parts_readied : (t : ℕ) (a : Answer) (s : Schedule) (thread : Thread) (line : List ℕ) → by_id s.threads t ≡ Some thread → 1 ≤ thread.proc_no → thread.proc_no ≤ length s.lines → AreLines s line → AreLines (readied t a s) (line ++ t ∷ [])
parts_readied t a s thread line e c d h =
    parts_last thread.proc_no t s (readied t a s) line c d (rw e refl)
    (λ p. filter_ext _ _ (λ u. is_of_keeps (at_place (Ready a)) (place_keeps (Ready a)) p s.threads (t - 1) u) line)
    (λ p. is_of_keeps (at_place (Ready a)) (place_keeps (Ready a)) p s.threads (t - 1) t ∙ is_of_made p (by_id s.threads t) thread e)
    h

-- a thread that is ready before all others
pub parts_front : (t : ℕ) (a : Answer) (s n : Schedule) (line : List ℕ) → n.threads ≡ placed t (Ready a) s.threads → n.lines ≡ changed (with_front t) s.lines (proc_of (by_id s.threads t) - 1) → 1 ≤ proc_of (by_id s.threads t) → AreLines s line → AreLines n (t ∷ line)
parts_front t a s n line et el one h =
    parts_first (proc_of (by_id s.threads t)) t s n line one el
    (λ p. rw et (filter_ext _ _ (λ u. is_of_keeps (at_place (Ready a)) (place_keeps (Ready a)) p s.threads (t - 1) u) line))
    (λ p. rw et (is_of_keeps (at_place (Ready a)) (place_keeps (Ready a)) p s.threads (t - 1) t ∙ is_of_proc p (by_id s.threads t) one))
    h

-- a thread that has ended
part_ended : (q p t : ℕ) (s n : Schedule) (line : List ℕ) → 1 ≤ q → 1 ≤ p → p ≤ length s.lines → n.lines ≡ changed (without t) s.lines (q - 1) → ((u : ℕ) → is_of p (by_id n.threads u) ≡ is_of p (by_id s.threads u)) → is_of p (by_id s.threads t) ≡ (q == p) → line_of p s ≡ filter (λ u. is_of p (by_id s.threads u)) line → CasesEq p q → line_of p n ≡ filter (λ u. is_of p (by_id n.threads u)) (without t line)
part_ended q p t s n line a c d el same at part (Same e) =
    rw (el, ← e, line_same (without t) s.lines p c d, part, filter_ext _ _ same (without t line)) (filter_swap (λ u. not (u == t)) (λ u. is_of p (by_id s.threads u)) line)
part_ended q p t s n line a c d el same at part (Other e) =
    let off : is_of p (by_id s.threads t) ≡ false = at ∙ eq_other q p (λ h. e (sym h)) in
    rw (el, line_other (without t) s.lines q p c a e, part, filter_ext _ _ same (without t line)) (sym (filter_skip t (λ u. is_of p (by_id s.threads u)) off line))

pub parts_ended : (t : ℕ) (s : Schedule) (thread : Thread) (line : List ℕ) → by_id s.threads t ≡ Some thread → 1 ≤ thread.proc_no → AreLines s line → AreLines (ended t s) (without t line)
parts_ended t s thread line e c h = record {
  part = λ p a b.
      let d : p ≤ length s.lines = rw length-changed at b in
      part_ended thread.proc_no p t s (ended t s) line c a d (rw e refl)
      (λ u. is_of_keeps (at_place Ended) (place_keeps Ended) p s.threads (t - 1) u)
      (is_of_made p (by_id s.threads t) thread e) (h.part p a d) (cases_eq p thread.proc_no);
}

-- where all threads have ended
get_emptied : (xs : List (List ℕ)) (i : ℕ) → line_in (slice_get (map emptied xs) i) ≡ []
get_emptied [] i = refl
get_emptied (x ∷ xs) zero = refl
get_emptied (x ∷ xs) (suc i) = get_emptied xs i

pub parts_all_ended : (s : Schedule) → AreLines (all_ended s) []
parts_all_ended s = record { part = λ p a b. rw (by_id_at (map emptied s.lines) p a) (get_emptied s.lines (p - 1)) }

none_left : (a b : Bool) (x : ℕ) (f : ℕ → Bool) (xs : List ℕ) → f x ≡ a → (a ≡ true → b ≡ false) → filter f xs ≡ [] → filter f (cond b (x ∷ xs) xs) ≡ []
none_left a false x f xs e h more = more
none_left true true x f xs e h more = let off : true ≡ false = h refl in cc
none_left false true x f xs e h more = rw e more

-- where each that passes f fails g, none passes both
pub filter_none : (f g : ℕ → Bool) → ((x : ℕ) → f x ≡ true → g x ≡ false) → (xs : List ℕ) → filter f (filter g xs) ≡ []
filter_none f g h [] = refl
filter_none f g h (x ∷ xs) = none_left (f x) (g x) x f (filter g xs) refl (h x) (filter_none f g h xs)

all_left : (a b : Bool) (x : ℕ) (f : ℕ → Bool) (xs ys : List ℕ) → f x ≡ a → (a ≡ true → b ≡ true) → filter f xs ≡ filter f ys → filter f (cond b (x ∷ xs) xs) ≡ filter f (x ∷ ys)
all_left a true x f xs ys e h more = rw more refl
all_left true false x f xs ys e h more = let on : false ≡ true = h refl in cc
all_left false false x f xs ys e h more = rw e more

-- where each that passes f passes g, g leaves out none of them
pub filter_within : (f g : ℕ → Bool) → ((x : ℕ) → f x ≡ true → g x ≡ true) → (xs : List ℕ) → filter f (filter g xs) ≡ filter f xs
filter_within f g h [] = refl
filter_within f g h (x ∷ xs) = all_left (f x) (g x) x f (filter g xs) xs refl (h x) (filter_within f g h xs)

-- the first item that passes is the one that is picked
pub record FirstOf (p : ℕ → Bool) (t : ℕ) (rest line : List ℕ) : Type 0 where
  pub others : List ℕ
  pub picked : pick p line ≡ Some (t, others)
  pub same : filter p others ≡ rest
  pub left : (q : ℕ → Bool) → q t ≡ false → filter q others ≡ filter q line

behind_first : (p : ℕ → Bool) (x t : ℕ) (rest line : List ℕ) → p x ≡ false → FirstOf p t rest line → FirstOf p t rest (x ∷ line)
behind_first p x t rest line off f = record {
  others = x ∷ f.others;
  picked = rw (off, f.picked) refl;
  same = rw off f.same;
  left = λ q h. rw (f.left q h) refl;
}

first_if : (b : Bool) (p : ℕ → Bool) (x t : ℕ) (rest line : List ℕ) → p x ≡ b → cond b (x ∷ filter p line) (filter p line) ≡ t ∷ rest → (filter p line ≡ t ∷ rest → FirstOf p t rest line) → FirstOf p t rest (x ∷ line)
first_if true p x t rest line e h more =
    let same : x ≡ t = cc in
    let left : filter p line ≡ rest = cc in
    record {
      others = line;
      picked = rw (e, same) refl;
      same = left;
      left = λ q h2. let off : q x ≡ false = rw same h2 in rw off refl;
    }
first_if false p x t rest line e h more = behind_first p x t rest line e (more h)

pub first_of : (p : ℕ → Bool) (t : ℕ) (rest : List ℕ) → (line : List ℕ) → filter p line ≡ t ∷ rest → FirstOf p t rest line
first_of p t rest [] h = absurd (cc h)
first_of p t rest (x ∷ line) h = first_if (p x) p x t rest line refl h (first_of p t rest line)

none_if : (b : Bool) (x : ℕ) (xs : List ℕ) (o : Option (ℕ × List ℕ)) (line : List ℕ) → cond b (x ∷ xs) xs ≡ [] → (xs ≡ [] → o ≡ None) → cond b (Some (x, line)) (behind x o) ≡ None
none_if true x xs o line h more = absurd (cc h)
none_if false x xs o line h more = rw (more h) refl

pub none_picked : (p : ℕ → Bool) → (line : List ℕ) → filter p line ≡ [] → pick p line ≡ None
none_picked p [] h = refl
none_picked p (x ∷ line) h = none_if (p x) x (filter p line) (pick p line) line h (none_picked p line)

-- a thread that runs
part_begun : (q p t : ℕ) (rest line others : List ℕ) (s n : Schedule) → 1 ≤ q → 1 ≤ p → p ≤ length s.lines → n.lines ≡ changed (drop 1) s.lines (q - 1) → ((u : ℕ) → is_of p (by_id n.threads u) ≡ is_of p (by_id s.threads u)) → is_of p (by_id s.threads t) ≡ (q == p) → line_of q s ≡ t ∷ rest → filter (λ u. is_of q (by_id s.threads u)) others ≡ rest → ((r : ℕ → Bool) → r t ≡ false → filter r others ≡ filter r line) → line_of p s ≡ filter (λ u. is_of p (by_id s.threads u)) line → CasesEq p q → line_of p n ≡ filter (λ u. is_of p (by_id n.threads u)) others
part_begun q p t rest line others s n a c d el same at first mine left part (Same e) =
    let f : line_of p s ≡ t ∷ rest = rw e first in
    let m : filter (λ u. is_of p (by_id s.threads u)) others ≡ rest = rw e mine in
    rw (el, ← e, line_same (drop 1) s.lines p c d, filter_ext _ _ same others, f, m) refl
part_begun q p t rest line others s n a c d el same at first mine left part (Other e) =
    let off : is_of p (by_id s.threads t) ≡ false = at ∙ eq_other q p (λ h. e (sym h)) in
    rw (el, line_other (drop 1) s.lines q p c a e, part, filter_ext _ _ same others) (sym (left (λ u. is_of p (by_id s.threads u)) off))

pub parts_begun : (q t : ℕ) (rest line : List ℕ) (s : Schedule) (thread : Thread) → 1 ≤ q → by_id s.threads t ≡ Some thread → thread.proc_no ≡ q → line_of q s ≡ t ∷ rest → (f : FirstOf (λ u. is_of q (by_id s.threads u)) t rest line) → AreLines s line → AreLines (begun q t s) f.others
parts_begun q t rest line s thread a e pe first f h = record {
  part = λ p c b.
      let d : p ≤ length s.lines = rw length-changed at b in
      part_begun q p t rest line f.others s (begun q t s) a c d refl
      (λ u. is_of_keeps (at_place Running) (place_keeps Running) p s.threads (t - 1) u)
      (is_of_made p (by_id s.threads t) thread e ∙ rw pe refl) first f.same f.left (h.part p c d) (cases_eq p q);
}

ready_by : (o : Option Thread) (t : ℕ) (a : Answer) (s : Schedule) (line : List ℕ) → by_id s.threads t ≡ o → IsPlace (proc_of o) s → AreLines s line → AreLines (readied t a s) (line ++ t ∷ [])
ready_by None t a s line e p h = let from = p.from in absurd (omega arith)
ready_by (Some thread) t a s line e p h = parts_readied t a s thread line e p.from p.to h

-- a thread that is ready, of whose proc nothing but its place is known
pub parts_ready : (t : ℕ) (a : Answer) (s n : Schedule) (line : List ℕ) → n ≡ readied t a s → IsPlace (proc_of (by_id s.threads t)) s → AreLines s line → AreLines n (line ++ t ∷ [])
parts_ready t a s n line e p h = rw e (ready_by (by_id s.threads t) t a s line refl p h)

pub parts_wait : (t : ℕ) (s n : Schedule) (line : List ℕ) → n ≡ waiting t s → AreLines s line → AreLines n line
parts_wait t s n line e h = rw e (parts_changed (at_place Waiting) (place_keeps Waiting) s (waiting t s) (t - 1) line refl refl h)

-- a line in which t doesn't stand has the same parts by tests that agree but for t
but_step : (t x : ℕ) (p q : ℕ → Bool) (xs : List ℕ) → ((u : ℕ) → u ≢ t → p u ≡ q u) → times (λ u. u == t) (x ∷ xs) ≡ 0 → (times (λ u. u == t) xs ≡ 0 → filter p xs ≡ filter q xs) → CasesEq x t → filter p (x ∷ xs) ≡ filter q (x ∷ xs)
but_step t x p q xs h none more (Same e) =
    let one : (x == t) ≡ true = rw e (eq_same t) in
    let no : 1 + times (λ u. u == t) xs ≡ 0 = rw one at none in
    absurd (omega arith)
but_step t x p q xs h none more (Other n) =
    let off : (x == t) ≡ false = eq_other x t n in
    let rest : 0 + times (λ u. u == t) xs ≡ 0 = rw off at none in
    let e = more (omega arith) in
    rw (h x n, e) refl

pub filter_but : (t : ℕ) (p q : ℕ → Bool) → ((u : ℕ) → u ≢ t → p u ≡ q u) → (xs : List ℕ) → times (λ u. u == t) xs ≡ 0 → filter p xs ≡ filter q xs
filter_but t p q h [] none = refl
filter_but t p q h (x ∷ xs) none = but_step t x p q xs h none (filter_but t p q h xs) (cases_eq x t)

-- a thread that is made
pub parts_made : (p : ℕ) (thread : Thread) (s n : Schedule) (line : List ℕ) → 1 ≤ p → p ≤ length s.lines → thread.proc_no ≡ p → n.threads ≡ s.threads ++ thread ∷ [] → n.lines ≡ changed (with_last (length s.threads + 1)) s.lines (p - 1) → times (λ u. u == length s.threads + 1) line ≡ 0 → AreLines s line → AreLines n (line ++ (length s.threads + 1) ∷ [])
parts_made p thread s n line a b pe te le none h =
    parts_last p (length s.threads + 1) s n line a b le
    (λ q. rw te (filter_but (length s.threads + 1) _ _ (λ u d. ap (is_of q) (by_id-push_other s.threads thread u d)) line none))
    (λ q. rw (te, by_id-push_new s.threads thread (length s.threads + 1) refl, pe) refl)
    h
