-- Lists whose items are changed by their ids, and the threads and procs after some threads have ended.
use Rattle.std.proofs.Common.{◌≡◌, ℕ, zero, suc, ◌+◌, Bool, true, false, not, cond, ◌&&◌, eqb, List, [], ◌∷◌, Option, Some, None, refl, ap, sym, ◌∙◌, arith, add-zero}
use Rattle.std.specs.Prelude.{All, slice_get, option_map}
use Rattle.std.specs.List.{list_any, AllByRecursion}
use Rattle.std.specs.Option.{is_some}
use Rattle.std.proofs.lemmas.List.Elements.{All-from_recursion, recursion_from_All}
use Rattle.p9_manual.specs.declared.state.Place.TheVariants.{Ended}
use Rattle.p9_manual.specs.declared.state.Thread.{Thread}
use Rattle.p9_manual.specs.Ends.{Gone, at_end, ended_if, quieted, dies_out, with_no_note}
use Rattle.p9_manual.specs.NoteCalls.{note_in}
use Rattle.p9_manual.specs.Places.{is_of, lives_in}
use Rattle.p9_manual.specs.Sound.{AreNotesRead}
use Rattle.p9_manual.specs.State.{Proc, by_id, each_from}
use Rattle.p9_laws.proofs.Standing.{by_id-suc}

next_id : (n i : ℕ) → suc n + i ≡ n + suc i
next_id n i = omega arith

slice_get-each_from : {A : Type 0} (f : ℕ → A → A) → (n : ℕ) (xs : List A) (i : ℕ) → slice_get (each_from f n xs) i ≡ option_map (f (n + i)) (slice_get xs i)
slice_get-each_from f n [] i = refl
slice_get-each_from f n (x ∷ xs) zero = ap (λ k. Some (f k x)) (sym (add-zero n))
slice_get-each_from f n (x ∷ xs) (suc i) = slice_get-each_from f (suc n) xs i ∙ ap (λ k. option_map (f k) (slice_get xs i)) (next_id n i)

first_id : (i : ℕ) → 1 + i ≡ suc i
first_id i = omega arith

-- each item, after all were changed by their ids
pub by_id-each_from : {A : Type 0} (f : ℕ → A → A) (xs : List A) (k : ℕ) → by_id (each_from f 1 xs) k ≡ option_map (f k) (by_id xs k)
by_id-each_from f xs zero = refl
by_id-each_from f xs (suc i) =
    by_id-suc (each_from f 1 xs) i ∙ slice_get-each_from f 1 xs i ∙ ap (λ k. option_map (f k) (slice_get xs i)) (first_id i) ∙ ap (option_map (f (suc i))) (sym (by_id-suc xs i))

asked_item : {A B : Type 0} (q : Option A → B) (f : A → A) → ((x : A) → q (Some (f x)) ≡ q (Some x)) → (o : Option A) → q (option_map f o) ≡ q o
asked_item q f same None = refl
asked_item q f same (Some x) = same x

-- what is asked of each item by its id, where the change leaves it
asked-each_from : {A B : Type 0} (q : Option A → B) (f : ℕ → A → A) → ((k : ℕ) (x : A) → q (Some (f k x)) ≡ q (Some x)) → (xs : List A) (k : ℕ) → q (by_id (each_from f 1 xs) k) ≡ q (by_id xs k)
asked-each_from q f same xs k = ap q (by_id-each_from f xs k) ∙ asked_item q (f k) (same k) (by_id xs k)

every_each_from : {A : Type 0} (P : A → Type 0) (f : ℕ → A → A) → ((k : ℕ) (x : A) → P x → P (f k x)) → (n : ℕ) (xs : List A) → AllByRecursion P xs → AllByRecursion P (each_from f n xs)
every_each_from P f keeps n [] h = tt
every_each_from P f keeps n (x ∷ xs) h = (keeps n x h.0, every_each_from P f keeps (suc n) xs h.1)

-- what the change keeps holds of all
pub All-each_from : {A : Type 0} (P : A → Type 0) (f : ℕ → A → A) → ((k : ℕ) (x : A) → P x → P (f k x)) → (n : ℕ) (xs : List A) → All P xs → All P (each_from f n xs)
All-each_from P f keeps n xs h = All-from_recursion P (each_from f n xs) (every_each_from P f keeps n xs (recursion_from_All P xs h))

-- a thread is in its proc when some have ended
pub proc_no-ended_if : (ends : Gone) (k : ℕ) (x : Thread) → (ended_if ends k x).proc_no ≡ x.proc_no
proc_no-ended_if ends k x = by_end (ends k)
  where
    by_end : (b : Bool) → (cond b (at_end x) x).proc_no ≡ x.proc_no
    by_end true = refl
    by_end false = refl

-- and has its program
pub program-ended_if : (ends : Gone) (k : ℕ) (x : Thread) → (ended_if ends k x).program ≡ x.program
program-ended_if ends k x = by_end (ends k)
  where
    by_end : (b : Bool) → (cond b (at_end x) x).program ≡ x.program
    by_end true = refl
    by_end false = refl

-- it is at its place or has ended
pub place-ended_if : (ends : Gone) (k : ℕ) (x : Thread) → (ended_if ends k x).place ≡ cond (ends k) Ended x.place
place-ended_if ends k x = by_end (ends k)
  where
    by_end : (b : Bool) → (cond b (at_end x) x).place ≡ cond b Ended x.place
    by_end true = refl
    by_end false = refl

-- each thread is one of its proc when some have ended
pub is_of-ended : (ends : Gone) (threads : List Thread) (p u : ℕ) → is_of p (by_id (each_from (ended_if ends) 1 threads) u) ≡ is_of p (by_id threads u)
is_of-ended ends threads p u = asked-each_from (is_of p) (ended_if ends) (λ k x. ap (λ n. eqb n p) (proc_no-ended_if ends k x)) threads u

-- no note is pending in a proc where nobody lives, once it was made quiet
pub quiet_read : (before after : List Thread) (procs : List Proc) → AreNotesRead procs before → AreNotesRead (each_from (quieted before after) 1 procs) after
quiet_read before after procs read p h = by_proc (by_id procs p) (read p) (sym (ap (λ o. is_some (note_in o)) (by_id-each_from (quieted before after) procs p)) ∙ h)
  where
    lives_still : (a b : Bool) → a ≡ true → (a && not b) ≡ false → b ≡ true
    lives_still true true e d = refl
    lives_still true false e d = cc
    lives_still false b e d = cc

    by_dying : (b : Bool) (proc : Proc) → dies_out before after p ≡ b → (is_some (note_in (Some proc)) ≡ true → list_any (lives_in p) before ≡ true) → is_some (note_in (Some (cond b (with_no_note proc) proc))) ≡ true → list_any (lives_in p) after ≡ true
    by_dying true proc d k n = cc
    by_dying false proc d k n = lives_still (list_any (lives_in p) before) (list_any (lives_in p) after) (k n) d

    by_proc : (o : Option Proc) → (is_some (note_in o) ≡ true → list_any (lives_in p) before ≡ true) → is_some (note_in (option_map (quieted before after p) o)) ≡ true → list_any (lives_in p) after ≡ true
    by_proc None k n = cc
    by_proc (Some proc) k n = by_dying (dies_out before after p) proc refl k n
