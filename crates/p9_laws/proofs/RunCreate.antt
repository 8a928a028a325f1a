-- What it keeps to make a thread: it is new, and stands last in the line and in the list of threads.
use Rattle.std.proofs.Common.{◌≡◌, ◌≢◌, ℕ, zero, suc, ◌+◌, ◌≤◌, Bool, true, false, eqb, List, [], ◌∷◌, ◌++◌, length, Option, Some, None, refl, ap, sym, subst, ◌∙◌, inl, inr, arith}
use Rattle.std.specs.Prelude.{slice_get}
use Rattle.std.proofs.lemmas.Bool.{cases_eq}
use Rattle.std.proofs.lemmas.Option.{slice_get_past}
use Rattle.p9_manual.specs.declared.state.Place.TheVariants.{New}
use Rattle.p9_manual.specs.declared.state.Thread.{Thread}
use Rattle.p9_manual.specs.State.{State, by_id}
use Rattle.p9_manual.specs.Create.{fresh, with_thread}
use Rattle.p9_laws.proofs.Tallies.{tally, tally-push}
use Rattle.p9_laws.proofs.Standing.{IsUp, place_of, place_in, times_waiting, times_in_line, by_id-suc}
use Rattle.p9_laws.proofs.RunMoves.{IsUpright, is_unborn, pushed_other, same_id}

suc_length : {A : Type 0} (xs : List A) → length xs + 1 ≡ suc (length xs)
suc_length xs = omega arith

slice_get-pushed : {A : Type 0} (x : A) → (xs : List A) → slice_get (xs ++ x ∷ []) (length xs) ≡ Some x
slice_get-pushed x [] = refl
slice_get-pushed x (y ∷ xs) = slice_get-pushed x xs

slice_get-before : {A : Type 0} (x : A) → (xs : List A) (i : ℕ) → i ≢ length xs → slice_get (xs ++ x ∷ []) i ≡ slice_get xs i
slice_get-before x [] zero ne = absurd (ne refl)
slice_get-before x [] (suc i) ne = refl
slice_get-before x (y ∷ xs) zero ne = refl
slice_get-before x (y ∷ xs) (suc i) ne = slice_get-before x xs i (λ e. ne (ap suc e))

-- the item that is put last has the next id
pub by_id-pushed : {A : Type 0} (x : A) (xs : List A) → by_id (xs ++ x ∷ []) (length xs + 1) ≡ Some x
by_id-pushed x xs = rw (suc_length xs) (by_id-suc (xs ++ x ∷ []) (length xs) ∙ slice_get-pushed x xs)

-- which no item had
pub by_id-next : {A : Type 0} (xs : List A) → by_id xs (length xs + 1) ≡ None
by_id-next xs = rw (suc_length xs) (by_id-suc xs (length xs) ∙ slice_get_past xs (length xs) (omega arith))

-- and the others stand where they stood
pub by_id-before : {A : Type 0} (x : A) (xs : List A) (u : ℕ) → u ≢ length xs + 1 → by_id (xs ++ x ∷ []) u ≡ by_id xs u
by_id-before x xs zero ne = refl
by_id-before x xs (suc i) ne =
    by_id-suc (xs ++ x ∷ []) i ∙ slice_get-before x xs i (λ e. ne (omega (arith, e))) ∙ sym (by_id-suc xs i)

-- what it keeps to make a thread with these parts
pub record IsMaking (s m : State) (p program arg group : ℕ) : Type 0 where
  pub up : (u : ℕ) → IsUp (place_of m.threads u) → IsUp (place_of s.threads u)
  pub unborn : (u : ℕ) → is_unborn (by_id m.threads u) ≡ true → is_unborn (by_id s.threads u) ≡ true
  pub tallies : (q : Thread → Bool) → q (fresh p program arg group) ≡ false → tally q m.threads ≤ tally q s.threads
  pub upright : IsUpright m
  pub stays : (u : ℕ) (x : Thread) → by_id s.threads u ≡ Some x → by_id m.threads u ≡ by_id s.threads u

made_place : (threads : List Thread) (p program arg group : ℕ) → place_of (threads ++ fresh p program arg group ∷ []) (length threads + 1) ≡ New
made_place threads p program arg group = rw (by_id-pushed (fresh p program arg group) threads) refl

next_place : {A : Type 0} (f : Option Thread → A) (threads : List Thread) → f (by_id threads (length threads + 1)) ≡ f None
next_place f threads = ap f (by_id-next threads)

pub making : (s : State) (p program arg group : ℕ) → IsUpright s → IsMaking s (with_thread p program arg group s) p program arg group
making s p program arg group upright =
    record {
      up = λ u h. elim (cases_eq u (length s.threads + 1)) [
        | inl e ↦ absurd (rw (e, made_place s.threads p program arg group) at h)
        | inr ne ↦ rw (by_id-before (fresh p program arg group) s.threads u ne) at h
      ];
      unborn = λ u h. elim (cases_eq u (length s.threads + 1)) [
        | inl e ↦ rw (e, by_id-next s.threads) refl
        | inr ne ↦ rw (by_id-before (fresh p program arg group) s.threads u ne) at h
      ];
      tallies = λ q h. let k = tally-push q false s.threads (fresh p program arg group) h in omega (arith, k);
      upright = record {
        in_line = λ u. elim (cases_eq u (length s.threads + 1)) [
          | inl e ↦
              let none = upright.in_line (length s.threads + 1) ∙ next_place (λ o. times_in_line (place_in o)) s.threads in
              let one = tally-push (λ x. eqb x (length s.threads + 1)) true s.line (length s.threads + 1) (same_id (length s.threads + 1)) in
              rw (e, made_place s.threads p program arg group) (omega (arith, none, one))
          | inr ne ↦ rw (by_id-before (fresh p program arg group) s.threads u ne) (pushed_other (length s.threads + 1) s.line u ne ∙ upright.in_line u)
        ];
        in_waits = λ u. elim (cases_eq u (length s.threads + 1)) [
          | inl e ↦
              let none = upright.in_waits (length s.threads + 1) ∙ next_place (λ o. times_waiting (place_in o)) s.threads in
              rw (e, made_place s.threads p program arg group) none
          | inr ne ↦ rw (by_id-before (fresh p program arg group) s.threads u ne) (upright.in_waits u)
        ];
        in_calls = upright.in_calls;
        short = upright.short;
      };
      stays = λ u x at. by_id-before (fresh p program arg group) s.threads u (λ e. let h = subst (λ (i : ℕ). by_id s.threads i ≡ Some x) e at in let n = by_id-next s.threads in cc (h, n));
    }
