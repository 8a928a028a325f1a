-- The entry at a position of a legal history: what the state and the last calls are before it and after it.
use Rattle.std.proofs.Common.{◌≡◌, ℕ, zero, suc, ◌+◌, ◌≤◌, true, List, [], ◌∷◌, Option, Some, None, refl, subst, arith, take}
use Rattle.std.specs.Prelude.{slice_get}
use Rattle.std.specs.List.{fold}
use Rattle.p9_word.specs.declared.setup.Setup.{Setup}
use Rattle.p9_word.specs.declared.trail.Entry.{Entry}
use Rattle.p9_manual.specs.History.{IsLegal, IsLegalFrom, after_entry, begin_state, state_after}
use Rattle.p9_manual.specs.State.{State}
use Rattle.p9_manual.specs.Step.{makes_entry, step}
use Rattle.p9_laws.specs.Given.{state_before}
use Rattle.p9_laws.specs.LastCall.{call_before, call_position, last_call}

-- the entry is that at position n
pub record IsAt (setup : Setup) (history : List Entry) (n : ℕ) (e : Entry) : Type 0 where
  pub there : slice_get history n ≡ Some e
  pub next : state_before setup history (suc n) ≡ (step setup e.seat e.event (state_before setup history n)).state
  pub last : (t : ℕ) → call_before history (suc n) t ≡ call_position t n (call_before history n t) e.event
  pub reply : e.reply ≡ (step setup e.seat e.event (state_before setup history n)).reply
  pub makes : makes_entry (step setup e.seat e.event (state_before setup history n)).reply ≡ true

next_from : (setup : Setup) → (H : List Entry) (s : State) (n : ℕ) (e : Entry) → slice_get H n ≡ Some e → fold (after_entry setup) s (take (suc n) H) ≡ after_entry setup (fold (after_entry setup) s (take n H)) e
next_from setup [] s n e at = cc
next_from setup (x ∷ xs) s zero e at = let same : x ≡ e = cc in rw same refl
next_from setup (x ∷ xs) s (suc n) e at = next_from setup xs (after_entry setup s x) n e at

-- its reply is that of the step there
abbrev IsReplied : Setup → State → Entry → Type 0
IsReplied setup s e = (e.reply ≡ (step setup e.seat e.event s).reply) × (makes_entry e.reply ≡ true)

legal_from : (setup : Setup) → (H : List Entry) (s : State) (n : ℕ) (e : Entry) → slice_get H n ≡ Some e → IsLegalFrom setup s H → IsReplied setup (fold (after_entry setup) s (take n H)) e
legal_from setup [] s n e at legal = cc
legal_from setup (x ∷ xs) s zero e at legal = let same : x ≡ e = cc in subst (IsReplied setup s) same (legal.0, legal.1)
legal_from setup (x ∷ xs) s (suc n) e at legal = legal_from setup xs (after_entry setup s x) n e at legal.2

last_from : (t : ℕ) → (H : List Entry) (k : ℕ) (found : Option ℕ) (n : ℕ) (e : Entry) → slice_get H n ≡ Some e → last_call t k found (take (suc n) H) ≡ call_position t (k + n) (last_call t k found (take n H)) e.event
last_from t [] k found n e at = cc
last_from t (x ∷ xs) k found zero e at =
    let same : x ≡ e = cc in
    let here : k + 0 ≡ k = omega arith in
    rw (here, same) refl
last_from t (x ∷ xs) k found (suc n) e at =
    let later : k + suc n ≡ (k + 1) + n = omega arith in
    rw later (last_from t xs (k + 1) (call_position t k found x.event) n e at)

pub is_at : (setup : Setup) (H : List Entry) (n : ℕ) (e : Entry) → IsLegal setup H → slice_get H n ≡ Some e → IsAt setup H n e
unfolding state_after
is_at setup H n e legal at =
    let replied = legal_from setup H (begin_state setup) n e at legal in
    record {
      there = at;
      next = next_from setup H (begin_state setup) n e at;
      last = λ t.
          let k = last_from t H 0 None n e at in
          let same : 0 + n ≡ n = omega arith in
          subst (λ (m : ℕ). last_call t 0 None (take (suc n) H) ≡ call_position t m (last_call t 0 None (take n H)) e.event) same k;
      reply = replied.0;
      makes = rw (← replied.0) replied.1;
    }

-- where an entry is there, so is each before it
pub earlier : {A : Type 0} → (xs : List A) (n i : ℕ) (x : A) → slice_get xs i ≡ Some x → n ≤ i → (y : A) × (slice_get xs n ≡ Some y)
earlier [] n i x at le = cc
earlier (y ∷ ys) zero i x at le = (y, refl)
earlier (y ∷ ys) (suc n) zero x at le = absurd (omega (arith, le))
earlier (y ∷ ys) (suc n) (suc i) x at le = earlier ys n i x at (omega (arith, le))
