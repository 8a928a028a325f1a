-- How a history goes on.
use Rattle.std.proofs.Common.{◌≡◌, ◌+◌, Bool, true, false, cond, List, [], ◌∷◌, ◌++◌, length, refl, sym, ap, ◌∙◌, length-append}
use Rattle.std.specs.List.{fold}
use Rattle.std.proofs.lemmas.Grind.{fold-append}
use Rattle.p9_word.specs.declared.trail.Reply.{Reply}
use Rattle.p9_word.specs.declared.setup.Setup.{Setup}
use Rattle.p9_word.specs.declared.trail.Entry.{Entry}
use Rattle.p9_word.specs.declared.trail.Seat.{Seat}
use Rattle.p9_word.specs.declared.trail.Event.{Event}
use Rattle.p9_manual.specs.State.{State}
use Rattle.p9_manual.specs.Step.{step, makes_entry, outcome, settled}
use Rattle.p9_manual.specs.History.{state_after, begin_state, after_entry, IsLegal, IsLegalFrom, with_entry}

pub state_after-push : (S : Setup) (H : List Entry) (e : Entry) → state_after S (H ++ e ∷ []) ≡ (step S e.seat e.event (state_after S H)).state
unfolding state_after
state_after-push S H e = fold-append (after_entry S) (begin_state S) H (e ∷ [])

legal_from-push : (S : Setup) (s : State) (H : List Entry) (e : Entry) → IsLegalFrom S s H → e.reply ≡ (step S e.seat e.event (fold (after_entry S) s H)).reply → makes_entry e.reply ≡ true → IsLegalFrom S s (H ++ e ∷ [])
legal_from-push S s [] e legal r m = (r, m, tt)
legal_from-push S s (x ∷ H) e legal r m = (legal.0, legal.1, legal_from-push S (after_entry S s x) H e legal.2 r m)

legal-push : (S : Setup) (H : List Entry) (e : Entry) → IsLegal S H → e.reply ≡ (step S e.seat e.event (state_after S H)).reply → makes_entry e.reply ≡ true → IsLegal S (H ++ e ∷ [])
unfolding state_after
legal-push S H e legal r m = legal_from-push S (begin_state S) H e legal r m

settled_counts : (b : Bool) (s n : State) → (settled b s n).position ≡ cond b (s.position + 1) s.position
settled_counts true s n = refl
settled_counts false s n = refl

step_counts : (S : Setup) (seat : Seat) (event : Event) (s : State) → (step S seat event s).state.position ≡ cond (makes_entry (step S seat event s).reply) (s.position + 1) s.position
unfolding step
step_counts S seat event s = settled_counts (makes_entry (outcome S seat event s).reply) s (outcome S seat event s).state

settled_quiet : (b : Bool) (s n : State) → b ≡ false → settled b s n ≡ s
settled_quiet true s n e = absurd (cc e)
settled_quiet false s n e = refl

step_quiet : (S : Setup) (seat : Seat) (event : Event) (s : State) → makes_entry (step S seat event s).reply ≡ false → (step S seat event s).state ≡ s
unfolding step
step_quiet S seat event s e = settled_quiet (makes_entry (outcome S seat event s).reply) s (outcome S seat event s).state e

-- a history goes on by one event
pub record GoesOn (S : Setup) (H : List Entry) (s : State) : Type 0 where
  pub state_is : s ≡ state_after S H
  pub legal : IsLegal S H
  pub counted : s.position ≡ length H

goes_on_by : (b : Bool) (S : Setup) (H : List Entry) (seat : Seat) (event : Event) → IsLegal S H → (state_after S H).position ≡ length H → makes_entry (step S seat event (state_after S H)).reply ≡ b → GoesOn S (cond b (H ++ record { seat = seat; event = event; reply = (step S seat event (state_after S H)).reply } ∷ []) H) (step S seat event (state_after S H)).state
goes_on_by true S H seat event legal counted makes =
    let e : Entry = record { seat = seat; event = event; reply = (step S seat event (state_after S H)).reply } in
    record {
      state_is = sym (state_after-push S H e);
      legal = legal-push S H e legal refl makes;
      counted = rw (step_counts, makes, length-append, counted) refl;
    }
goes_on_by false S H seat event legal counted makes = record {
  state_is = step_quiet S seat event (state_after S H) makes;
  legal = legal;
  counted = ap (λ (s : State). s.position) (step_quiet S seat event (state_after S H) makes) ∙ counted;
}

pub goes_on : (S : Setup) (H K : List Entry) (seat : Seat) (event : Event) (r : Reply) → IsLegal S H → (state_after S H).position ≡ length H → r ≡ (step S seat event (state_after S H)).reply → K ≡ with_entry H seat event r → GoesOn S K (step S seat event (state_after S H)).state
goes_on S H K seat event r legal counted re ke = rw (ke, re) (goes_on_by _ S H seat event legal counted refl)

pub state_after-begin : (S : Setup) → state_after S [] ≡ begin_state S
unfolding state_after
state_after-begin S = refl
