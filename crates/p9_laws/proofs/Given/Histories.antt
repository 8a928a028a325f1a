-- Each legal history: whoever stands ready with an answer was given it since its last call.
use Rattle.std.proofs.Common.{◌≡◌, inl, inr, ℕ, zero, suc, ◌+◌, ◌≤◌, true, false, List, [], ◌∷◌, map, Option, Some, refl, sym, subst, ap, ◌∙◌, add-one, arith, take}
use Rattle.std.specs.Prelude.{slice_get}
use Rattle.p9_word.specs.Setup.{IsValid}
use Rattle.p9_word.specs.declared.answer.Answer.{Answer}
use Rattle.p9_word.specs.declared.request.Request.{Request}
use Rattle.p9_word.specs.declared.setup.Setup.{Setup}
use Rattle.p9_word.specs.declared.setup.ThreadSetup.{ThreadSetup}
use Rattle.p9_word.specs.declared.trail.Entry.{Entry}
use Rattle.p9_word.specs.declared.trail.Event.{Event}
use Rattle.p9_word.specs.declared.trail.Event.TheVariants.{Call, Next, IoTake, IoDid}
use Rattle.p9_manual.specs.declared.state.Place.{Place}
use Rattle.p9_manual.specs.declared.state.Place.TheVariants.{Ready, Waiting}
use Rattle.p9_manual.specs.History.{IsLegal, new_thread, state_after}
use Rattle.p9_manual.specs.Places.{runs_there}
use Rattle.p9_manual.specs.Standing.{place_in, place_of}
use Rattle.p9_manual.specs.State.{State, by_id}
use Rattle.p9_laws.specs.Given.{AnswersGiven, IsGivenAt, place_before, state_before}
use Rattle.p9_laws.specs.LastCall.{call_before, call_position}
use Rattle.p9_laws.proofs.Received.Steps.{step_right}
use Rattle.p9_laws.proofs.Sound.Histories.{state_sound}
use Rattle.p9_laws.proofs.Sound.Places.{by_id-suc}
use Rattle.p9_laws.proofs.Sound.Running.{place_runs}
use Rattle.p9_laws.proofs.Sound.Stand.{eqb_same}
use Rattle.p9_laws.proofs.Given.Causes.{WokenAt}
use Rattle.p9_laws.proofs.Given.Entries.{IsAt, earlier, is_at}
use Rattle.p9_laws.proofs.Given.Goes.{Goes, Leaves, Stays, Wakes, is_apart}
use Rattle.p9_laws.proofs.Given.Ioprocs.{aligned}
use Rattle.p9_laws.proofs.Given.Steps.{Other, Own, Steps, is_call_of, step_steps}

-- before position n: whoever stands ready was given its answer, and whoever waits made a call
record IsDue (setup : Setup) (H : List Entry) (n t : ℕ) : Type 0 where
  pub answered : (a : Answer) → place_before setup H n t ≡ Ready a → IsGivenAt setup H n t a
  pub waits : place_before setup H n t ≡ Waiting → (c : ℕ) × (call_before H n t ≡ Some c) × (c + 1 ≤ n)

apart_answer : (pl : Place) (a : Answer) → is_apart pl ≡ true → pl ≡ Ready a → ⊥
apart_answer pl a h e = let z = ap is_apart e in cc (h, z)

apart_waits : (pl : Place) → is_apart pl ≡ true → pl ≡ Waiting → ⊥
apart_waits pl h e = let z = ap is_apart e in cc (h, z)

begin_at : (xs : List ThreadSetup) (j : ℕ) → is_apart (place_in (slice_get (map new_thread xs) j)) ≡ true
begin_at [] j = refl
begin_at (x ∷ xs) zero = refl
begin_at (x ∷ xs) (suc j) = begin_at xs j

begin_apart : (xs : List ThreadSetup) (t : ℕ) → is_apart (place_of (map new_thread xs) t) ≡ true
begin_apart xs zero = refl
begin_apart xs (suc j) = rw (by_id-suc (map new_thread xs) j) (begin_at xs j)

begin_due : (setup : Setup) (H : List Entry) (t : ℕ) → IsDue setup H 0 t
unfolding state_after
begin_due setup H t =
    record {
      answered = λ a e. absurd (apart_answer _ a (begin_apart setup.threads t) e);
      waits = λ e. absurd (apart_waits _ (begin_apart setup.threads t) e);
    }

other_position : (t n : ℕ) (found : Option ℕ) (event : Event) → is_call_of t event ≡ false → call_position t n found event ≡ found
other_position t n found (Call u r) h = rw h refl
other_position t n found Next h = refl
other_position t n found IoTake h = refl
other_position t n found (IoDid effect) h = refl

own_position : (t n : ℕ) (found : Option ℕ) (r : Request) → call_position t n found (Call t r) ≡ Some n
own_position t n found r = let e = eqb_same t in rw e refl

module _ (setup : Setup) (H : List Entry) (n : ℕ) (e : Entry) (here : IsAt setup H n e) (t : ℕ) where
  given_after : (a : Answer) → place_before setup H (suc n) t ≡ Ready a → place_before setup H (n + 1) t ≡ Ready a
  given_after a h = subst (λ (m : ℕ). place_before setup H m t ≡ Ready a) (sym (add-one n)) h

  own_last : (r : Request) → e.event ≡ Call t r → call_before H (suc n) t ≡ Some n
  own_last r is = here.last t ∙ ap (call_position t n (call_before H n t)) is ∙ own_position t n (call_before H n t) r

  other_last : is_call_of t e.event ≡ false → call_before H (suc n) t ≡ call_before H n t
  other_last ne = here.last t ∙ other_position t n (call_before H n t) e.event ne

  -- the caller is given an answer by its call
  own_due : (p : ℕ) (r : Request) → e.event ≡ Call t r → runs_there p (by_id (state_before setup H n).threads t) ≡ true → IsDue setup H (suc n) t
  own_due p r is runs =
      record {
        answered = λ a h.
            record {
              call = n;
              at = n;
              entry = e;
              is_last = own_last r is;
              is_before = omega arith;
              is_there = here.there;
              awaited = inl (place_runs p (by_id (state_before setup H n).threads t) runs, refl);
              given = given_after a h;
            };
        waits = λ h. (n, own_last r is, omega arith);
      }

  -- an answer that was given stays
  later : (a : Answer) → is_call_of t e.event ≡ false → IsGivenAt setup H n t a → IsGivenAt setup H (suc n) t a
  later a ne g =
      let le = g.is_before in
      record {
        call = g.call;
        at = g.at;
        entry = g.entry;
        is_last = other_last ne ∙ g.is_last;
        is_before = omega (arith, le);
        is_there = g.is_there;
        awaited = g.awaited;
        given = g.given;
      }

  -- a thread that waited is given one
  woken : (a : Answer) → is_call_of t e.event ≡ false → IsDue setup H n t → place_before setup H n t ≡ Waiting → place_before setup H (suc n) t ≡ Ready a → IsGivenAt setup H (suc n) t a
  woken a ne due waited h =
      let c = due.waits waited in
      record {
        call = c.0;
        at = n;
        entry = e;
        is_last = other_last ne ∙ c.1;
        is_before = omega arith;
        is_there = here.there;
        awaited = inr (waited, c.2);
        given = given_after a h;
      }

  other_answered : (P : Answer → Type 0) (before after : Place) → Goes P before after → place_before setup H n t ≡ before → place_before setup H (suc n) t ≡ after → is_call_of t e.event ≡ false → IsDue setup H n t → (a : Answer) → after ≡ Ready a → IsGivenAt setup H (suc n) t a
  other_answered P _ _ (Stays pl) b f ne due a h = later a ne (due.answered a (b ∙ h))
  other_answered P _ _ (Wakes x holds) b f ne due a h = woken a ne due b (f ∙ h)
  other_answered P _ _ (Leaves pl after apart) b f ne due a h = absurd (apart_answer after a apart h)

  other_waits : (P : Answer → Type 0) (before after : Place) → Goes P before after → place_before setup H n t ≡ before → is_call_of t e.event ≡ false → IsDue setup H n t → after ≡ Waiting → (c : ℕ) × (call_before H (suc n) t ≡ Some c) × (c + 1 ≤ suc n)
  other_waits P _ _ (Stays pl) b ne due h =
      let c = due.waits (b ∙ h) in
      let le = c.2 in
      (c.0, other_last ne ∙ c.1, omega (arith, le))
  other_waits P _ _ (Wakes x holds) b ne due h = cc
  other_waits P _ _ (Leaves pl after apart) b ne due h = absurd (apart_waits after apart h)

  step_due : (after : Place) → place_before setup H (suc n) t ≡ after → Steps setup (state_before setup H n) e.seat e.event t after → IsDue setup H n t → IsDue setup H (suc n) t
  step_due after f (Own p r seat is runs told) due = own_due p r is runs
  step_due after f (Other ne goes) due =
      record {
        answered = λ a h. other_answered (WokenAt (state_before setup H n) e.event t) _ after goes refl f ne due a (sym f ∙ h);
        waits = λ h. other_waits (WokenAt (state_before setup H n) e.event t) _ after goes refl ne due (sym f ∙ h);
      }

-- what the entry at a position makes of the place of a thread
pub steps_at : (setup : Setup) (H : List Entry) → IsValid setup → (n : ℕ) (e : Entry) → IsAt setup H n e → (t : ℕ) → Steps setup (state_before setup H n) e.seat e.event t (place_before setup H (suc n) t)
steps_at setup H valid n e here t =
    let s = state_before setup H n in
    subst (λ (x : State). Steps setup s e.seat e.event t (place_of x.threads t)) (sym here.next)
    (step_steps setup e.seat e.event s (aligned setup s (state_sound setup (take n H) valid)) t here.makes)

history_due : (setup : Setup) (H : List Entry) → IsValid setup → IsLegal setup H → (n i : ℕ) (e : Entry) → slice_get H i ≡ Some e → n ≤ i → (t : ℕ) → IsDue setup H n t
history_due setup H valid legal zero i e at le t = begin_due setup H t
history_due setup H valid legal (suc n) i e at le t =
    let x = earlier H n i e at (omega (arith, le)) in
    let here = is_at setup H n x.0 legal x.1 in
    step_due setup H n x.0 here t (place_before setup H (suc n) t) refl (steps_at setup H valid n x.0 here t)
    (history_due setup H valid legal n i e at (omega (arith, le)) t)

pub answers_given : (setup : Setup) (H : List Entry) → IsValid setup → IsLegal setup H → AnswersGiven setup H
answers_given setup H valid legal i t a e at told =
    let here = is_at setup H i e legal at in
    (history_due setup H valid legal i i e at (omega arith) t).answered a
    ((step_right setup e.seat e.event (state_before setup H i) (state_sound setup (take i H) valid)).turns t a (sym here.reply ∙ told))
