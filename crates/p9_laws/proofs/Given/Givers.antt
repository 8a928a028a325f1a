-- The entry that gave a thread its answer, as an event that gives it.
use Rattle.std.proofs.Common.{◌≡◌, inl, inr, ℕ, suc, false, List, refl, subst, add-one, take}
use Rattle.p9_word.specs.Setup.{IsValid}
use Rattle.p9_word.specs.declared.answer.Answer.{Answer}
use Rattle.p9_word.specs.declared.setup.Setup.{Setup}
use Rattle.p9_word.specs.declared.trail.Entry.{Entry}
use Rattle.p9_manual.specs.declared.state.Place.{Place}
use Rattle.p9_manual.specs.declared.state.Place.TheVariants.{Ready}
use Rattle.p9_manual.specs.History.{IsLegal}
use Rattle.p9_manual.specs.Standing.{place_of}
use Rattle.p9_manual.specs.State.{State}
use Rattle.p9_laws.specs.AltCauses.{Gives, is_answered}
use Rattle.p9_laws.specs.Given.{Awaits, IsGivenAt, place_before, state_before}
use Rattle.p9_laws.proofs.Sound.Histories.{state_sound}
use Rattle.p9_laws.proofs.Given.Entries.{is_at}
use Rattle.p9_laws.proofs.Given.Served.{IsCause, cause}

awaits_none : (pl : Place) (call at : ℕ) → Awaits pl call at → is_answered pl ≡ false
awaits_none pl call at (inl h) = let e = h.0 in rw e refl
awaits_none pl call at (inr h) = let e = h.0 in rw e refl

-- it is one
pub gives_at : (setup : Setup) (H : List Entry) → IsLegal setup H → (n t : ℕ) (a : Answer) (g : IsGivenAt setup H n t a) → Gives setup g.entry.seat g.entry.event (state_before setup H g.at) t a
gives_at setup H legal n t a g =
    let here = is_at setup H g.at g.entry legal g.is_there in
    let given : place_before setup H (suc g.at) t ≡ Ready a = subst (λ (m : ℕ). place_before setup H m t ≡ Ready a) (add-one g.at) g.given in
    record {
      before = awaits_none (place_before setup H g.at t) g.call g.at g.awaited;
      after = subst (λ (x : State). place_of x.threads t ≡ Ready a) here.next given;
    }

-- and has its cause
pub giver : (setup : Setup) (H : List Entry) → IsValid setup → IsLegal setup H → (n t : ℕ) (a : Answer) (g : IsGivenAt setup H n t a) → IsCause setup g.entry.seat g.entry.event (state_before setup H g.at) t a
giver setup H valid legal n t a g =
    cause setup g.entry.seat g.entry.event (state_before setup H g.at) t a (state_sound setup (take g.at H) valid) (gives_at setup H legal n t a g)
