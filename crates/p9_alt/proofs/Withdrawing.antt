-- The alts that wait, where those of some threads are withdrawn.
use Rattle.std.proofs.Common.{◌≡◌, ℕ, Bool, true, false, not, cond, eqb, List, [], ◌∷◌, ◌++◌, Option, Some, None, refl, sym, ap, ◌∙◌}
use Rattle.std.specs.List.{filter}
use Rattle.std.proofs.lemmas.List.Elements.{filter-append}
use Rattle.p9_manual.specs.declared.state.Waiter.{Waiter}
use Rattle.p9_manual.specs.Ends.{Gone, off_waits}
use Rattle.p9_manual.specs.Offers.{Alternation, alternation_of, parties, party_of, party_with}
use Rattle.p9_alt.specs.Exchange.{Exchange}
use Rattle.p9_alt.specs.For.{Tracks}
use Rattle.p9_alt.specs.Withdrawn.{withdrawn, withdrawn_where}

one_stays : (ends : Gone) (t at : ℕ) (b : Bool) (o : Option Alternation) → ends t ≡ b → filter (λ w. not (ends w.tid)) (party_with t at o) ≡ cond b [] (party_with t at o)
one_stays ends t at true None h = refl
one_stays ends t at false None h = refl
one_stays ends t at true (Some a) h = rw h refl
one_stays ends t at false (Some a) h = rw h refl

others_step : (ends : Gone) (b : Bool) (w : Waiter) (fs ws : List Waiter) → ends w.tid ≡ b → parties fs ≡ filter (λ x. not (ends x.tid)) (parties ws) → parties (cond (not b) (w ∷ fs) fs) ≡ filter (λ x. not (ends x.tid)) (party_of w ++ parties ws)
others_step ends true w fs ws h e = rw (filter-append (λ x. not (ends x.tid)) (party_of w) (parties ws), one_stays ends w.tid w.at true (alternation_of w.request) h) e
others_step ends false w fs ws h e =
    rw (filter-append (λ x. not (ends x.tid)) (party_of w) (parties ws), one_stays ends w.tid w.at false (alternation_of w.request) h) (ap (λ xs. party_of w ++ xs) e)

-- without the waits of some threads the alts of the others wait as before
others_of : (ends : Gone) (waits : List Waiter) → parties (filter (λ w. not (ends w.tid)) waits) ≡ filter (λ w. not (ends w.tid)) (parties waits)
others_of ends [] = refl
others_of ends (w ∷ ws) = others_step ends (ends w.tid) w (filter (λ x. not (ends x.tid)) ws) ws refl (others_of ends ws)

-- what has the alts of the others and the same channels stands for the state in which these threads wait no more
withdrawn_state : (ends : Gone) (old new : Exchange) → new.channels ≡ old.channels → new.waits ≡ filter (λ w. not (ends w.tid)) old.waits → Tracks (off_waits ends) old new
withdrawn_state ends old new chans waits s h = record {
  waits = waits ∙ (ap (filter (λ w. not (ends w.tid))) h.waits ∙ sym (others_of ends s.waits));
  chans = rw chans h.chans;
}

-- so does the exchange without their alts
pub withdrawn_where_state : (ends : Gone) (old new : Exchange) → new ≡ withdrawn_where ends old → Tracks (off_waits ends) old new
withdrawn_where_state ends old new e =
    withdrawn_state ends old new (ap (λ (x : Exchange). x.channels) e) (ap (λ (x : Exchange). x.waits) e)

-- or without the alt of one thread
pub withdrawn_one_state : (t : ℕ) (old new : Exchange) → new ≡ withdrawn t old → Tracks (off_waits (λ u. eqb u t)) old new
withdrawn_one_state t old new e =
    withdrawn_state (λ u. eqb u t) old new (ap (λ (x : Exchange). x.channels) e) (ap (λ (x : Exchange). x.waits) e)
