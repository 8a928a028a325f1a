-- The draw that an alt makes.
use Rattle.std.proofs.Common.{◌≡◌, ℕ, suc, ◌+◌, ◌<◌, ◌≤◌, Bool, true, false, cond, List, [], ◌∷◌, length, refl, ap, sym, ◌∙◌, arith, rules, tests}
use Rattle.std.specs.Prelude.{nat_lt, ◌==◌}
use Rattle.rand_pcg.specs.Lcg.{Lcg}
use Rattle.rand_pcg.specs.Pcg.{pcg32}
use Rattle.p9_word.specs.declared.alt.AltEntry.{AltEntry}
use Rattle.p9_word.specs.declared.alt.Ending.{Ending}
use Rattle.p9_manual.specs.declared.state.Channel.{Channel}
use Rattle.p9_manual.specs.declared.state.Party.{Party}
use Rattle.p9_manual.specs.ReadyEntries.{is_ready, ready_entries, numbers_of, fits}
use Rattle.p9_manual.specs.Draws.{generator_after, draw_after}
use Rattle.p9_manual.specs.Alt.{verdict, needs_draw}
use Rattle.p9_manual.specs.Standing.{times}
use Rattle.p9_alt.specs.Exchange.{others}
use Rattle.p9_alt.specs.For.{AreAlike}
use Rattle.p9_chan_calls.proofs.AlikeDeals.{alike_ready}
use Rattle.p9_chan_calls.proofs.Closing.{filter_none}
use Rattle.p9_chan_calls.proofs.Verdicts.{any_draw, draws_where, drawn}

-- an alt is decided as by the next draw, and the generator is where it leads, whether a draw is made or not
pub record IsDrawn (start draws draw : ℕ) (generator : Lcg) (me : Party) (ending : Ending) (chans : List Channel) (ps : List Party) : Type 0 where
  pub decides : verdict draw me ending chans ps ≡ verdict (draw_after start draws) me ending chans ps
  pub after : generator ≡ generator_after start (cond (nat_lt 1 (length (ready_entries chans ps me.entries))) (draws + 1) draws)

drawn_if : (b : Bool) (start draws draw : ℕ) (generator : Lcg) (me : Party) (ending : Ending) (chans : List Channel) (ps : List Party) → nat_lt 1 (length (ready_entries chans ps me.entries)) ≡ b → (draw, generator) ≡ cond {A = ℕ × Lcg} b (pcg32 (generator_after start draws)) (0, generator_after start draws) → IsDrawn start draws draw generator me ending chans ps
drawn_if true start draws draw generator me ending chans ps e h = record {
  decides = ap (λ (w : ℕ). verdict w me ending chans ps) (ap (λ (x : ℕ × Lcg). x.0) h);
  after = rw e (ap (λ (x : ℕ × Lcg). x.1) h ∙ drawn start draws);
}
drawn_if false start draws draw generator me ending chans ps e h = record {
  decides = any_draw draw (draw_after start draws) me ending chans ps (search (rules, tests));
  after = rw e (ap (λ (x : ℕ × Lcg). x.1) h);
}

-- by the draw that the generator gives
pub drawn_by : (start draws draw : ℕ) (old new : Lcg) (me : Party) (ending : Ending) (chans : List Channel) (ps : List Party) → old ≡ generator_after start draws → (draw, new) ≡ cond {A = ℕ × Lcg} (nat_lt 1 (length (ready_entries chans ps me.entries))) (pcg32 old) (0, old) → IsDrawn start draws draw new me ending chans ps
drawn_by start draws draw old new me ending chans ps e h =
    drawn_if (nat_lt 1 (length (ready_entries chans ps me.entries))) start draws draw new me ending chans ps refl (h ∙ ap (λ (g : Lcg). cond {A = ℕ × Lcg} (nat_lt 1 (length (ready_entries chans ps me.entries))) (pcg32 g) (0, g)) e)

-- a draw is made on one of two lists of channels that are alike exactly where it is on the other
pub draws_alike : (a b : List Channel) (ps : List Party) (entries : List AltEntry) → AreAlike a b → fits a entries ≡ true → nat_lt 1 (length (ready_entries a ps entries)) ≡ needs_draw b ps entries
draws_alike a b ps entries h f = ap (λ (ns : List ℕ). nat_lt 1 (length ns)) (alike_ready a b ps entries h f) ∙ sym (draws_where b ps entries)

-- the same entries are ready where the caller, which doesn't wait, isn't counted
pub others_ready : (chans : List Channel) (t : ℕ) (ps : List Party) (entries : List AltEntry) → times (λ w. w.tid == t) ps ≡ 0 → length (ready_entries chans (others t ps) entries) ≡ length (ready_entries chans ps entries)
others_ready chans t ps entries none = ap (λ (ws : List Party). length (ready_entries chans ws entries)) (filter_none (λ w. w.tid == t) ps none)

few_by : (b : Bool) (i : ℕ) (ns : List ℕ) (n : ℕ) → length ns ≤ n → length (cond b (i ∷ ns) ns) ≤ suc n
few_by true i ns n h = omega arith
few_by false i ns n h = omega arith

few_from : (p : AltEntry → Bool) (i : ℕ) → (es : List AltEntry) → length (numbers_of p i es) ≤ length es
few_from p i [] = omega arith
few_from p i (e ∷ es) = few_by (p e) i (numbers_of p (suc i) es) (length es) (few_from p (suc i) es)

-- no more are ready than there are
pub few_ready : (chans : List Channel) (ps : List Party) (entries : List AltEntry) → length (ready_entries chans ps entries) ≤ length entries
few_ready chans ps entries = few_from (is_ready chans ps) 0 entries

-- there is no choice, and no draw is made
pub no_choice : (n : ℕ) (g : Lcg) → n < 2 → ◌≡◌ {A = ℕ × Lcg} (0, g) (cond (nat_lt 1 n) (pcg32 g) (0, g))
no_choice n g lt = let none : nat_lt 1 n ≡ false = search (rules, tests) in rw none refl

-- there is one, and a draw is
pub a_choice : (n : ℕ) (g : Lcg) (draw : ℕ) (h : Lcg) → 2 ≤ n → ◌≡◌ {A = ℕ × Lcg} (draw, h) (pcg32 g) → ◌≡◌ {A = ℕ × Lcg} (draw, h) (cond (nat_lt 1 n) (pcg32 g) (0, g))
a_choice n g draw h le e = let more : nat_lt 1 n ≡ true = search (rules, tests) in rw more e
