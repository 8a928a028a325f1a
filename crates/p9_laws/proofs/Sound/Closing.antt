-- Channels that are closed: each thread that waits there is woken once, and then nobody waits there.
use Rattle.std.proofs.Common.{◌≡◌, inl, inr, ℕ, ◌+◌, ◌-◌, Bool, true, false, cond, ◌&&◌, eqb, List, [], ◌∷◌, map, Some, refl, ap, sym, subst, ◌∙◌, arith}
use Rattle.std.specs.List.{filter}
use Rattle.std.proofs.lemmas.Bool.{cases_eq, or_left, or_right, and_parts}
use Rattle.p9_word.specs.declared.answer.Answer.{Answer}
use Rattle.p9_word.specs.declared.setup.Setup.{Setup}
use Rattle.p9_manual.specs.declared.state.Channel.{Channel}
use Rattle.p9_manual.specs.declared.state.Waiter.{Waiter}
use Rattle.p9_manual.specs.declared.state.Party.{Party}
use Rattle.p9_manual.specs.Offers.{parties}
use Rattle.p9_manual.specs.AltEntries.{sends_on, receives_on, waits_on}
use Rattle.p9_manual.specs.Close.{closed_chan, failed_on, all_failed, all_woken, close_channel}
use Rattle.p9_manual.specs.State.{State, by_id, changed, waits_without}
use Rattle.p9_manual.specs.Standing.{times}
use Rattle.p9_manual.specs.Sound.{IsSound, IsWithin, WaitRightly}
use Rattle.p9_laws.proofs.Sound.Counts.{All-changed, cleared, all_kept, times_fewer}
use Rattle.p9_laws.proofs.Sound.Parties.{is_tid, WaitsInAlt, parties_without, times_parties}
use Rattle.p9_laws.proofs.Sound.Stand.{eqb_same, eqb_other, eqb_equal}
use Rattle.p9_laws.proofs.Sound.Entries.{waits_either}
use Rattle.p9_laws.proofs.Sound.Waits.{changed_rightly}
use Rattle.p9_laws.proofs.Sound.Outcomes.{IsFine, at_position, later_sound}
use Rattle.p9_laws.proofs.Sound.Woken.{with_ready, party_waits, woken_sound}
use Rattle.p9_laws.proofs.Sound.Alts.{with_chans, with_chans_sound}

-- thread u waits on channel c
abbrev on_by : ℕ → ℕ → Party → Bool
on_by c u p = waits_on c p && is_tid u p

-- those that are woken are those that wait on channel c, each as often
abbrev WakesAll : ℕ → List (ℕ × Answer) → List Waiter → Type 0
WakesAll c ws waits = (u : ℕ) → times (on_by c u) (parties waits) ≡ times (λ w. eqb w.0 u) ws

failed_step : (c u : ℕ) (b : Bool) (p : Party) (fs ps : List Party) → times (on_by c u) ps ≡ times (λ w. eqb w.0 u) (map (failed_on c) fs) → cond (b && is_tid u p) 1 0 + times (on_by c u) ps ≡ times (λ w. eqb w.0 u) (map (failed_on c) (cond b (p ∷ fs) fs))
failed_step c u true p fs ps e = ap (λ n. cond (is_tid u p) 1 0 + n) e
failed_step c u false p fs ps e = let k = e in omega (arith, k)

failed_all : (c u : ℕ) → (ps : List Party) → times (on_by c u) ps ≡ times (λ w. eqb w.0 u) (all_failed c ps)
failed_all c u [] = refl
failed_all c u (p ∷ ps) = failed_step c u (waits_on c p) p (filter (waits_on c) ps) ps (failed_all c u ps)

nobody_step : (c : ℕ) (b : Bool) (p : Party) (ps : List Party) → cond (b && is_tid p.tid p) 1 0 + times (on_by c p.tid) ps ≡ 0 → times (waits_on c) ps ≡ 0 → cond b 1 0 + times (waits_on c) ps ≡ 0
nobody_step c true p ps h rest = let one = ap (λ x. cond {A = ℕ} x 1 0) (eqb_same p.tid) in absurd (omega (arith, h, one))
nobody_step c false p ps h rest = omega (arith, rest)

-- where no thread waits on a channel nobody does
nobody_on : (c : ℕ) → (ps : List Party) → ((u : ℕ) → times (on_by c u) ps ≡ 0) → times (waits_on c) ps ≡ 0
nobody_on c [] h = refl
nobody_on c (p ∷ ps) h = nobody_step c (waits_on c p) p ps (h p.tid) (nobody_on c ps (λ u. let k = h u in omega (arith, k)))

on_by_is : (c u : ℕ) (p : Party) → on_by c u p ≡ true → is_tid u p ≡ true
on_by_is c u p h = (and_parts (waits_on c p) (is_tid u p) h).1

not_by : (b c : Bool) → (b ≡ true → c ≡ false) → (a : Bool) → b ≡ true → (a && c) ≡ false
not_by b c h true e = h e
not_by b c h false e = refl

-- the first of them waits in an alt, and is none of the others
first_waits : (setup : Setup) (s : State) (c : ℕ) (w : ℕ × Answer) (ws : List (ℕ × Answer)) → IsSound setup s → WakesAll c (w ∷ ws) s.waits → WaitsInAlt w.0 s.waits × (times (λ x. eqb x.0 w.0) ws ≡ 0)
first_waits setup s c w ws sound h =
    let here = h w.0 in
    let one = ap (λ x. cond {A = ℕ} x 1 0) (eqb_same w.0) in
    let fewer = times_fewer (on_by c w.0) (is_tid w.0) (on_by_is c w.0) (parties s.waits) in
    let waits : WaitsInAlt w.0 s.waits = omega (arith, here, one, fewer) in
    let once = (party_waits s.threads s.line s.waits w.0 sound.stand waits).1 in
    let all = times_parties w.0 s.waits in
    (waits, omega (arith, here, one, fewer, once, all))

-- once the first is woken, the others are left
rest_wakes : (setup : Setup) (s : State) (c : ℕ) (w : ℕ × Answer) (ws : List (ℕ × Answer)) → IsSound setup s → WakesAll c (w ∷ ws) s.waits → WakesAll c ws (waits_without w.0 s.waits)
rest_wakes setup s c w ws sound h u = elim (cases_eq u w.0) [
  | inl same ↦ subst (λ (x : ℕ). times (on_by c x) (parties (waits_without w.0 s.waits)) ≡ times (λ y. eqb y.0 x) ws) (sym same) here
  | inr ne ↦
      let k = h u in
      let zero = ap (λ x. cond {A = ℕ} x 1 0) (eqb_other w.0 u ne) in
      let left = ap (times (on_by c u)) (parties_without w.0 s.waits) in
      let kept = all_kept (on_by c u) (is_tid w.0) (λ p e. not_by (is_tid w.0 p) (is_tid u p) (λ f. ap (λ x. eqb x u) (eqb_equal p.tid w.0 f) ∙ eqb_other w.0 u ne) (waits_on c p) e) (parties s.waits) in
      omega (arith, k, zero, left, kept)
]
  where
    here : times (on_by c w.0) (parties (waits_without w.0 s.waits)) ≡ times (λ y. eqb y.0 w.0) ws
    here =
        let fewer = times_fewer (on_by c w.0) (is_tid w.0) (on_by_is c w.0) (parties (waits_without w.0 s.waits)) in
        let gone = ap (times (is_tid w.0)) (parties_without w.0 s.waits) ∙ cleared (is_tid w.0) (parties s.waits) in
        let none = (first_waits setup s c w ws sound h).1 in
        omega (arith, fewer, gone, none)

-- all are woken, and then nobody waits on the channel
all_woken_sound : (setup : Setup) (c : ℕ) → (ws : List (ℕ × Answer)) (s : State) → WakesAll c ws s.waits → IsSound setup s → IsSound setup (all_woken ws s) × (times (waits_on c) (parties (all_woken ws s).waits) ≡ 0)
all_woken_sound setup c [] s h sound = (sound, nobody_on c (parties s.waits) h)
all_woken_sound setup c (w ∷ ws) s h sound =
    all_woken_sound setup c ws (with_ready w.0 w.1 s) (rest_wakes setup s c w ws sound h) (woken_sound setup s w.0 w.1 (first_waits setup s c w ws sound h).0 sound)

-- the state with these channels and so many entries
abbrev with_both : List Channel → ℕ → State → State
with_both chans n s = record s { chans = chans; position = n }

-- who is woken changes neither
woken_with : (chans : List Channel) (n : ℕ) → (ws : List (ℕ × Answer)) (s : State) → all_woken ws (with_both chans n s) ≡ with_both chans n (all_woken ws s)
woken_with chans n [] s = refl
woken_with chans n (w ∷ ws) s = woken_with chans n ws (with_ready w.0 w.1 s)

none_sends : (c : ℕ) (ps : List Party) → times (waits_on c) ps ≡ 0 → times (sends_on c) ps ≡ 0
none_sends c ps h =
    let k = times_fewer (sends_on c) (waits_on c) (λ p e. waits_either c p ∙ or_left (sends_on c p) (receives_on c p) e) ps in
    omega (arith, k, h)

none_receives : (c : ℕ) (ps : List Party) → times (waits_on c) ps ≡ 0 → times (receives_on c) ps ≡ 0
none_receives c ps h =
    let k = times_fewer (receives_on c) (waits_on c) (λ p e. waits_either c p ∙ or_right (sends_on c p) (receives_on c p) e) ps in
    omega (arith, k, h)

pub close_channel_fine : (setup : Setup) (c : ℕ) (s : State) (chan : Channel) → by_id s.chans c ≡ Some chan → IsSound setup s → IsFine setup s.position (close_channel c s)
close_channel_fine setup c s chan at sound =
    record {
      sound = subst (λ (x : State). IsSound setup (at_position (s.position + 1) x)) (sym (woken_with shut s.position (all_failed c (parties s.waits)) s)) after;
      makes = refl;
      begins = tt;
    }
  where
    shut : List Channel
    shut = changed closed_chan s.chans (c - 1)

    done : IsSound setup (all_woken (all_failed c (parties s.waits)) s) × (times (waits_on c) (parties (all_woken (all_failed c (parties s.waits)) s).waits) ≡ 0)
    done = all_woken_sound setup c (all_failed c (parties s.waits)) s (λ u. failed_all c u (parties s.waits)) sound

    same : all_woken (all_failed c (parties s.waits)) s ≡ with_both s.chans s.position (all_woken (all_failed c (parties s.waits)) s)
    same = woken_with s.chans s.position (all_failed c (parties s.waits)) s

    woken_right : WaitRightly s.chans (all_woken (all_failed c (parties s.waits)) s).waits
    woken_right = subst (λ (x : List Channel). WaitRightly x (all_woken (all_failed c (parties s.waits)) s).waits) (ap (λ x. x.chans) same) done.0.waits_right

    right : WaitRightly (changed closed_chan s.chans (c - 1)) (all_woken (all_failed c (parties s.waits)) s).waits
    right = changed_rightly closed_chan s.chans (all_woken (all_failed c (parties s.waits)) s).waits c chan at woken_right (λ _. none_sends c _ done.1) (λ _. none_receives c _ done.1)

    closed : IsSound setup (with_chans (changed closed_chan s.chans (c - 1)) (all_woken (all_failed c (parties s.waits)) s))
    closed = with_chans_sound setup (all_woken (all_failed c (parties s.waits)) s) (changed closed_chan s.chans (c - 1)) right (All-changed IsWithin closed_chan (λ x h. h) s.chans (c - 1) sound.within) done.0

    after : IsSound setup (with_both (changed closed_chan s.chans (c - 1)) (s.position + 1) (all_woken (all_failed c (parties s.waits)) s))
    after = subst (λ (n : ℕ). IsSound setup (with_both (changed closed_chan s.chans (c - 1)) (n + 1) (all_woken (all_failed c (parties s.waits)) s))) (ap (λ x. x.position) same) (later_sound setup (with_chans (changed closed_chan s.chans (c - 1)) (all_woken (all_failed c (parties s.waits)) s)) closed)
