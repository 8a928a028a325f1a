-- What the waits are to keep, where one is added, some are taken out or a channel changes.
use Rattle.std.proofs.Common.{◌≡◌, inl, inr, ◌⊎◌, ℕ, ◌+◌, ◌-◌, ◌≤◌, Bool, true, false, not, cond, eqb, List, [], ◌∷◌, ◌++◌, Option, Some, refl, ap, sym, subst, ◌∙◌, arith}
use Rattle.std.specs.List.{filter}
use Rattle.std.proofs.lemmas.Bool.{cases_eq, cases_Bool, or_from}
use Rattle.std.proofs.lemmas.List.Elements.{All-nil, All-push, All-filter}
use Rattle.p9_word.specs.declared.request.Request.TheVariants.{Io as IoRequest}
use Rattle.p9_word.specs.declared.request.IoReq.TheVariants.{IoRun}
use Rattle.p9_word.specs.declared.io_call.IoCall.{IoCall}
use Rattle.p9_manual.specs.declared.state.Channel.{Channel}
use Rattle.p9_manual.specs.declared.state.Waiter.{Waiter}
use Rattle.p9_manual.specs.declared.state.Party.{Party}
use Rattle.p9_manual.specs.Offers.{parties, party_of}
use Rattle.p9_manual.specs.AltEntries.{sends_on, receives_on, waits_on}
use Rattle.p9_manual.specs.State.{by_id, changed, waits_without}
use Rattle.p9_manual.specs.Standing.{times}
use Rattle.p9_manual.specs.Sound.{WaitRightly, can_wait, takes_sends, takes_receives}
use Rattle.p9_laws.proofs.Sound.Places.{by_id-changed_same, by_id-changed_other}
use Rattle.p9_laws.proofs.Sound.Entries.{waits_either, times_either}
use Rattle.p9_laws.proofs.Sound.Parties.{fewer_off, none_off, times_parties_push}

pub both : {A B C D : Type 0} → (A → C) → (B → D) → A ⊎ B → C ⊎ D
both f g (inl a) = inl (f a)
both f g (inr b) = inr (g b)

pub nobody_rightly : (chans : List Channel) → WaitRightly chans []
nobody_rightly chans =
    record { kinds = All-nil (λ (w : Waiter). can_wait w.request ≡ true); sends = λ c h. refl; receives = λ c h. refl; unpaired = λ c. inl refl }

-- without the waits of some threads
pub off_rightly : (chans : List Channel) (waits : List Waiter) (off : ℕ → Bool) → WaitRightly chans waits → WaitRightly chans (filter (λ w. not (off w.tid)) waits)
off_rightly chans waits off right =
    record {
      kinds = All-filter (λ w. not (off w.tid)) (λ (x : Waiter). can_wait x.request ≡ true) waits right.kinds;
      sends = λ c h. none_off (sends_on c) off waits (right.sends c h);
      receives = λ c h. none_off (receives_on c) off waits (right.receives c h);
      unpaired = λ c. both (none_off (sends_on c) off waits) (both (none_off (receives_on c) off waits) (few c)) (right.unpaired c);
    }
  where
    few : (c : ℕ) → times (waits_on c) (parties waits) ≤ 1 → times (waits_on c) (parties (filter (λ w. not (off w.tid)) waits)) ≤ 1
    few c h = let k = fewer_off (waits_on c) off waits in omega (arith, k, h)

-- without those of one
pub without_rightly : (chans : List Channel) (waits : List Waiter) (t : ℕ) → WaitRightly chans waits → WaitRightly chans (waits_without t waits)
without_rightly chans waits t right = off_rightly chans waits (λ u. eqb u t) right

-- with other channels
pub chans_rightly : (chans more : List Channel) (waits : List Waiter) → WaitRightly chans waits → ((c : ℕ) → takes_sends (by_id more c) ≡ true → times (sends_on c) (parties waits) ≡ 0) → ((c : ℕ) → takes_receives (by_id more c) ≡ true → times (receives_on c) (parties waits) ≡ 0) → WaitRightly more waits
chans_rightly chans more waits right sends receives = record { kinds = right.kinds; sends = sends; receives = receives; unpaired = right.unpaired }

-- with one channel changed, where nobody waits on it that could go on
pub changed_rightly : (f : Channel → Channel) (chans : List Channel) (waits : List Waiter) (c : ℕ) (chan : Channel) → by_id chans c ≡ Some chan → WaitRightly chans waits → (takes_sends (Some (f chan)) ≡ true → times (sends_on c) (parties waits) ≡ 0) → (takes_receives (Some (f chan)) ≡ true → times (receives_on c) (parties waits) ≡ 0) → WaitRightly (changed f chans (c - 1)) waits
changed_rightly f chans waits c chan e right sends receives =
    chans_rightly chans (changed f chans (c - 1)) waits right
    (λ d h. elim (cases_eq d c) [
      | inl same ↦ subst (λ (x : ℕ). times (sends_on x) (parties waits) ≡ 0) (sym same) (sends (sym (at_c takes_sends d same) ∙ h))
      | inr ne ↦ right.sends d (sym (ap takes_sends (by_id-changed_other f chans c d chan e ne)) ∙ h)
    ])
    (λ d h. elim (cases_eq d c) [
      | inl same ↦ subst (λ (x : ℕ). times (receives_on x) (parties waits) ≡ 0) (sym same) (receives (sym (at_c takes_receives d same) ∙ h))
      | inr ne ↦ right.receives d (sym (ap takes_receives (by_id-changed_other f chans c d chan e ne)) ∙ h)
    ])
  where
    at_c : (takes : Option Channel → Bool) (d : ℕ) → d ≡ c → takes (by_id (changed f chans (c - 1)) d) ≡ takes (Some (f chan))
    at_c takes d same = ap (λ x. takes (by_id (changed f chans (c - 1)) x)) same ∙ ap takes (by_id-changed_same f chans c chan e)

-- a thread that is about to wait couldn't go on: where it sends no send goes on and nobody waits to receive, and where it
-- receives no receive goes on and nobody waits to send
pub record CannotGoOn (chans : List Channel) (waits : List Party) (me : Party) : Type 0 where
  pub sends : (c : ℕ) → sends_on c me ≡ true → (takes_sends (by_id chans c) ≡ false) × (times (receives_on c) waits ≡ 0)
  pub receives : (c : ℕ) → receives_on c me ≡ true → (takes_receives (by_id chans c) ≡ false) × (times (sends_on c) waits ≡ 0)

-- with the wait of a thread that can't go on
pub more_rightly : (chans : List Channel) (waits : List Waiter) (w : Waiter) (me : Party) → party_of w ≡ me ∷ [] → can_wait w.request ≡ true → CannotGoOn chans (parties waits) me → WaitRightly chans waits → WaitRightly chans (waits ++ w ∷ [])
more_rightly chans waits w me e can stopped right =
    record {
      kinds = All-push (λ (x : Waiter). can_wait x.request ≡ true) waits w right.kinds can;
      sends = λ c h. elim (cases_Bool (sends_on c me)) [
        | inl s ↦ let f = (stopped.sends c s).0 in cc
        | inr isnt ↦ none_more (sends_on c) isnt (right.sends c h)
      ];
      receives = λ c h. elim (cases_Bool (receives_on c me)) [
        | inl r ↦ let f = (stopped.receives c r).0 in cc
        | inr isnt ↦ none_more (receives_on c) isnt (right.receives c h)
      ];
      unpaired = λ c. elim (cases_Bool (sends_on c me)) [
        | inl s ↦ elim (cases_Bool (receives_on c me)) [
          | inl r ↦ inr (inr (alone c (stopped.receives c r).1 (stopped.sends c s).1))
          | inr isnt ↦ inr (inl (none_more (receives_on c) isnt (stopped.sends c s).1))
        ]
        | inr isnt ↦ elim (cases_Bool (receives_on c me)) [
          | inl r ↦ inl (none_more (sends_on c) isnt (stopped.receives c r).1)
          | inr nor ↦ both (none_more (sends_on c) isnt) (both (none_more (receives_on c) nor) (few_more c isnt nor)) (right.unpaired c)
        ]
      ];
    }
  where
    count : (q : Party → Bool) (b : Bool) → q me ≡ b → times q (parties (waits ++ w ∷ [])) ≡ times q (parties waits) + (cond b 1 0 + 0)
    count q b h = times_parties_push q waits w ∙ ap (λ ps. times q (parties waits) + times q ps) e ∙ ap (λ x. times q (parties waits) + (cond x 1 0 + 0)) h

    none_more : (q : Party → Bool) → q me ≡ false → times q (parties waits) ≡ 0 → times q (parties (waits ++ w ∷ [])) ≡ 0
    none_more q f h = let k = count q false f in omega (arith, k, h)

    one_more : (b : Bool) → cond b 1 0 ≤ 1
    one_more true = omega arith
    one_more false = omega arith

    alone : (c : ℕ) → times (sends_on c) (parties waits) ≡ 0 → times (receives_on c) (parties waits) ≡ 0 → times (waits_on c) (parties (waits ++ w ∷ [])) ≤ 1
    alone c s r =
        let k = count (waits_on c) (waits_on c me) refl in
        let one = one_more (waits_on c me) in
        let sum = times_either c (parties waits) in
        omega (arith, k, one, sum, s, r)

    few_more : (c : ℕ) → sends_on c me ≡ false → receives_on c me ≡ false → times (waits_on c) (parties waits) ≤ 1 → times (waits_on c) (parties (waits ++ w ∷ [])) ≤ 1
    few_more c s r h = let k = count (waits_on c) false (waits_either c me ∙ or_from (sends_on c me) (receives_on c me) s r) in omega (arith, k, h)

abbrev calling : ℕ → ℕ → ℕ → IoCall → Waiter
calling t k at call = record { tid = t; request = IoRequest (IoRun k call); at = at }

-- a thread waits in a call through an ioproc
pub calling_rightly : (chans : List Channel) (waits : List Waiter) (t k at : ℕ) (call : IoCall) → WaitRightly chans waits → WaitRightly chans (waits ++ calling t k at call ∷ [])
calling_rightly chans waits t k at call right =
    record {
      kinds = All-push (λ (x : Waiter). can_wait x.request ≡ true) waits (calling t k at call) right.kinds refl;
      sends = λ c h. same (sends_on c) ∙ right.sends c h;
      receives = λ c h. same (receives_on c) ∙ right.receives c h;
      unpaired = λ c. both (λ h. same (sends_on c) ∙ h) (both (λ h. same (receives_on c) ∙ h) (few c)) (right.unpaired c);
    }
  where
    same : (q : Party → Bool) → times q (parties (waits ++ calling t k at call ∷ [])) ≡ times q (parties waits)
    same q = let k = times_parties_push q waits (calling t k at call) in omega (arith, k)

    few : (c : ℕ) → times (waits_on c) (parties waits) ≤ 1 → times (waits_on c) (parties (waits ++ calling t k at call ∷ [])) ≤ 1
    few c h = let k = same (waits_on c) in omega (arith, k, h)
