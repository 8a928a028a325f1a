-- The requests on channels keep a sound state sound.
use Rattle.std.proofs.Common.{◌≡◌, inl, inr, ℕ, ◌+◌, ◌-◌, List, [], ◌∷◌, ◌++◌, length, Option, Some, None, refl, ap, sym, ◌∙◌, arith}
use Rattle.std.proofs.lemmas.Bool.{cases_eq}
use Rattle.std.proofs.lemmas.List.Elements.{All-push}
use Rattle.p9_word.specs.declared.setup.Setup.{Setup}
use Rattle.p9_word.specs.declared.answer.Answer.TheVariants.{Done, Number}
use Rattle.p9_word.specs.declared.request.ChanReq.{ChanReq}
use Rattle.p9_manual.specs.declared.state.Channel.{Channel}
use Rattle.p9_manual.specs.declared.state.Waiter.{Waiter}
use Rattle.p9_manual.specs.Offers.{Alternation, alternation}
use Rattle.p9_manual.specs.Close.{freed_chan}
use Rattle.p9_manual.specs.Chans.{empty_channel, by_alternation, chan_call}
use Rattle.p9_manual.specs.State.{State, Outcome, by_id, changed}
use Rattle.p9_manual.specs.Sound.{IsSound, IsWithin, WaitRightly, takes_sends, takes_receives}
use Rattle.p9_laws.proofs.AskedChans.{DoesToChans, Tells, MakesChannel, FreesChannel, ClosesChannel, on_channel_does}
use Rattle.p9_laws.proofs.Sound.Counts.{All-changed}
use Rattle.p9_laws.proofs.Sound.Places.{by_id-push_other, by_id-past}
use Rattle.p9_laws.proofs.Sound.Waits.{chans_rightly, changed_rightly}
use Rattle.p9_laws.proofs.Sound.Outcomes.{IsFine, RunsIn, now_fine}
use Rattle.p9_laws.proofs.Sound.Alts.{with_chans, with_chans_sound, alt_fine}
use Rattle.p9_laws.proofs.Sound.Closing.{close_channel_fine}

-- nobody waits on a channel that isn't made yet
created_rightly : (chans : List Channel) (waits : List Waiter) (chan : Channel) → WaitRightly chans waits → WaitRightly (chans ++ chan ∷ []) waits
created_rightly chans waits chan right =
    chans_rightly chans (chans ++ chan ∷ []) waits right
    (λ c h. elim (cases_eq c (length chans + 1)) [
      | inl new ↦ right.sends c (ap (λ x. takes_sends (by_id chans x)) new ∙ ap takes_sends (by_id-past chans))
      | inr ne ↦ right.sends c (sym (ap takes_sends (by_id-push_other chan chans c ne)) ∙ h)
    ])
    (λ c h. elim (cases_eq c (length chans + 1)) [
      | inl new ↦ right.receives c (ap (λ x. takes_receives (by_id chans x)) new ∙ ap takes_receives (by_id-past chans))
      | inr ne ↦ right.receives c (sym (ap takes_receives (by_id-push_other chan chans c ne)) ∙ h)
    ])

chans_fine : (setup : Setup) (s : State) (o : Outcome) → DoesToChans s o → IsSound setup s → IsFine setup s.position o
chans_fine setup s _ (Tells a) sound = now_fine setup s a sound
chans_fine setup s _ (MakesChannel cap elsize) sound =
    now_fine setup (with_chans (s.chans ++ empty_channel cap elsize ∷ []) s) (Number (length s.chans + 1))
    (with_chans_sound setup s (s.chans ++ empty_channel cap elsize ∷ []) (created_rightly s.chans s.waits (empty_channel cap elsize) sound.waits_right) (All-push IsWithin s.chans (empty_channel cap elsize) sound.within (omega arith)) sound)
chans_fine setup s _ (FreesChannel c chan at) sound =
    now_fine setup (with_chans (changed freed_chan s.chans (c - 1)) s) Done
    (with_chans_sound setup s (changed freed_chan s.chans (c - 1))
    (changed_rightly freed_chan s.chans s.waits c chan at sound.waits_right (λ h. sound.waits_right.sends c (ap takes_sends at ∙ h)) (λ h. sound.waits_right.receives c (ap takes_receives at ∙ h)))
    (All-changed IsWithin freed_chan (λ x h. h) s.chans (c - 1) sound.within) sound)
chans_fine setup s _ (ClosesChannel c chan at) sound = close_channel_fine setup c s chan at sound

by_alternation_fine : (setup : Setup) (t : ℕ) (r : ChanReq) (s : State) (o : Option Alternation) → alternation r ≡ o → IsSound setup s → RunsIn s t → IsFine setup s.position (by_alternation setup t r s o)
by_alternation_fine setup t r s None e sound runs = chans_fine setup s _ (on_channel_does r s) sound
by_alternation_fine setup t r s (Some a) e sound runs = alt_fine setup t r a s e sound runs

pub chan_call_fine : (setup : Setup) (t : ℕ) (r : ChanReq) (s : State) → IsSound setup s → RunsIn s t → IsFine setup s.position (chan_call setup t r s)
unfolding chan_call
chan_call_fine setup t r s sound runs = by_alternation_fine setup t r s (alternation r) refl sound runs
