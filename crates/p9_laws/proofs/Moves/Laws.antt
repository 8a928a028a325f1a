-- What each legal history of a valid setup says of the values that moved: they move in the order of the calls that sent
-- them, none moves twice, and each was sent by the call at its position.
use Rattle.std.proofs.Common.{◌≡◌, ℕ, ◌+◌, ◌≤◌, Bool, eqb, List, [], ◌∷◌, map, Option, Some, None, refl, ap, subst, sym, ◌∙◌, arith}
use Rattle.std.specs.Prelude.{slice_get, option_map}
use Rattle.std.proofs.lemmas.List.Elements.{All-nil, All-weaker}
use Rattle.p9_word.specs.Setup.{IsValid}
use Rattle.p9_word.specs.declared.setup.Setup.{Setup}
use Rattle.p9_word.specs.declared.setup.ChanSetup.{ChanSetup}
use Rattle.p9_word.specs.declared.trail.Entry.{Entry}
use Rattle.p9_manual.specs.declared.state.Channel.{Channel}
use Rattle.p9_manual.specs.declared.state.Element.{Element}
use Rattle.p9_laws.specs.Moves.{elements_of, moves, PositionsRise, MovesOnce}
use Rattle.p9_laws.specs.Senders.{IsSendOf, IsSentThere, elsize_of, MovesSent}
use Rattle.p9_manual.specs.History.{new_channel, begin_state, state_after, IsLegal}
use Rattle.p9_manual.specs.Sound.{IsSound}
use Rattle.p9_manual.specs.Standing.{times}
use Rattle.p9_manual.specs.State.{Move, by_id}
use Rattle.p9_laws.proofs.Sound.Histories.{step_sound, state_sound}
use Rattle.p9_laws.proofs.Sound.Places.{by_id-map}
use Rattle.p9_laws.proofs.Moves.Rising.{Rises, rising_left}
use Rattle.p9_laws.proofs.Moves.Kept.{HeldRightly, MovedRightly, IsAsked, moved_positions, held_positions, front}
use Rattle.p9_laws.proofs.Moves.Steps.{Follows, history_follows}

new_held : (o : Option ChanSetup) → held_positions (option_map new_channel o) ≡ []
new_held None = refl
new_held (Some c) = refl

new_rightly : (c : ℕ) (o : Option ChanSetup) → HeldRightly [] c (option_map new_channel o)
new_rightly c None = tt
new_rightly c (Some x) = All-nil (λ (e : Element). IsSendOf c x.elsize e.msg (slice_get [] e.from))

none_new : (q : Element → Bool) → (cs : List ChanSetup) → times q (elements_of (map new_channel cs)) ≡ 0
none_new q [] = refl
none_new q (c ∷ cs) = none_new q cs

nothing_rises : (ns : List ℕ) → ns ≡ [] → Rises 0 ns []
nothing_rises ns none = rw none (record { rising = tt; below = All-nil (λ m. m + 1 ≤ 0) })

-- at the start nothing has moved, and there are no elements
pub begin_follows : (setup : Setup) → Follows [] [] (begin_state setup)
begin_follows setup =
    record {
      counted = refl;
      kept = record {
        rises = λ c. nothing_rises (held_positions (by_id (map new_channel setup.chans) c)) (ap held_positions (by_id-map new_channel setup.chans c) ∙ new_held (by_id setup.chans c));
        once = record {
          once = λ p. let z = none_new (λ (e : Element). eqb e.from p) setup.chans in omega (arith, z);
          none_yet = λ p h. let z = none_new (λ (e : Element). eqb e.from p) setup.chans in omega (arith, z);
        };
        moved = All-nil (MovedRightly [] (map new_channel setup.chans));
        held = λ c. subst (λ (o : Option Channel). HeldRightly [] c o) (sym (by_id-map new_channel setup.chans c)) (new_rightly c (by_id setup.chans c));
        asked = All-nil (IsAsked []);
      };
    }

begin_sound : (setup : Setup) → IsValid setup → IsSound setup (begin_state setup)
unfolding state_after
begin_sound setup valid = state_sound setup [] valid

-- what is known after each legal history
pub follows_after : (setup : Setup) (history : List Entry) → IsValid setup → IsLegal setup history → Follows history (moves setup history) (state_after setup history)
unfolding moves state_after
follows_after setup history valid legal =
    history_follows setup (λ s e sound. step_sound setup e.seat e.event s sound) history [] [] (begin_state setup) (begin_sound setup valid) legal (begin_follows setup)

pub positions_rise : (setup : Setup) (history : List Entry) → IsValid setup → IsLegal setup history → PositionsRise setup history
positions_rise setup history valid legal c =
    let s = state_after setup history in
    let ms = moves setup history in
    let r = (follows_after setup history valid legal).kept.rises c in
    rising_left (moved_positions c ms) (held_positions (by_id s.chans c)) (rising_left (front c ms (by_id s.chans c)) _ r.rising)

pub moves_once : (setup : Setup) (history : List Entry) → IsValid setup → IsLegal setup history → MovesOnce setup history
moves_once setup history valid legal position = let one = (follows_after setup history valid legal).kept.once.once position in omega (arith, one)

sent_there : (setup : Setup) (history : List Entry) (m : Move) → MovedRightly history (state_after setup history).chans m → IsSentThere setup history m
sent_there setup history m r = subst (λ size. IsSendOf m.chan size m.bytes (slice_get history m.from)) (sym (ap elsize_of r.there)) r.sent

pub moves_sent : (setup : Setup) (history : List Entry) → IsValid setup → IsLegal setup history → MovesSent setup history
moves_sent setup history valid legal =
    All-weaker (MovedRightly history (state_after setup history).chans) (IsSentThere setup history) (sent_there setup history) (moves setup history) (follows_after setup history valid legal).kept.moved
