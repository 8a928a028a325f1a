-- Each legal history: what threads are told of the values that they received and sent is so.
use Rattle.std.proofs.Common.{◌≡◌, ℕ, zero, suc, ◌+◌, true, List, [], ◌∷◌, ◌++◌, length, Option, Some, refl, sym, subst, ap, ◌∙◌, append-nil, append_assoc, take}
use Rattle.std.specs.Prelude.{slice_get}
use Rattle.std.specs.List.{fold}
use Rattle.std.proofs.lemmas.List.Elements.{All-weaker}
use Rattle.p9_word.specs.declared.answer.Answer.{Answer}
use Rattle.p9_word.specs.declared.setup.Setup.{Setup}
use Rattle.p9_word.specs.declared.trail.Entry.{Entry}
use Rattle.p9_word.specs.declared.trail.Reply.{Reply}
use Rattle.p9_word.specs.declared.trail.Reply.TheVariants.{Turn}
use Rattle.p9_manual.specs.declared.state.Channel.{Channel}
use Rattle.p9_manual.specs.declared.state.Place.{Place}
use Rattle.p9_manual.specs.declared.state.Place.TheVariants.{Ready}
use Rattle.p9_manual.specs.Offers.{parties}
use Rattle.p9_manual.specs.History.{after_entry, IsLegalFrom}
use Rattle.p9_manual.specs.Sound.{IsSound}
use Rattle.p9_manual.specs.State.{Move, State}
use Rattle.p9_manual.specs.Step.{step, makes_entry}
use Rattle.p9_laws.specs.LastCall.{call_position, last_call}
use Rattle.p9_laws.specs.Moves.{moves_from}
use Rattle.p9_laws.specs.Receipts.{Receipt, receipts, received_at}
use Rattle.p9_laws.proofs.Moves.Moved.{moved_at, moves-first}
use Rattle.p9_laws.proofs.Moves.Sent.{asks_later}
use Rattle.p9_laws.proofs.Moves.Kept.{IsAsked}
use Rattle.p9_laws.proofs.Moves.Steps.{Follows, with_reply, step_follows}
use Rattle.p9_laws.proofs.Received.Agrees.{Agrees, IsRight, right_more}
use Rattle.p9_laws.proofs.Received.Grows.{Grows, grows_same, grows_then}
use Rattle.p9_laws.proofs.Received.Outcomes.{AreAsked}
use Rattle.p9_laws.proofs.Received.Steps.{step_right, step_position}

-- what holds of a state
abbrev pub AgreesIn : List Entry → State → List Move → List Receipt → (ℕ → Option ℕ) → Type 0
AgreesIn H s ms rs last = Agrees H ms rs last s.threads s.waits s.chans

-- each state after s is sound
abbrev pub SoundFrom : Setup → State → Type 0
SoundFrom setup s = (es : List Entry) → IsSound setup (fold (after_entry setup) s es)

entry_at : (e : Entry) (es : List Entry) → (P : List Entry) → slice_get (P ++ e ∷ es) (length P) ≡ Some e
entry_at e es [] = refl
entry_at e es (x ∷ P) = entry_at e es P

asked_in : (P more : List Entry) (ms : List Move) (s : State) → Follows P ms s → AreAsked (P ++ more) s
asked_in P more ms s f = All-weaker (IsAsked P) (IsAsked (P ++ more)) (λ w a. asks_later w.entries P more w.at a) (parties s.waits) f.kept.asked

-- what holds goes on with an entry of the history, which comes behind P
entry_right : (setup : Setup) (H P es : List Entry) (s : State) (e : Entry) (ms : List Move) (rs : List Receipt) (last : ℕ → Option ℕ) → P ++ e ∷ es ≡ H → SoundFrom setup s → e.reply ≡ (step setup e.seat e.event s).reply → makes_entry e.reply ≡ true → Follows P ms s → AgreesIn H s ms rs last → AgreesIn H (after_entry setup s e) (ms ++ moved_at setup e.seat e.event s) (rs ++ received_at e.reply) (λ u. call_position u s.position (last u) e.event)
entry_right setup H P es s e ms rs last is sound same makes f a =
    let here : slice_get H s.position ≡ Some e = subst (λ (K : List Entry). slice_get K s.position ≡ Some e) is (ap (slice_get (P ++ e ∷ es)) f.counted ∙ entry_at e es P) in
    let asked : AreAsked H s = subst (λ (K : List Entry). AreAsked K s) is (asked_in P (e ∷ es) ms s f) in
    let k = (step_right setup e.seat e.event s (sound [])).agrees (rw same at makes) H e.seat (with_reply e _ same (slice_get H s.position) here) asked ms rs last a in
    subst (λ (r : Reply). AgreesIn H (after_entry setup s e) (ms ++ moved_at setup e.seat e.event s) (rs ++ received_at r) (λ u. call_position u s.position (last u) e.event)) (sym same) k

entry_position : (setup : Setup) (s : State) (e : Entry) → e.reply ≡ (step setup e.seat e.event s).reply → makes_entry e.reply ≡ true → (after_entry setup s e).position ≡ s.position + 1
entry_position setup s e same makes = step_position setup e.seat e.event s (rw same at makes)

behind_one : (P es H : List Entry) (e : Entry) → P ++ e ∷ es ≡ H → (P ++ e ∷ []) ++ es ≡ H
behind_one P es H e is = append_assoc P (e ∷ []) es ∙ is

joined : (H : List Entry) (s : State) (ms mv mw mx : List Move) (rs r q : List Receipt) (n m : ℕ) (before : ℕ → Option ℕ) (es : List Entry) → mx ≡ mv ++ mw → n ≡ m → AgreesIn H s ((ms ++ mv) ++ mw) ((rs ++ r) ++ q) (λ u. last_call u n (before u) es) → AgreesIn H s (ms ++ mx) (rs ++ (r ++ q)) (λ u. last_call u m (before u) es)
joined H s ms mv mw mx rs r q n m before es e same a = rw (e, ← same, ← append_assoc ms mv mw, ← append_assoc rs r q) a

-- and with all entries that come behind P
pub history_right : (setup : Setup) (H : List Entry) → (es P : List Entry) (s : State) (ms : List Move) (rs : List Receipt) (last : ℕ → Option ℕ) → P ++ es ≡ H → SoundFrom setup s → IsLegalFrom setup s es → Follows P ms s → AgreesIn H s ms rs last → AgreesIn H (fold (after_entry setup) s es) (ms ++ moves_from setup s es) (rs ++ receipts es) (λ u. last_call u s.position (last u) es)
history_right setup H [] P s ms rs last is sound legal f a = rw (append-nil ms, append-nil rs) a
history_right setup H (e ∷ es) P s ms rs last is sound legal f a =
    joined H (fold (after_entry setup) (after_entry setup s e) es) ms (moved_at setup e.seat e.event s) (moves_from setup (after_entry setup s e) es) (moves_from setup s (e ∷ es)) rs (received_at e.reply) (receipts es) (after_entry setup s e).position (s.position + 1) (λ u. call_position u s.position (last u) e.event) es
    (moves-first setup s e es) (entry_position setup s e legal.0 legal.1)
    (history_right setup H es (P ++ e ∷ []) (after_entry setup s e) (ms ++ moved_at setup e.seat e.event s) (rs ++ received_at e.reply) (λ u. call_position u s.position (last u) e.event) (behind_one P es H e is) (λ more. sound (e ∷ more)) legal.2
    (step_follows setup P ms s e (sound []) legal.0 legal.1 f) (entry_right setup H P es s e ms rs last is sound legal.0 legal.1 f a))

-- no value is gone after a history
pub history_grows : (setup : Setup) → (es : List Entry) (s : State) → SoundFrom setup s → Grows (moves_from setup s es) s.chans (fold (after_entry setup) s es).chans
history_grows setup [] s sound = grows_same [] s.chans
history_grows setup (e ∷ es) s sound =
    rw (moves-first setup s e es)
    (grows_then (moved_at setup e.seat e.event s) (moves_from setup (after_entry setup s e) es) s.chans (after_entry setup s e).chans (fold (after_entry setup) s (e ∷ es)).chans
    (step_right setup e.seat e.event s (sound [])).grows (history_grows setup es (after_entry setup s e) (λ more. sound (e ∷ more))))

right_joined : (H : List Entry) (chans : List Channel) (ms mv mw mx : List Move) (n m t : ℕ) (found : Option ℕ) (es : List Entry) (pl : Place) → mx ≡ mv ++ mw → n ≡ m → IsRight H ((ms ++ mv) ++ mw) chans (last_call t n found es) t pl → IsRight H (ms ++ mx) chans (last_call t m found es) t pl
right_joined H chans ms mv mw mx n m t found es pl e same r = rw (e, ← same, ← append_assoc ms mv mw) r

-- what a history tells a thread at its turn is so, to the end
pub told_rightly : (setup : Setup) (H : List Entry) → (es P : List Entry) (s : State) (ms : List Move) (rs : List Receipt) (last : ℕ → Option ℕ) → P ++ es ≡ H → SoundFrom setup s → IsLegalFrom setup s es → Follows P ms s → AgreesIn H s ms rs last → (i t : ℕ) (a : Answer) (e : Entry) → slice_get es i ≡ Some e → e.reply ≡ Turn t a → IsRight H (ms ++ moves_from setup s es) (fold (after_entry setup) s es).chans (last_call t s.position (last t) (take i es)) t (Ready a)
told_rightly setup H [] P s ms rs last is sound legal f g i t a e at told = cc
told_rightly setup H (x ∷ es) P s ms rs last is sound legal f g zero t a e at told =
    let same : x ≡ e = cc in
    let turn : x.reply ≡ Turn t a = rw same told in
    let there = (step_right setup x.seat x.event s (sound [])).turns t a (sym legal.0 ∙ turn) in
    let right = rw there at (g.right t) in
    right_more H ms (moves_from setup s (x ∷ es)) s.chans (fold (after_entry setup) s (x ∷ es)).chans (last t) t (Ready a) (history_grows setup (x ∷ es) s sound) right
told_rightly setup H (x ∷ es) P s ms rs last is sound legal f g (suc i) t a e at told =
    right_joined H (fold (after_entry setup) (after_entry setup s x) es).chans ms (moved_at setup x.seat x.event s) (moves_from setup (after_entry setup s x) es) (moves_from setup s (x ∷ es)) (after_entry setup s x).position (s.position + 1) t (call_position t s.position (last t) x.event) (take i es) (Ready a)
    (moves-first setup s x es) (entry_position setup s x legal.0 legal.1)
    (told_rightly setup H es (P ++ x ∷ []) (after_entry setup s x) (ms ++ moved_at setup x.seat x.event s) (rs ++ received_at x.reply) (λ u. call_position u s.position (last u) x.event) (behind_one P es H x is) (λ more. sound (x ∷ more)) legal.2
    (step_follows setup P ms s x (sound []) legal.0 legal.1 f) (entry_right setup H P es s x ms rs last is sound legal.0 legal.1 f g) i t a e at told)
