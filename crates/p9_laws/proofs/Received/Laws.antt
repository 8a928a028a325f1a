-- The laws on receipts and on values told sent, and the law that joins all six on communications.
use Rattle.std.proofs.Common.{◌≡◌, inl, inr, ℕ, zero, suc, ◌+◌, ◌-◌, ◌≤◌, Bool, true, eqb, List, [], ◌∷◌, map, Option, Some, None, refl, sym, ap, subst, arith}
use Rattle.std.specs.Prelude.{slice_get}
use Rattle.std.proofs.lemmas.List.Elements.{All-nil}
use Rattle.p9_word.specs.Setup.{IsValid}
use Rattle.p9_word.specs.declared.answer.Answer.{Answer}
use Rattle.p9_word.specs.declared.setup.Setup.{Setup}
use Rattle.p9_word.specs.declared.setup.ThreadSetup.{ThreadSetup}
use Rattle.p9_word.specs.declared.trail.Entry.{Entry}
use Rattle.p9_word.specs.declared.trail.Reply.TheVariants.{Turn}
use Rattle.p9_manual.specs.declared.state.Channel.{Channel}
use Rattle.p9_manual.specs.declared.state.Element.{Element}
use Rattle.p9_manual.specs.declared.state.Place.TheVariants.{Ready}
use Rattle.p9_laws.specs.LastCall.{last_call, call_before}
use Rattle.p9_laws.specs.Moves.{moves, times_moved, elements_of}
use Rattle.p9_laws.specs.Senders.{IsSendBy, elsize_of}
use Rattle.p9_laws.specs.Receipts.{receipts, ReceiptsMoved, ReceiptsOnce}
use Rattle.p9_laws.specs.ToldSent.{SendsKept}
use Rattle.p9_laws.specs.Communications.{OneToOne}
use Rattle.p9_manual.specs.History.{begin_state, state_after, IsLegal, new_thread, new_channel}
use Rattle.p9_manual.specs.Standing.{times, place_of, place_in}
use Rattle.p9_manual.specs.State.{Move, by_id}
use Rattle.p9_laws.proofs.Sound.Counts.{times-append}
use Rattle.p9_laws.proofs.Sound.Places.{by_id-suc, get_from_by_id}
use Rattle.p9_laws.proofs.Sound.Histories.{state_sound}
use Rattle.p9_laws.proofs.Moves.Senders.{is_itself}
use Rattle.p9_laws.proofs.Moves.Laws.{begin_follows, follows_after, positions_rise, moves_once, moves_sent}
use Rattle.p9_laws.proofs.Received.Places.{IsQuiet, dues}
use Rattle.p9_laws.proofs.Received.Agrees.{IsCaller, IsRight, right_quiet}
use Rattle.p9_laws.proofs.Received.Grows.{IsThere}
use Rattle.p9_laws.proofs.Received.Histories.{AgreesIn, SoundFrom, history_right, told_rightly}

begin_dues : (p : ℕ) → (xs : List ThreadSetup) → dues p (map new_thread xs) ≡ 0
begin_dues p [] = refl
begin_dues p (x ∷ xs) = rw (begin_dues p xs) refl

begin_quiet_at : (xs : List ThreadSetup) (i : ℕ) → IsQuiet (place_in (slice_get (map new_thread xs) i))
begin_quiet_at [] i = record { nothing = λ t. refl; unsent = refl }
begin_quiet_at (x ∷ xs) zero = record { nothing = λ t. refl; unsent = refl }
begin_quiet_at (x ∷ xs) (suc i) = begin_quiet_at xs i

begin_quiet : (xs : List ThreadSetup) (u : ℕ) → IsQuiet (place_of (map new_thread xs) u)
begin_quiet xs zero = record { nothing = λ t. refl; unsent = refl }
begin_quiet xs (suc i) = rw (by_id-suc (map new_thread xs) i) (begin_quiet_at xs i)

-- at the start nobody was told anything
begin_agrees : (setup : Setup) (H : List Entry) → AgreesIn H (begin_state setup) [] [] (λ u. None)
begin_agrees setup H =
    record {
      counts = λ p. let d = begin_dues p setup.threads in omega (arith, d);
      right = λ u. right_quiet H [] (map new_channel setup.chans) None u (place_of (map new_thread setup.threads) u) (begin_quiet setup.threads u);
      calls = All-nil (IsCaller (λ u. None));
    }

sound_from : (setup : Setup) → IsValid setup → SoundFrom setup (begin_state setup)
unfolding state_after
sound_from setup valid es = state_sound setup es valid

-- what holds after a legal history
after_history : (setup : Setup) (entries : List Entry) → IsValid setup → IsLegal setup entries → AgreesIn entries (state_after setup entries) (moves setup entries) (receipts entries) (λ u. last_call u 0 None entries)
unfolding state_after moves
after_history setup entries valid legal =
    history_right setup entries entries [] (begin_state setup) [] [] (λ u. None) refl (sound_from setup valid) legal (begin_follows setup) (begin_agrees setup entries)

pub receipts_once : (setup : Setup) (entries : List Entry) → IsValid setup → IsLegal setup entries → ReceiptsOnce setup entries
receipts_once setup entries valid legal position =
    let k = (after_history setup entries valid legal).counts position in
    let o = moves_once setup entries valid legal position in
    omega (arith, k, o)

-- what a thread is told at its turn is so after the whole history
told_after : (setup : Setup) (entries : List Entry) → IsValid setup → IsLegal setup entries → (i t : ℕ) (a : Answer) (e : Entry) → slice_get entries i ≡ Some e → e.reply ≡ Turn t a → IsRight entries (moves setup entries) (state_after setup entries).chans (call_before entries i t) t (Ready a)
unfolding state_after moves
told_after setup entries valid legal i t a e at told =
    told_rightly setup entries entries [] (begin_state setup) [] [] (λ u. None) refl (sound_from setup valid) legal (begin_follows setup) (begin_agrees setup entries) i t a e at told

pub receipts_moved : (setup : Setup) (entries : List Entry) → IsValid setup → IsLegal setup entries → ReceiptsMoved setup entries
receipts_moved setup entries valid legal i t a e at told = (told_after setup entries valid legal i t a e at told).receipts

counted_at : {A : Type 0} (q : A → Bool) → (xs : List A) (i : ℕ) (x : A) → slice_get xs i ≡ Some x → q x ≡ true → 1 ≤ times q xs
counted_at q [] i x at h = cc at
counted_at q (y ∷ ys) zero x at h = let same : y ≡ x = cc in rw (same, h) (omega arith)
counted_at q (y ∷ ys) (suc i) x at h = let k = counted_at q ys i x at h in omega (arith, k)

-- an element of one channel is one of all elements
counted_in : (q : Element → Bool) → (chans : List Channel) (i : ℕ) (chan : Channel) → slice_get chans i ≡ Some chan → times q chan.elements ≤ times q (elements_of chans)
counted_in q [] i chan at = cc at
counted_in q (x ∷ xs) zero chan at = let same : x ≡ chan = cc in let a = times-append q x.elements (elements_of xs) in rw (a, same) (omega arith)
counted_in q (x ∷ xs) (suc i) chan at =
    let a = times-append q x.elements (elements_of xs) in
    let k = counted_in q xs i chan at in
    omega (arith, a, k)

-- a value that is there is counted
there_counts : (c position : ℕ) (bytes : List ℕ) (ms : List Move) (chans : List Channel) → IsThere c position bytes ms chans → 1 ≤ times_moved position ms + times (λ (e : Element). eqb e.from position) (elements_of chans)
there_counts c position bytes ms chans (inl (t, i, at)) =
    let k = counted_at (λ (m : Move). eqb m.from position) ms i (record { chan = c; from = position; to = t; bytes = bytes }) at (is_itself position) in omega (arith, k)
there_counts c position bytes ms chans (inr (chan, i, here, at)) =
    let k = counted_at (λ (e : Element). eqb e.from position) chan.elements i (record { from = position; msg = bytes }) at (is_itself position) in
    let l = counted_in (λ (e : Element). eqb e.from position) chans (c - 1) chan (get_from_by_id chans c chan here) in
    omega (arith, k, l)

sized_in : (n c : ℕ) (bytes : List ℕ) (found : Option Entry) (chan : Channel) (o : Option Channel) → o ≡ Some chan → IsSendBy n c chan.elsize bytes found → IsSendBy n c (elsize_of o) bytes found
sized_in n c bytes found chan o e s = subst (λ (size : ℕ). IsSendBy n c size bytes found) (sym (ap elsize_of e)) s

pub sends_kept : (setup : Setup) (entries : List Entry) → IsValid setup → IsLegal setup entries → SendsKept setup entries
sends_kept setup entries valid legal i t n a e at told sent =
    let chans = (state_after setup entries).chans in
    let h = (told_after setup entries valid legal i t a e at told).sent n sent in
    let counts = there_counts h.c h.position h.bytes (moves setup entries) chans h.held in
    let once = (follows_after setup entries valid legal).kept.once.once h.position in
    record {
      position = h.position;
      chan = h.c;
      bytes = h.bytes;
      is_last = h.is_last;
      sent = sized_in n h.c h.bytes (slice_get entries h.position) h.chan (by_id chans h.c) h.is_chan h.sent;
      is_there = h.held;
      once = omega (arith, counts, once);
    }

-- the six laws on communications in one
pub one_to_one : (setup : Setup) (entries : List Entry) → IsValid setup → IsLegal setup entries → OneToOne setup entries
one_to_one setup entries valid legal =
    record {
      rise = positions_rise setup entries valid legal;
      once = moves_once setup entries valid legal;
      sent = moves_sent setup entries valid legal;
      receipts = receipts_moved setup entries valid legal;
      receipts_once = receipts_once setup entries valid legal;
      kept = sends_kept setup entries valid legal;
    }
