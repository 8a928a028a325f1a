-- An entry that goes on wakes a thread that waits, and tells it of an entry that went on.
use Rattle.std.proofs.Common.{◌≡◌, ℕ, Bool, true, false, cond, List, [], ◌∷◌, ◌++◌, Option, Some, None, refl, subst}
use Rattle.std.specs.Prelude.{All, slice_get}
use Rattle.std.specs.List.{find}
use Rattle.std.proofs.lemmas.List.Elements.{All-append, All-cons, All-head, All-nil, All-tail}
use Rattle.p9_word.specs.declared.alt.AltEntry.{AltEntry}
use Rattle.p9_word.specs.declared.alt.AltOp.{AltOp}
use Rattle.p9_word.specs.declared.alt.AltOp.TheVariants.{Snd, Rcv, Nop}
use Rattle.p9_word.specs.declared.alt.Slot.{Slot}
use Rattle.p9_word.specs.declared.answer.Answer.{Answer}
use Rattle.p9_manual.specs.declared.state.Channel.{Channel}
use Rattle.p9_manual.specs.declared.state.Element.{Element}
use Rattle.p9_manual.specs.declared.state.Party.{Party}
use Rattle.p9_manual.specs.declared.state.Place.TheVariants.{Waiting}
use Rattle.p9_manual.specs.declared.state.Thread.{Thread}
use Rattle.p9_manual.specs.declared.state.Waiter.{Waiter}
use Rattle.p9_manual.specs.AltEntries.{first_number, first_slot, receives_from, receives_on, sends_on, sends_to}
use Rattle.p9_manual.specs.Commit.{Deal, commit, commit_entry, commit_op, commit_send, element, hand_over, pass_on, receive_from, sender_woken, take_over}
use Rattle.p9_manual.specs.Offers.{Alternation, alternation_of, parties, party_of, party_with}
use Rattle.p9_manual.specs.ReadyEntries.{is_unbuffered}
use Rattle.p9_manual.specs.Standing.{place_of}
use Rattle.p9_manual.specs.State.{by_id}
use Rattle.p9_manual.specs.Told.{got_answer, kept_bytes, receiver_answer, sender_answer, sent_answer, sent_bytes}
use Rattle.p9_laws.proofs.Tallies.{found_holds}
use Rattle.p9_laws.proofs.Given.Causes.{passes}
use Rattle.p9_laws.proofs.Given.Goes.{Rests}

-- each of these waits
abbrev pub PartiesRest : List Thread → List Party → Type 0
PartiesRest threads ps = All (λ w. place_of threads w.tid ≡ Waiting) ps

one_rests : (threads : List Thread) (t at : ℕ) (o : Option Alternation) → place_of threads t ≡ Waiting → PartiesRest threads (party_with t at o)
one_rests threads t at None h = All-nil (λ w. place_of threads w.tid ≡ Waiting)
one_rests threads t at (Some a) h = All-cons (λ w. place_of threads w.tid ≡ Waiting) (record { tid = t; at = at; single = a.single; entries = a.entries }) [] h (All-nil (λ w. place_of threads w.tid ≡ Waiting))

pub parties_rest : (threads : List Thread) → (waits : List Waiter) → Rests threads waits → PartiesRest threads (parties waits)
parties_rest threads [] rests = All-nil (λ w. place_of threads w.tid ≡ Waiting)
parties_rest threads (w ∷ ws) rests =
    All-append (λ p. place_of threads p.tid ≡ Waiting) (party_of w) (parties ws)
    (one_rests threads w.tid w.at (alternation_of w.request) (All-head (λ x. place_of threads x.tid ≡ Waiting) w ws rests))
    (parties_rest threads ws (All-tail (λ x. place_of threads x.tid ≡ Waiting) w ws rests))

-- who is woken waits, and is told of an entry that went on
abbrev pub WakesRightly : List Thread → Option (ℕ × Answer) → Type 0
WakesRightly threads o = (w : ℕ × Answer) → o ≡ Some w → (place_of threads w.0 ≡ Waiting) × (passes w.1 ≡ true)

wakes_nobody : (threads : List Thread) → WakesRightly threads None
wakes_nobody threads w e = cc

wakes_one : (threads : List Thread) (t : ℕ) (a : Answer) → place_of threads t ≡ Waiting → passes a ≡ true → WakesRightly threads (Some (t, a))
wakes_one threads t a waits told w e =
    let same_thread : t ≡ w.0 = cc in
    let same_answer : a ≡ w.1 = cc in
    (subst (λ (x : ℕ). place_of threads x ≡ Waiting) same_thread waits, subst (λ (x : Answer). passes x ≡ true) same_answer told)

sent_passes : (single : Bool) (i : ℕ) → passes (sent_answer single i) ≡ true
sent_passes true i = refl
sent_passes false i = refl

got_passes : (single : Bool) (i from : ℕ) (bytes : List ℕ) → passes (got_answer single i from bytes) ≡ true
got_passes true i from bytes = refl
got_passes false i from bytes = refl

module _ (threads : List Thread) (waits : List Party) (rest : PartiesRest threads waits) where
  if_rightly : (b : Bool) (d e : Deal) → WakesRightly threads d.woken → WakesRightly threads e.woken → WakesRightly threads (cond b d e).woken
  if_rightly true d e f g = f
  if_rightly false d e f g = g

  found_rests : (p : Party → Bool) (w : Party) → find p waits ≡ Some w → place_of threads w.tid ≡ Waiting
  found_rests p w e = found_holds (λ x. place_of threads x.tid ≡ Waiting) p w waits rest e

  receiver_rightly : (c from : ℕ) (bytes : List ℕ) (w : Party) → place_of threads w.tid ≡ Waiting → WakesRightly threads (Some (w.tid, receiver_answer c from bytes w))
  receiver_rightly c from bytes w h = wakes_one threads w.tid (receiver_answer c from bytes w) h (got_passes w.single (first_number (receives_from c) w.entries) from (kept_bytes (first_slot (receives_from c) w.entries) bytes))

  sender_rightly : (c : ℕ) (w : Party) → place_of threads w.tid ≡ Waiting → WakesRightly threads (Some (w.tid, sender_answer c w))
  sender_rightly c w h = wakes_one threads w.tid (sender_answer c w) h (sent_passes w.single (first_number (sends_to c) w.entries))

  hand_over_rightly : (me : Party) (i : ℕ) (bytes : List ℕ) (c : ℕ) (chans : List Channel) (o : Option Party) → find (receives_on c) waits ≡ o → WakesRightly threads (hand_over me i bytes c chans o).woken
  hand_over_rightly me i bytes c chans None e = wakes_nobody threads
  hand_over_rightly me i bytes c chans (Some w) e = receiver_rightly c me.at bytes w (found_rests (receives_on c) w e)

  pass_on_rightly : (me : Party) (i c : ℕ) (chans : List Channel) (o : Option Party) (elements : List Element) → find (receives_on c) waits ≡ o → WakesRightly threads (pass_on me i c chans o elements).woken
  pass_on_rightly me i c chans None elements e = wakes_nobody threads
  pass_on_rightly me i c chans (Some w) [] e = wakes_nobody threads
  pass_on_rightly me i c chans (Some w) (x ∷ rest) e = receiver_rightly c x.from x.msg w (found_rests (receives_on c) w e)

  send_rightly : (me : Party) (i : ℕ) (bytes : List ℕ) (c : ℕ) (chans : List Channel) (chan : Channel) → WakesRightly threads (commit_send me i bytes c chans waits chan).woken
  send_rightly me i bytes c chans chan =
      if_rightly chan.closed _ _ (wakes_nobody threads)
      (if_rightly (is_unbuffered chan) _ _
      (hand_over_rightly me i bytes c chans (find (receives_on c) waits) refl)
      (pass_on_rightly me i c chans (find (receives_on c) waits) (chan.elements ++ element me.at bytes ∷ []) refl))

  take_over_rightly : (me : Party) (i : ℕ) (slot : Slot) (c elsize : ℕ) (chans : List Channel) (o : Option Party) → find (sends_on c) waits ≡ o → WakesRightly threads (take_over me i slot c elsize chans o).woken
  take_over_rightly me i slot c elsize chans None e = wakes_nobody threads
  take_over_rightly me i slot c elsize chans (Some w) e = sender_rightly c w (found_rests (sends_on c) w e)

  sender_woken_rightly : (c : ℕ) (o : Option Party) → find (sends_on c) waits ≡ o → WakesRightly threads (sender_woken c o)
  sender_woken_rightly c None e = wakes_nobody threads
  sender_woken_rightly c (Some w) e = sender_rightly c w (found_rests (sends_on c) w e)

  receive_rightly : (me : Party) (i : ℕ) (slot : Slot) (c : ℕ) (chans : List Channel) (chan : Channel) (elements : List Element) → WakesRightly threads (receive_from me i slot c chans waits chan elements).woken
  receive_rightly me i slot c chans chan [] =
      if_rightly chan.closed _ _ (wakes_nobody threads) (take_over_rightly me i slot c chan.elsize chans (find (sends_on c) waits) refl)
  receive_rightly me i slot c chans chan (x ∷ rest) = sender_woken_rightly c (find (sends_on c) waits) refl

  op_rightly : (me : Party) (i : ℕ) (op : AltOp) (slot : Slot) (c : ℕ) (chans : List Channel) (o : Option Channel) → WakesRightly threads (commit_op me i op slot c chans waits o).woken
  op_rightly me i op slot c chans None = wakes_nobody threads
  op_rightly me i Snd slot c chans (Some chan) = send_rightly me i (sent_bytes chan.elsize slot) c chans chan
  op_rightly me i Rcv slot c chans (Some chan) = receive_rightly me i slot c chans chan chan.elements
  op_rightly me i Nop slot c chans (Some chan) = wakes_nobody threads

  entry_rightly : (me : Party) (i : ℕ) (chans : List Channel) (o : Option AltEntry) → WakesRightly threads (commit_entry me i chans waits o).woken
  entry_rightly me i chans None = wakes_nobody threads
  entry_rightly me i chans (Some e) = op_rightly me i e.op e.slot e.chan chans (by_id chans e.chan)

  pub commit_rightly : (me : Party) (i : ℕ) (chans : List Channel) → WakesRightly threads (commit me i chans waits).woken
  commit_rightly me i chans = entry_rightly me i chans (slice_get me.entries i)
