-- What comes of an entry depends on the caller's position and form alone.
use Rattle.std.proofs.Common.{◌≡◌, ℕ, Bool, true, false, List, [], ◌∷◌, ◌++◌, refl, sym, ap, ◌∙◌}
use Rattle.std.specs.Prelude.{Option, Some, None, if◌then◌else◌}
use Rattle.std.specs.List.{find}
use Rattle.p9_word.specs.declared.alt.AltOp.{AltOp}
use Rattle.p9_word.specs.declared.alt.AltOp.TheVariants.{Snd, Rcv, Nop}
use Rattle.p9_word.specs.declared.alt.AltEntry.{AltEntry}
use Rattle.p9_word.specs.declared.alt.Slot.{Slot}
use Rattle.p9_word.specs.declared.answer.Answer.{Answer}
use Rattle.p9_manual.specs.declared.state.Channel.{Channel}
use Rattle.p9_manual.specs.declared.state.Element.{Element}
use Rattle.p9_manual.specs.declared.state.Party.{Party}
use Rattle.p9_manual.specs.Alt.{parties_without}
use Rattle.p9_manual.specs.Commit.{Deal, commit, commit_op, commit_entry, commit_send, receive_from, failed, hand_over, pass_on, take_over, element, refilled}
use Rattle.p9_manual.specs.Told.{sent_bytes}
use Rattle.p9_manual.specs.AltEntries.{sends_on, receives_on}
use Rattle.p9_manual.specs.ReadyEntries.{is_unbuffered}
use Rattle.p9_manual.specs.State.{by_id}
use Rattle.std.specs.Prelude.{slice_get}
use Rattle.p9_chan.specs.Channels.{is_closed_in}
use Rattle.p9_alt.specs.declared.commit.Done.{Done}
use Rattle.p9_alt.specs.Exchange.{wake_with}
use Rattle.p9_alt.specs.Passing.{IsDealt, IsLeft}
use Rattle.p9_alt.proofs.Changes.{closed-with}

-- the caller, as far as a deal depends on it
abbrev bare : Party → Party
bare me = record { tid = 0; at = me.at; single = me.single; entries = [] }

-- two deals are the same but for what moved
record Same (d e : Deal) : Type 0 where
  answer : d.answer ≡ e.answer
  woken : d.woken ≡ e.woken
  chans : d.chans ≡ e.chans

same_if : (b : Bool) (d e f g : Deal) → Same d f → Same e g → Same (if b then d else e) (if b then f else g)
same_if true d e f g h k = h
same_if false d e f g h k = k

same_failed : (me : Party) (i : ℕ) (chans : List Channel) → Same (failed me i chans) (failed (bare me) i chans)
same_failed me i chans = record { answer = refl; woken = refl; chans = refl }

same_hand : (me : Party) (i : ℕ) (v : List ℕ) (c : ℕ) (chans : List Channel) (o : Option Party) → Same (hand_over me i v c chans o) (hand_over (bare me) i v c chans o)
same_hand me i v c chans None = same_failed me i chans
same_hand me i v c chans (Some w) = record { answer = refl; woken = refl; chans = refl }

same_pass : (me : Party) (i c : ℕ) (chans : List Channel) (o : Option Party) (es : List Element) → Same (pass_on me i c chans o es) (pass_on (bare me) i c chans o es)
same_pass me i c chans None es = record { answer = refl; woken = refl; chans = refl }
same_pass me i c chans (Some w) [] = same_failed me i chans
same_pass me i c chans (Some w) (x ∷ es) = record { answer = refl; woken = refl; chans = refl }

same_over : (me : Party) (i : ℕ) (slot : Slot) (c elsize : ℕ) (chans : List Channel) (o : Option Party) → Same (take_over me i slot c elsize chans o) (take_over (bare me) i slot c elsize chans o)
same_over me i slot c elsize chans None = same_failed me i chans
same_over me i slot c elsize chans (Some w) = record { answer = refl; woken = refl; chans = refl }

same_send : (me : Party) (i : ℕ) (v : List ℕ) (c : ℕ) (chans : List Channel) (waits : List Party) (chan : Channel) → Same (commit_send me i v c chans waits chan) (commit_send (bare me) i v c chans waits chan)
same_send me i v c chans waits chan =
    let o = find (receives_on c) waits in
    let es = chan.elements ++ element me.at v ∷ [] in
    same_if chan.closed (failed me i chans) (if is_unbuffered chan then hand_over me i v c chans o else pass_on me i c chans o es) (failed (bare me) i chans) (if is_unbuffered chan then hand_over (bare me) i v c chans o else pass_on (bare me) i c chans o es) (same_failed me i chans) (same_if (is_unbuffered chan) (hand_over me i v c chans o) (pass_on me i c chans o es) (hand_over (bare me) i v c chans o) (pass_on (bare me) i c chans o es) (same_hand me i v c chans o) (same_pass me i c chans o es))

same_receive : (me : Party) (i : ℕ) (slot : Slot) (c : ℕ) (chans : List Channel) (waits : List Party) (chan : Channel) (es : List Element) → Same (receive_from me i slot c chans waits chan es) (receive_from (bare me) i slot c chans waits chan es)
same_receive me i slot c chans waits chan [] =
    let o = find (sends_on c) waits in
    same_if chan.closed (failed me i chans) (take_over me i slot c chan.elsize chans o) (failed (bare me) i chans) (take_over (bare me) i slot c chan.elsize chans o) (same_failed me i chans) (same_over me i slot c chan.elsize chans o)
same_receive me i slot c chans waits chan (x ∷ es) = record { answer = refl; woken = refl; chans = refl }

same_commit : (me : Party) (i : ℕ) (op : AltOp) (slot : Slot) (c : ℕ) (chans : List Channel) (waits : List Party) (o : Option Channel) → Same (commit_op me i op slot c chans waits o) (commit_op (bare me) i op slot c chans waits o)
same_commit me i Snd slot c chans waits None = same_failed me i chans
same_commit me i Rcv slot c chans waits None = same_failed me i chans
same_commit me i Nop slot c chans waits None = same_failed me i chans
same_commit me i Snd slot c chans waits (Some chan) = same_send me i (sent_bytes chan.elsize slot) c chans waits chan
same_commit me i Rcv slot c chans waits (Some chan) = same_receive me i slot c chans waits chan chan.elements
same_commit me i Nop slot c chans waits (Some chan) = same_failed me i chans

-- the entry at i
commit_at : (me : Party) (i : ℕ) (chans : List Channel) (waits : List Party) (e : AltEntry) → slice_get me.entries i ≡ Some e → commit me i chans waits ≡ commit_op me i e.op e.slot e.chan chans waits (by_id chans e.chan)
commit_at me i chans waits e at = ap (commit_entry me i chans waits) at

pub dealt_for : (me : Party) (i j : ℕ) (chans : List Channel) (waits : List Party) (e : AltEntry) (done : Done) → i ≡ j → slice_get me.entries i ≡ Some e → IsDealt (commit_op (bare me) i e.op e.slot e.chan chans waits (by_id chans e.chan)) done → IsDealt (commit me j chans waits) done
dealt_for me i j chans waits e done ij at h =
    let same = same_commit me i e.op e.slot e.chan chans waits (by_id chans e.chan) in
    let d = sym (ap (λ (k : ℕ). commit me k chans waits) ij) ∙ commit_at me i chans waits e at in
    record {
      answer = h.answer ∙ (sym same.answer ∙ ap (λ (k : Deal). k.answer) (sym d));
      woken = h.woken ∙ (ap wake_with (sym same.woken) ∙ ap (λ (k : Deal). wake_with k.woken) (sym d));
    }

pub left_for : (me : Party) (i j : ℕ) (chans chans_new : List Channel) (waits waits_new : List Party) (e : AltEntry) → i ≡ j → slice_get me.entries i ≡ Some e → IsLeft (commit_op (bare me) i e.op e.slot e.chan chans waits (by_id chans e.chan)) waits chans_new waits_new → IsLeft (commit me j chans waits) waits chans_new waits_new
left_for me i j chans chans_new waits waits_new e ij at h =
    let same = same_commit me i e.op e.slot e.chan chans waits (by_id chans e.chan) in
    let d = sym (ap (λ (k : ℕ). commit me k chans waits) ij) ∙ commit_at me i chans waits e at in
    record {
      chans = h.chans ∙ (sym same.chans ∙ ap (λ (k : Deal). k.chans) (sym d));
      waits = h.waits ∙ (ap (λ (r : Option (ℕ × Answer)). parties_without r waits) (sym same.woken) ∙ ap (λ (k : Deal). parties_without k.woken waits) (sym d));
    }

-- the same channels are closed after a deal
abbrev KeepsClosed : List Channel → Deal → Type 0
KeepsClosed chans d = (k : ℕ) → is_closed_in (by_id d.chans k) ≡ is_closed_in (by_id chans k)

closed_if : (b : Bool) (chans : List Channel) (d e : Deal) → KeepsClosed chans d → KeepsClosed chans e → KeepsClosed chans (if b then d else e)
closed_if true chans d e h k = h
closed_if false chans d e h k = k

closed_hand : (me : Party) (i : ℕ) (v : List ℕ) (c : ℕ) (chans : List Channel) (o : Option Party) → KeepsClosed chans (hand_over me i v c chans o)
closed_hand me i v c chans None = λ k. refl
closed_hand me i v c chans (Some w) = λ k. refl

closed_pass : (me : Party) (i c : ℕ) (chans : List Channel) (o : Option Party) (es : List Element) → KeepsClosed chans (pass_on me i c chans o es)
closed_pass me i c chans None es = λ k. closed-with c es chans k
closed_pass me i c chans (Some w) [] = λ k. refl
closed_pass me i c chans (Some w) (x ∷ es) = λ k. closed-with c es chans k

closed_over : (me : Party) (i : ℕ) (slot : Slot) (c elsize : ℕ) (chans : List Channel) (o : Option Party) → KeepsClosed chans (take_over me i slot c elsize chans o)
closed_over me i slot c elsize chans None = λ k. refl
closed_over me i slot c elsize chans (Some w) = λ k. refl

closed_send : (me : Party) (i : ℕ) (v : List ℕ) (c : ℕ) (chans : List Channel) (waits : List Party) (chan : Channel) → KeepsClosed chans (commit_send me i v c chans waits chan)
closed_send me i v c chans waits chan =
    let o = find (receives_on c) waits in
    let es = chan.elements ++ element me.at v ∷ [] in
    closed_if chan.closed chans (failed me i chans) (if is_unbuffered chan then hand_over me i v c chans o else pass_on me i c chans o es) (λ k. refl) (closed_if (is_unbuffered chan) chans (hand_over me i v c chans o) (pass_on me i c chans o es) (closed_hand me i v c chans o) (closed_pass me i c chans o es))

closed_receive : (me : Party) (i : ℕ) (slot : Slot) (c : ℕ) (chans : List Channel) (waits : List Party) (chan : Channel) (es : List Element) → KeepsClosed chans (receive_from me i slot c chans waits chan es)
closed_receive me i slot c chans waits chan [] =
    let o = find (sends_on c) waits in
    closed_if chan.closed chans (failed me i chans) (take_over me i slot c chan.elsize chans o) (λ k. refl) (closed_over me i slot c chan.elsize chans o)
closed_receive me i slot c chans waits chan (x ∷ rest) =
    λ k. closed-with c (refilled c chan.elsize rest (find (sends_on c) waits)) chans k

closed_op : (me : Party) (i : ℕ) (op : AltOp) (slot : Slot) (c : ℕ) (chans : List Channel) (waits : List Party) (o : Option Channel) → KeepsClosed chans (commit_op me i op slot c chans waits o)
closed_op me i Snd slot c chans waits None = λ k. refl
closed_op me i Rcv slot c chans waits None = λ k. refl
closed_op me i Nop slot c chans waits None = λ k. refl
closed_op me i Snd slot c chans waits (Some chan) = closed_send me i (sent_bytes chan.elsize slot) c chans waits chan
closed_op me i Rcv slot c chans waits (Some chan) = closed_receive me i slot c chans waits chan chan.elements
closed_op me i Nop slot c chans waits (Some chan) = λ k. refl

closed_entry : (me : Party) (i : ℕ) (chans : List Channel) (waits : List Party) (o : Option AltEntry) → KeepsClosed chans (commit_entry me i chans waits o)
closed_entry me i chans waits None = λ k. refl
closed_entry me i chans waits (Some e) = closed_op me i e.op e.slot e.chan chans waits (by_id chans e.chan)

pub closed_commit : (me : Party) (i : ℕ) (chans : List Channel) (waits : List Party) (k : ℕ) → is_closed_in (by_id (commit me i chans waits).chans k) ≡ is_closed_in (by_id chans k)
closed_commit me i chans waits k = closed_entry me i chans waits (slice_get me.entries i) k
