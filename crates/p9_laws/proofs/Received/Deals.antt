-- What comes of an entry that goes on, for the receipts and the values: no more receipts than values that move, each of the
-- value that moves; and who is told that it sent a value sent one that moves or is among the elements of its channel.
use Rattle.std.proofs.Common.{◌≡◌, ◌⊎◌, inl, inr, ℕ, zero, suc, ◌+◌, ◌≤◌, Bool, true, false, not, cond, ◌&&◌, List, [], ◌∷◌, ◌++◌, length, Option, Some, None, refl, sym, subst, arith}
use Rattle.std.specs.Prelude.{slice_get}
use Rattle.std.specs.List.{find, cons_option}
use Rattle.p9_word.specs.declared.alt.AltOp.{AltOp}
use Rattle.p9_word.specs.declared.alt.AltOp.TheVariants.{Snd, Rcv, Nop}
use Rattle.p9_word.specs.declared.alt.AltEntry.{AltEntry}
use Rattle.p9_word.specs.declared.answer.Answer.{Answer}
use Rattle.p9_manual.specs.declared.state.Channel.{Channel}
use Rattle.p9_manual.specs.declared.state.Element.{Element}
use Rattle.p9_manual.specs.declared.state.Party.{Party}
use Rattle.p9_manual.specs.State.{Move, by_id}
use Rattle.p9_manual.specs.AltEntries.{receives_from, receives_on, sends_on}
use Rattle.p9_manual.specs.ReadyEntries.{is_unbuffered, can_go_on, is_ready}
use Rattle.p9_manual.specs.Commit.{Deal, holding, with_elements, element, failed, hand_over, pass_on, commit_send, take_over, refilled, sender_woken, receive_from, commit_op, commit_entry, commit}
use Rattle.p9_manual.specs.Told.{sent_bytes, kept_bytes, sent_answer, got_answer, sender_bytes}
use Rattle.p9_laws.specs.Moves.{times_moved}
use Rattle.p9_laws.specs.Senders.{SendsBytes}
use Rattle.p9_laws.specs.Receipts.{received_by}
use Rattle.p9_laws.specs.ToldSent.{HasLeft}
use Rattle.p9_laws.proofs.Sound.Places.{by_id-changed_same}
use Rattle.p9_laws.proofs.Sound.Ready.{HasPassing}
use Rattle.p9_laws.proofs.Moves.Senders.{is_itself}
use Rattle.p9_laws.proofs.Moves.Sent.{slice_get-longer}
use Rattle.p9_laws.proofs.Moves.Verdicts.{sends_itself}
use Rattle.p9_laws.proofs.Moves.Steps.{last_of}
use Rattle.p9_laws.proofs.Received.Places.{told}
use Rattle.p9_laws.proofs.Received.Grows.{IsThere, Remains, Grows, grows_same, grows_held}
use Rattle.p9_laws.proofs.Received.Told.{IsAlone, IsTold, received-failed, received-sent, received-got, told_failed, told_sent, told_got, told_receiver, told_sender}

-- the value that leaves a channel by a deal
abbrev pub out : Deal → List Move
out d = cons_option d.moved []

abbrev pub woken_told : ℕ → Option (ℕ × Answer) → ℕ
woken_told p None = 0
woken_told p (Some w) = told p (received_by 0 w.1)

-- who is woken waits, and what it is told is so
pub record IsWoken (waits : List Party) (mv : List Move) (chans : List Channel) (w : ℕ × Answer) : Type 0 where
  pub index : ℕ
  pub party : Party
  pub waits_there : slice_get waits index ≡ Some party
  pub is_tid : w.0 ≡ party.tid
  pub told : IsTold party w.1 mv chans

abbrev pub WokenRightly : List Party → List Move → List Channel → Option (ℕ × Answer) → Type 0
WokenRightly waits mv chans None = Unit {0}
WokenRightly waits mv chans (Some w) = IsWoken waits mv chans w

pub record IsFair (me : Party) (chans : List Channel) (waits : List Party) (d : Deal) : Type 0 where
  pub counts : (p : ℕ) → told p (received_by 0 d.answer) + woken_told p d.woken ≤ times_moved p (out d)
  pub caller : IsTold me d.answer (out d) d.chans
  pub grows : Grows (out d) chans d.chans
  pub woken : WokenRightly waits (out d) d.chans d.woken

-- calls with the answers of send and recv have one entry
pub record AllAlone (me : Party) (waits : List Party) : Type 0 where
  pub caller : IsAlone me
  pub others : (i : ℕ) (w : Party) → slice_get waits i ≡ Some w → IsAlone w

-- who is found waits, and passes
abbrev FoundIn : (Party → Bool) → List Party → Option Party → Type 0
FoundIn p waits None = Unit {0}
FoundIn p waits (Some w) = (i : ℕ) × (slice_get waits i ≡ Some w) × (p w ≡ true)

later : (p : Party → Bool) (w : Party) (waits : List Party) (o : Option Party) → FoundIn p waits o → FoundIn p (w ∷ waits) o
later p w waits None f = tt
later p w waits (Some x) f = (suc f.0, f.1, f.2)

first : (p : Party → Bool) (b : Bool) (w : Party) (waits : List Party) (o : Option Party) → p w ≡ b → FoundIn p waits o → FoundIn p (w ∷ waits) (cond b (Some w) o)
first p true w waits o e f = (0, refl, e)
first p false w waits o e f = later p w waits o f

found : (p : Party → Bool) → (waits : List Party) → FoundIn p waits (find p waits)
found p [] = tt
found p (w ∷ waits) = first p (p w) w waits (find p waits) refl (found p waits)

pub failed_fair : (me : Party) (i : ℕ) (chans : List Channel) (waits : List Party) → IsFair me chans waits (failed me i chans)
failed_fair me i chans waits =
    record {
      counts = λ p. rw received-failed (omega arith);
      caller = told_failed me i [] chans;
      grows = grows_same [] chans;
      woken = tt;
    }

-- entry i of the caller, which sends these bytes on channel c
pub record IsSending (me : Party) (i c : ℕ) (chan : Channel) (bytes : List ℕ) : Type 0 where
  pub entry : AltEntry
  pub is_entry : slice_get me.entries i ≡ Some entry
  pub sends : SendsBytes c chan.elsize bytes entry

-- the caller's value is there
caller_sent : (me : Party) (i c : ℕ) (bytes : List ℕ) (chan : Channel) (mv : List Move) (chans : List Channel) → IsAlone me → IsSending me i c chan bytes → by_id chans c ≡ Some chan → IsThere c me.at bytes mv chans → IsTold me (sent_answer me.single i) mv chans
caller_sent me i c bytes chan mv chans alone s at held =
    told_sent me i mv chans alone (record { c = c; bytes = bytes; chan = chan; entry = s.entry; is_entry = s.is_entry; is_chan = at; sends = s.sends; held = held })

sending_on : (me : Party) (i c : ℕ) (chan new : Channel) (bytes : List ℕ) → new.elsize ≡ chan.elsize → IsSending me i c chan bytes → IsSending me i c new bytes
sending_on me i c chan new bytes e s =
    record { entry = s.entry; is_entry = s.is_entry; sends = (s.sends.0, rw e (s.sends.1)) }

hand_over_fair : (me : Party) (i : ℕ) (bytes : List ℕ) (c : ℕ) (chans : List Channel) (waits : List Party) (chan : Channel) (o : Option Party) → AllAlone me waits → FoundIn (receives_on c) waits o → by_id chans c ≡ Some chan → IsSending me i c chan bytes → IsFair me chans waits (hand_over me i bytes c chans o)
hand_over_fair me i bytes c chans waits chan None alone f e s = failed_fair me i chans waits
hand_over_fair me i bytes c chans waits chan (Some w) alone f e s =
    let m : Move = record { chan = c; from = me.at; to = w.tid; bytes = bytes } in
    record {
      counts = λ p. rw (received-sent, received-got) (omega arith);
      caller = caller_sent me i c bytes chan (m ∷ []) chans alone.caller s e (inl (w.tid, 0, refl));
      grows = grows_same (m ∷ []) chans;
      woken = record { index = f.0; party = w; waits_there = f.1; is_tid = refl; told = told_receiver w c m chans (alone.others f.0 w f.1) f.2 refl refl };
    }

-- of some elements the front one leaves to t, and the others remain
front_leaves : (c t : ℕ) (x : Element) (rest : List Element) (k : ℕ) (e : Element) → slice_get (x ∷ rest) k ≡ Some e → Remains (record { chan = c; from = x.from; to = t; bytes = x.msg } ∷ []) c rest e
front_leaves c t x rest zero e is = let same : x ≡ e = cc in subst (λ (y : Element). HasLeft c y.from y.msg (record { chan = c; from = x.from; to = t; bytes = x.msg } ∷ []) ⊎ ((j : ℕ) × (slice_get rest j ≡ Some y))) same (inl (t, 0, refl))
front_leaves c t x rest (suc j) e is = inr (j, is)

-- an element that remains is there
remains_there : (c : ℕ) (e : Element) (later : List Element) (mv : List Move) (chans : List Channel) (chan : Channel) → by_id chans c ≡ Some chan → Remains mv c later e → IsThere c e.from e.msg mv (with_elements c later chans)
remains_there c e later mv chans chan at (inl left) = inl left
remains_there c e later mv chans chan at (inr (j, is)) = inr (holding later chan, j, by_id-changed_same (holding later) chans c chan at, is)

-- the caller's value comes behind the elements of a channel, and the front one leaves if a thread waits to receive
pass_on_fair : (me : Party) (i : ℕ) (bytes : List ℕ) (c : ℕ) (chans : List Channel) (waits : List Party) (chan : Channel) (o : Option Party) (elements : List Element) → AllAlone me waits → FoundIn (receives_on c) waits o → by_id chans c ≡ Some chan → chan.elements ++ element me.at bytes ∷ [] ≡ elements → IsSending me i c chan bytes → IsFair me chans waits (pass_on me i c chans o elements)
pass_on_fair me i bytes c chans waits chan None elements alone f e is s =
    let x : Element = element me.at bytes in
    let mine : slice_get elements (length chan.elements) ≡ Some x = rw (← is) (last_of x chan.elements) in
    record {
      counts = λ p. rw received-sent (omega arith);
      caller = caller_sent me i c bytes (holding elements chan) [] (with_elements c elements chans) alone.caller (sending_on me i c chan (holding elements chan) bytes refl s)
          (by_id-changed_same (holding elements) chans c chan e) (remains_there c x elements [] chans chan e (inr (length chan.elements, mine)));
      grows = grows_held [] chans c chan elements e (λ k y at. inr (k, rw (← is) (slice_get-longer (x ∷ []) y chan.elements k at)));
      woken = tt;
    }
pass_on_fair me i bytes c chans waits chan (Some w) [] alone f e is s = failed_fair me i chans waits
pass_on_fair me i bytes c chans waits chan (Some w) (y ∷ rest) alone f e is s =
    let x : Element = element me.at bytes in
    let m : Move = record { chan = c; from = y.from; to = w.tid; bytes = y.msg } in
    let mine : slice_get (y ∷ rest) (length chan.elements) ≡ Some x = rw (← is) (last_of x chan.elements) in
    record {
      counts = λ p. rw (received-sent, received-got) (omega arith);
      caller = caller_sent me i c bytes (holding rest chan) (m ∷ []) (with_elements c rest chans) alone.caller (sending_on me i c chan (holding rest chan) bytes refl s)
          (by_id-changed_same (holding rest) chans c chan e) (remains_there c x rest (m ∷ []) chans chan e (front_leaves c w.tid y rest (length chan.elements) x mine));
      grows = grows_held (m ∷ []) chans c chan rest e (λ k z at. front_leaves c w.tid y rest k z (rw (← is) (slice_get-longer (x ∷ []) z chan.elements k at)));
      woken = record { index = f.0; party = w; waits_there = f.1; is_tid = refl; told = told_receiver w c m (with_elements c rest chans) (alone.others f.0 w f.1) f.2 refl refl };
    }

if_fair : (me : Party) (chans : List Channel) (waits : List Party) (b : Bool) (d e : Deal) → IsFair me chans waits d → IsFair me chans waits e → IsFair me chans waits (cond b d e)
if_fair me chans waits true d e f g = f
if_fair me chans waits false d e f g = g

commit_send_fair : (me : Party) (i : ℕ) (bytes : List ℕ) (c : ℕ) (chans : List Channel) (waits : List Party) (chan : Channel) → AllAlone me waits → by_id chans c ≡ Some chan → IsSending me i c chan bytes → IsFair me chans waits (commit_send me i bytes c chans waits chan)
commit_send_fair me i bytes c chans waits chan alone e s =
    if_fair me chans waits chan.closed _ _
    (failed_fair me i chans waits)
    (if_fair me chans waits (is_unbuffered chan) _ _
    (hand_over_fair me i bytes c chans waits chan (find (receives_on c) waits) alone (found (receives_on c) waits) e s)
    (pass_on_fair me i bytes c chans waits chan (find (receives_on c) waits) (chan.elements ++ element me.at bytes ∷ []) alone (found (receives_on c) waits) e refl s))

take_over_fair : (me : Party) (i : ℕ) (e : AltEntry) (c : ℕ) (chans : List Channel) (waits : List Party) (chan : Channel) (o : Option Party) → AllAlone me waits → FoundIn (sends_on c) waits o → by_id chans c ≡ Some chan → slice_get me.entries i ≡ Some e → receives_from c e ≡ true → IsFair me chans waits (take_over me i e.slot c chan.elsize chans o)
take_over_fair me i e c chans waits chan None alone f at there receives = failed_fair me i chans waits
take_over_fair me i e c chans waits chan (Some w) alone f at there receives =
    let m : Move = record { chan = c; from = w.at; to = me.tid; bytes = sender_bytes c chan.elsize w } in
    record {
      counts = λ p. rw (received-got, received-sent) (omega arith);
      caller = told_got me i e m chans alone.caller there receives refl;
      grows = grows_same (m ∷ []) chans;
      woken = record { index = f.0; party = w; waits_there = f.1; is_tid = refl; told = told_sender w c (m ∷ []) chans chan (alone.others f.0 w f.1) f.2 at (inl (me.tid, 0, refl)) };
    }

-- one more element comes last
remains_longer : (mv : List Move) (c : ℕ) (rest : List Element) (z e : Element) → Remains mv c rest e → Remains mv c (rest ++ z ∷ []) e
remains_longer mv c rest z e (inl left) = inl left
remains_longer mv c rest z e (inr (j, is)) = inr (j, slice_get-longer (z ∷ []) e rest j is)

-- the front element is received
take_front_fair : (me : Party) (i : ℕ) (e : AltEntry) (c : ℕ) (chans : List Channel) (waits : List Party) (chan : Channel) (x : Element) (rest : List Element) (o : Option Party) → AllAlone me waits → FoundIn (sends_on c) waits o → by_id chans c ≡ Some chan → chan.elements ≡ x ∷ rest → slice_get me.entries i ≡ Some e → receives_from c e ≡ true →
    IsFair me chans waits (record { answer = got_answer me.single i x.from (kept_bytes e.slot x.msg); woken = sender_woken c o; moved = Some (record { chan = c; from = x.from; to = me.tid; bytes = x.msg }); chans = with_elements c (refilled c chan.elsize rest o) chans })
take_front_fair me i e c chans waits chan x rest None alone f at is there receives =
    let m : Move = record { chan = c; from = x.from; to = me.tid; bytes = x.msg } in
    record {
      counts = λ p. rw received-got (omega arith);
      caller = told_got me i e m (with_elements c rest chans) alone.caller there receives refl;
      grows = grows_held (m ∷ []) chans c chan rest at (λ k y h. front_leaves c me.tid x rest k y (rw is at h));
      woken = tt;
    }
take_front_fair me i e c chans waits chan x rest (Some w) alone f at is there receives =
    let m : Move = record { chan = c; from = x.from; to = me.tid; bytes = x.msg } in
    let z : Element = element w.at (sender_bytes c chan.elsize w) in
    let more : List Element = rest ++ z ∷ [] in
    record {
      counts = λ p. rw (received-got, received-sent) (omega arith);
      caller = told_got me i e m (with_elements c more chans) alone.caller there receives refl;
      grows = grows_held (m ∷ []) chans c chan more at (λ k y h. remains_longer (m ∷ []) c rest z y (front_leaves c me.tid x rest k y (rw is at h)));
      woken = record {
        index = f.0;
        party = w;
        waits_there = f.1;
        is_tid = refl;
        told = told_sender w c (m ∷ []) (with_elements c more chans) (holding more chan) (alone.others f.0 w f.1) f.2 (by_id-changed_same (holding more) chans c chan at)
            (remains_there c z more (m ∷ []) chans chan at (inr (length rest, last_of z rest)));
      };
    }

receive_from_fair : (me : Party) (i : ℕ) (e : AltEntry) (c : ℕ) (chans : List Channel) (waits : List Party) (chan : Channel) (elements : List Element) → AllAlone me waits → by_id chans c ≡ Some chan → chan.elements ≡ elements → slice_get me.entries i ≡ Some e → receives_from c e ≡ true → IsFair me chans waits (receive_from me i e.slot c chans waits chan elements)
receive_from_fair me i e c chans waits chan [] alone at k there receives =
    if_fair me chans waits chan.closed _ _
    (failed_fair me i chans waits)
    (take_over_fair me i e c chans waits chan (find (sends_on c) waits) alone (found (sends_on c) waits) at there receives)
receive_from_fair me i e c chans waits chan (x ∷ rest) alone at k there receives =
    take_front_fair me i e c chans waits chan x rest (find (sends_on c) waits) alone (found (sends_on c) waits) at k there receives

receives_itself : (e : AltEntry) → e.err ≡ false → e.op ≡ Rcv → receives_from e.chan e ≡ true
receives_itself e unset op = rw (unset, op, is_itself e.chan) refl

commit_op_fair : (me : Party) (i : ℕ) (e : AltEntry) (op : AltOp) (chans : List Channel) (waits : List Party) (o : Option Channel) → AllAlone me waits → slice_get me.entries i ≡ Some e → e.err ≡ false → e.op ≡ op → by_id chans e.chan ≡ o → IsFair me chans waits (commit_op me i op e.slot e.chan chans waits o)
commit_op_fair me i e Snd chans waits (Some chan) alone there unset op at =
    commit_send_fair me i (sent_bytes chan.elsize e.slot) e.chan chans waits chan alone at (record { entry = e; is_entry = there; sends = (sends_itself e unset op, refl) })
commit_op_fair me i e Rcv chans waits (Some chan) alone there unset op at =
    receive_from_fair me i e e.chan chans waits chan chan.elements alone at refl there (receives_itself e unset op)
commit_op_fair me i e Nop chans waits (Some chan) alone there unset op at = failed_fair me i chans waits
commit_op_fair me i e Snd chans waits None alone there unset op at = failed_fair me i chans waits
commit_op_fair me i e Rcv chans waits None alone there unset op at = failed_fair me i chans waits
commit_op_fair me i e Nop chans waits None alone there unset op at = failed_fair me i chans waits

is_unset : (err go : Bool) → (not err && go) ≡ true → err ≡ false
is_unset true go h = cc
is_unset false go h = refl

-- an entry that is ready goes on
pub commit_fair : (me : Party) (i : ℕ) (chans : List Channel) (waits : List Party) → AllAlone me waits → HasPassing (is_ready chans waits) me.entries i → IsFair me chans waits (commit me i chans waits)
commit_fair me i chans waits alone (e, there, passes) =
    subst (λ (o : Option AltEntry). IsFair me chans waits (commit_entry me i chans waits o)) (sym there)
    (commit_op_fair me i e e.op chans waits (by_id chans e.chan) alone there (is_unset e.err (can_go_on e.op e.chan (by_id chans e.chan) waits) passes) refl refl)
