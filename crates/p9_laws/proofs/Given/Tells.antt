-- Which answers an alt gives its caller.
use Rattle.std.proofs.Common.{◌≡◌, ℕ, Bool, true, false, cond, List, [], ◌∷◌, ◌++◌, Option, Some, None, refl, ap, subst}
use Rattle.std.specs.Prelude.{slice_get}
use Rattle.std.specs.List.{find}
use Rattle.p9_word.specs.declared.alt.AltEntry.{AltEntry}
use Rattle.p9_word.specs.declared.alt.AltOp.{AltOp}
use Rattle.p9_word.specs.declared.alt.AltOp.TheVariants.{Snd, Rcv, Nop}
use Rattle.p9_word.specs.declared.alt.Ending.{Ending}
use Rattle.p9_word.specs.declared.alt.Ending.TheVariants.{End, NoBlk}
use Rattle.p9_word.specs.declared.alt.Slot.{Slot}
use Rattle.p9_word.specs.declared.answer.Answer.{Answer}
use Rattle.p9_word.specs.declared.answer.Answer.TheVariants.{Sent, Got, Index, Closed, NoBlock}
use Rattle.p9_word.specs.declared.request.ChanReq.{ChanReq}
use Rattle.p9_word.specs.declared.setup.Setup.{Setup}
use Rattle.p9_manual.specs.declared.state.Channel.{Channel}
use Rattle.p9_manual.specs.declared.state.Element.{Element}
use Rattle.p9_manual.specs.declared.state.Party.{Party}
use Rattle.p9_manual.specs.Alt.{Verdict, AllClosed, chosen, is_closed_list, unready, verdict, verdict_on}
use Rattle.p9_manual.specs.AltEntries.{receives_on, sends_on}
use Rattle.p9_manual.specs.Commit.{Deal, commit, commit_entry, commit_op, commit_send, element, hand_over, pass_on, receive_from, take_over}
use Rattle.p9_manual.specs.Draws.{draw_after}
use Rattle.p9_manual.specs.Offers.{parties, party}
use Rattle.p9_manual.specs.ReadyEntries.{is_unbuffered, ready_entries}
use Rattle.p9_manual.specs.State.{State, by_id}
use Rattle.p9_manual.specs.Told.{failed_answer, got_answer, kept_bytes, sent_answer, sent_bytes}
use Rattle.p9_laws.proofs.Given.Causes.{ToldByAlt, verdict_tells}

-- the answers that an entry that goes on gives its caller
abbrev pub tells_deal : Answer → Bool
tells_deal Sent = true
tells_deal (Got from m) = true
tells_deal (Index err i from m) = true
tells_deal Closed = true
tells_deal a = false

sent_tells : (single : Bool) (i : ℕ) → tells_deal (sent_answer single i) ≡ true
sent_tells true i = refl
sent_tells false i = refl

got_tells : (single : Bool) (i from : ℕ) (m : List ℕ) → tells_deal (got_answer single i from m) ≡ true
got_tells true i from m = refl
got_tells false i from m = refl

failed_tells : (single : Bool) (i : ℕ) → tells_deal (failed_answer single i) ≡ true
failed_tells true i = refl
failed_tells false i = refl

-- what holds of the answers of an entry that sends, receives or fails holds of that of each entry that goes on
module _ (Q : Answer → Type 0) (me : Party) (sent : (i : ℕ) → Q (sent_answer me.single i)) (got : (i from : ℕ) (m : List ℕ) → Q (got_answer me.single i from m)) (failed : (i : ℕ) → Q (failed_answer me.single i)) where
  if_says : (b : Bool) (d e : Deal) → Q d.answer → Q e.answer → Q (cond b d e).answer
  if_says true d e f g = f
  if_says false d e f g = g

  hand_over_says : (i : ℕ) (bytes : List ℕ) (c : ℕ) (chans : List Channel) (o : Option Party) → Q (hand_over me i bytes c chans o).answer
  hand_over_says i bytes c chans None = failed i
  hand_over_says i bytes c chans (Some w) = sent i

  pass_on_says : (i c : ℕ) (chans : List Channel) (o : Option Party) (elements : List Element) → Q (pass_on me i c chans o elements).answer
  pass_on_says i c chans None elements = sent i
  pass_on_says i c chans (Some w) [] = failed i
  pass_on_says i c chans (Some w) (x ∷ rest) = sent i

  send_says : (i : ℕ) (bytes : List ℕ) (c : ℕ) (chans : List Channel) (waits : List Party) (chan : Channel) → Q (commit_send me i bytes c chans waits chan).answer
  send_says i bytes c chans waits chan =
      if_says chan.closed _ _ (failed i)
      (if_says (is_unbuffered chan) _ _ (hand_over_says i bytes c chans (find (receives_on c) waits)) (pass_on_says i c chans (find (receives_on c) waits) (chan.elements ++ element me.at bytes ∷ [])))

  take_over_says : (i : ℕ) (slot : Slot) (c elsize : ℕ) (chans : List Channel) (o : Option Party) → Q (take_over me i slot c elsize chans o).answer
  take_over_says i slot c elsize chans None = failed i
  take_over_says i slot c elsize chans (Some w) = got i w.at _

  receive_says : (i : ℕ) (slot : Slot) (c : ℕ) (chans : List Channel) (waits : List Party) (chan : Channel) (elements : List Element) → Q (receive_from me i slot c chans waits chan elements).answer
  receive_says i slot c chans waits chan [] = if_says chan.closed _ _ (failed i) (take_over_says i slot c chan.elsize chans (find (sends_on c) waits))
  receive_says i slot c chans waits chan (x ∷ rest) = got i x.from (kept_bytes slot x.msg)

  op_says : (i : ℕ) (op : AltOp) (slot : Slot) (c : ℕ) (chans : List Channel) (waits : List Party) (o : Option Channel) → Q (commit_op me i op slot c chans waits o).answer
  op_says i op slot c chans waits None = failed i
  op_says i Snd slot c chans waits (Some chan) = send_says i (sent_bytes chan.elsize slot) c chans waits chan
  op_says i Rcv slot c chans waits (Some chan) = receive_says i slot c chans waits chan chan.elements
  op_says i Nop slot c chans waits (Some chan) = failed i

  entry_says : (i : ℕ) (chans : List Channel) (waits : List Party) (o : Option AltEntry) → Q (commit_entry me i chans waits o).answer
  entry_says i chans waits None = failed i
  entry_says i chans waits (Some e) = op_says i e.op e.slot e.chan chans waits (by_id chans e.chan)

  pub commit_says : (i : ℕ) (chans : List Channel) (waits : List Party) → Q (commit me i chans waits).answer
  commit_says i chans waits = entry_says i chans waits (slice_get me.entries i)

commit_tells : (me : Party) (i : ℕ) (chans : List Channel) (waits : List Party) → tells_deal (commit me i chans waits).answer ≡ true
commit_tells me i chans waits = commit_says (λ a. tells_deal a ≡ true) me (sent_tells me.single) (got_tells me.single) (failed_tells me.single) i chans waits

-- those that an alt gives
abbrev pub tells_alt : Answer → Bool
tells_alt NoBlock = true
tells_alt a = tells_deal a

deal_alt : (a : Answer) → tells_deal a ≡ true → tells_alt a ≡ true
deal_alt NoBlock h = refl
deal_alt a h = h

-- so does a verdict
abbrev VerdictTells : Verdict → Type 0
VerdictTells v = (a : Answer) → verdict_tells v ≡ Some a → tells_alt a ≡ true

told_tells : (x a : Answer) → Some x ≡ Some a → tells_alt x ≡ true → tells_alt a ≡ true
told_tells x a e h = let same_answer : x ≡ a = cc in subst (λ (y : Answer). tells_alt y ≡ true) same_answer h

unready_tells : (ending : Ending) → VerdictTells (unready ending)
unready_tells NoBlk a e = told_tells NoBlock a e refl
unready_tells End a e = cc

verdict_on_tells : (draw : ℕ) (me : Party) (ending : Ending) (chans : List Channel) (waits : List Party) (ready : List ℕ) → VerdictTells (verdict_on draw me ending chans waits ready)
verdict_on_tells draw me ending chans waits [] a e = unready_tells ending a e
verdict_on_tells draw me ending chans waits (i ∷ []) a e = told_tells _ a e (deal_alt _ (commit_tells me i chans waits))
verdict_on_tells draw me ending chans waits (i ∷ j ∷ more) a e =
    told_tells _ a e (deal_alt _ (commit_tells me (chosen draw (i ∷ j ∷ more)) chans waits))

if_verdict_tells : (b : Bool) (v : Verdict) → VerdictTells v → VerdictTells (cond b AllClosed v)
if_verdict_tells true v h a e = told_tells Closed a e refl
if_verdict_tells false v h a e = h a e

pub alt_tells : (setup : Setup) (s : State) (t : ℕ) (r : ChanReq) (a : Answer) → ToldByAlt setup s t r a → tells_alt a ≡ true
alt_tells setup s t r a k =
    if_verdict_tells (is_closed_list k.alt.entries) _
    (verdict_on_tells (draw_after setup.start s.draws) (party t s.position k.alt) k.alt.ending s.chans (parties s.waits) (ready_entries s.chans (parties s.waits) k.alt.entries))
    a k.tells

-- a verdict that an alt finds no entry ready
pub record IsNone (ending : Ending) (entries : List AltEntry) (ready : List ℕ) : Type 0 where
  pub some_open : is_closed_list entries ≡ false
  pub none_ready : ready ≡ []
  pub no_block : ending ≡ NoBlk

no_deal : (a : Answer) → Some a ≡ Some NoBlock → tells_deal a ≡ true → ⊥
no_deal a e h = let same_answer : a ≡ NoBlock = cc in let z = ap tells_deal same_answer in cc (z, h)

ending_none : (ending : Ending) → verdict_tells (unready ending) ≡ Some NoBlock → ending ≡ NoBlk
ending_none NoBlk e = refl
ending_none End e = cc

on_none : (draw : ℕ) (me : Party) (ending : Ending) (chans : List Channel) (waits : List Party) (ready : List ℕ) → verdict_tells (verdict_on draw me ending chans waits ready) ≡ Some NoBlock → (ready ≡ []) × (ending ≡ NoBlk)
on_none draw me ending chans waits [] e = (refl, ending_none ending e)
on_none draw me ending chans waits (i ∷ []) e = absurd (no_deal _ e (commit_tells me i chans waits))
on_none draw me ending chans waits (i ∷ j ∷ more) e =
    absurd (no_deal _ e (commit_tells me (chosen draw (i ∷ j ∷ more)) chans waits))

if_none : (b : Bool) (ending : Ending) (ready : List ℕ) (v : Verdict) → (verdict_tells v ≡ Some NoBlock → (ready ≡ []) × (ending ≡ NoBlk)) → verdict_tells (cond b AllClosed v) ≡ Some NoBlock → (b ≡ false) × (ready ≡ []) × (ending ≡ NoBlk)
if_none true ending ready v h e = cc
if_none false ending ready v h e = let k = h e in (refl, k.0, k.1)

-- a verdict that tells NoBlock is one
pub verdict_none : (draw : ℕ) (me : Party) (ending : Ending) (chans : List Channel) (waits : List Party) → verdict_tells (verdict draw me ending chans waits) ≡ Some NoBlock → IsNone ending me.entries (ready_entries chans waits me.entries)
verdict_none draw me ending chans waits e =
    let ready = ready_entries chans waits me.entries in
    let k = if_none (is_closed_list me.entries) ending ready _ (on_none draw me ending chans waits ready) e in
    record { some_open = k.0; none_ready = k.1; no_block = k.2 }
