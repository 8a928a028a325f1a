-- An entry that is ready goes on: whom it wakes, and what becomes of the channels and the waits.
use Rattle.std.proofs.Common.{◌≡◌, ℕ, suc, ◌+◌, ◌-◌, ◌≤◌, Bool, true, false, not, cond, ◌&&◌, ◌||◌, ltb, List, [], ◌∷◌, ◌++◌, length, Option, Some, None, refl, ap, sym, subst, ◌∙◌, arith, rules, tests, length-append}
use Rattle.std.specs.Prelude.{All, slice_get}
use Rattle.std.specs.List.{find, list_any}
use Rattle.std.proofs.lemmas.List.Elements.{recursion_from_All}
use Rattle.std.proofs.lemmas.Bool.{or_right}
use Rattle.p9_word.specs.declared.alt.AltOp.{AltOp}
use Rattle.p9_word.specs.declared.alt.AltOp.TheVariants.{Snd, Rcv, Nop}
use Rattle.p9_word.specs.declared.alt.Slot.{Slot}
use Rattle.p9_word.specs.declared.alt.AltEntry.{AltEntry}
use Rattle.p9_word.specs.declared.answer.Answer.{Answer}
use Rattle.p9_manual.specs.declared.state.Channel.{Channel}
use Rattle.p9_manual.specs.declared.state.Element.{Element}
use Rattle.p9_manual.specs.declared.state.Waiter.{Waiter}
use Rattle.p9_manual.specs.declared.state.Party.{Party}
use Rattle.p9_manual.specs.Offers.{parties}
use Rattle.p9_manual.specs.AltEntries.{sends_on, receives_on}
use Rattle.p9_manual.specs.ReadyEntries.{has_room, has_element, is_unbuffered, can_send, can_go_on, is_ready}
use Rattle.p9_manual.specs.Commit.{Deal, holding, with_elements, element, failed, hand_over, pass_on, commit_send, take_over, refilled, sender_woken, receive_from, commit_op, commit_entry, commit}
use Rattle.p9_manual.specs.Told.{sent_bytes, sender_bytes}
use Rattle.p9_manual.specs.State.{by_id, waits_without}
use Rattle.p9_manual.specs.Sound.{WaitRightly, IsWithin, takes_sends, takes_receives}
use Rattle.p9_laws.proofs.Sound.Counts.{All-changed_at, held_at, found_counts, none_found}
use Rattle.p9_laws.proofs.Sound.Places.{get_from_by_id}
use Rattle.p9_laws.proofs.Sound.Parties.{is_tid, WaitsInAlt, none_left}
use Rattle.p9_laws.proofs.Sound.Stand.{eqb_same}
use Rattle.p9_laws.proofs.Sound.Waits.{without_rightly, changed_rightly}

-- the waits without those of whom is woken
abbrev pub left_by : Option (ℕ × Answer) → List Waiter → List Waiter
left_by None waits = waits
left_by (Some w) waits = waits_without w.0 waits

-- who is woken waits in an alt
abbrev pub WokenWaits : Option (ℕ × Answer) → List Waiter → Type 0
WokenWaits None waits = Unit {0}
WokenWaits (Some w) waits = WaitsInAlt w.0 waits

-- what a deal owes
pub record IsRightDeal (waits : List Waiter) (d : Deal) : Type 0 where
  pub woken : WokenWaits d.woken waits
  pub right : WaitRightly d.chans (left_by d.woken waits)
  pub within : All IsWithin d.chans

-- a deal that leaves the channels and the waits as they are
failed_right : (me : Party) (i : ℕ) (chans : List Channel) (waits : List Waiter) → WaitRightly chans waits → All IsWithin chans → IsRightDeal waits (failed me i chans)
failed_right me i chans waits right within = record { woken = tt; right = right; within = within }

-- a party that is found waits in an alt
pub found_waits : (q : Party → Bool) (waits : List Waiter) (w : Party) → find q (parties waits) ≡ Some w → WaitsInAlt w.tid waits
found_waits q waits w e = (found_counts q (is_tid w.tid) (parties waits) w (eqb_same w.tid) e).1

holding_within : (chans : List Channel) (c : ℕ) (chan : Channel) (elements : List Element) → by_id chans c ≡ Some chan → length elements ≤ chan.cap → All IsWithin chans → All IsWithin (with_elements c elements chans)
holding_within chans c chan elements e short within =
    All-changed_at IsWithin (holding elements) chans (c - 1)
    (λ x at. let same : x ≡ chan = cc (at, get_from_by_id chans c chan e) in subst (λ (y : Channel). length elements ≤ y.cap) (sym same) short)
    within

if_right : (waits : List Waiter) (b : Bool) (d e : Deal) → IsRightDeal waits d → IsRightDeal waits e → IsRightDeal waits (cond b d e)
if_right waits true d e f g = f
if_right waits false d e f g = g

has_one : (chan : Channel) (x : Element) (rest : List Element) → chan.elements ≡ x ∷ rest → has_element chan ≡ true
has_one chan x rest e = ap (λ es. ltb 0 (length es)) e ∙ some (length rest)
  where
    some : (n : ℕ) → ltb 0 (suc n) ≡ true
    some n = search (rules, tests)

-- the bytes are handed over
hand_over_right : (me : Party) (i : ℕ) (bytes : List ℕ) (c : ℕ) (chans : List Channel) (waits : List Waiter) (o : Option Party) → find (receives_on c) (parties waits) ≡ o → WaitRightly chans waits → All IsWithin chans → IsRightDeal waits (hand_over me i bytes c chans o)
hand_over_right me i bytes c chans waits None e right within = failed_right me i chans waits right within
hand_over_right me i bytes c chans waits (Some w) e right within =
    record { woken = found_waits (receives_on c) waits w e; right = without_rightly chans waits w.tid right; within = within }

-- a value is taken over
take_over_right : (me : Party) (i : ℕ) (slot : Slot) (c elsize : ℕ) (chans : List Channel) (waits : List Waiter) (o : Option Party) → find (sends_on c) (parties waits) ≡ o → WaitRightly chans waits → All IsWithin chans → IsRightDeal waits (take_over me i slot c elsize chans o)
take_over_right me i slot c elsize chans waits None e right within = failed_right me i chans waits right within
take_over_right me i slot c elsize chans waits (Some w) e right within =
    record { woken = found_waits (sends_on c) waits w e; right = without_rightly chans waits w.tid right; within = within }

room_after : (n cap : ℕ) → ltb n cap ≡ true → n + 1 ≤ cap
room_after n cap h = search (rules, tests)

same_length : (n m : ℕ) → n ≡ m → ltb 0 n ≡ ltb 0 m
same_length n m e = ap (ltb 0) e

-- the value of a send comes last among the elements, where the channel has room
pass_on_right : (me : Party) (i c : ℕ) (chans : List Channel) (waits : List Waiter) (chan : Channel) (elements : List Element) (o : Option Party) → by_id chans c ≡ Some chan → has_room chan ≡ true → length elements ≡ length chan.elements + 1 → find (receives_on c) (parties waits) ≡ o → WaitRightly chans waits → All IsWithin chans → IsRightDeal waits (pass_on me i c chans o elements)
pass_on_right me i c chans waits chan elements None at room longer e right within =
    record {
      woken = tt;
      right = changed_rightly (holding elements) chans waits c chan at right
          (λ _. right.sends c (ap takes_sends at ∙ or_right chan.closed (has_room chan) room))
          (λ _. none_found (receives_on c) (parties waits) e);
      within = holding_within chans c chan elements at (let k = room_after (length chan.elements) chan.cap room in omega (arith, k, longer)) within;
    }
pass_on_right me i c chans waits chan [] (Some w) at room longer e right within = failed_right me i chans waits right within
pass_on_right me i c chans waits chan (x ∷ rest) (Some w) at room longer e right within =
    record {
      woken = found_waits (receives_on c) waits w e;
      right = changed_rightly (holding rest) chans (waits_without w.tid waits) c chan at (without_rightly chans waits w.tid right)
          (λ _. none_left (sends_on c) w.tid waits (right.sends c (ap takes_sends at ∙ or_right chan.closed (has_room chan) room)))
          (λ h. none_left (receives_on c) w.tid waits (right.receives c (ap takes_receives at ∙ sym (ap (λ b. chan.closed || b) (same_length (length rest) (length chan.elements) as_long)) ∙ h)));
      within = holding_within chans c chan rest at (let k = room_after (length chan.elements) chan.cap room in omega (arith, k, as_long)) within;
    }
  where
    as_long : length rest ≡ length chan.elements
    as_long = omega (arith, longer)

-- a send that goes on
commit_send_right : (me : Party) (i : ℕ) (bytes : List ℕ) (c : ℕ) (chans : List Channel) (waits : List Waiter) (chan : Channel) (b u : Bool) → chan.closed ≡ b → is_unbuffered chan ≡ u → by_id chans c ≡ Some chan → can_send c chan (parties waits) ≡ true → WaitRightly chans waits → All IsWithin chans → IsRightDeal waits (commit_send me i bytes c chans (parties waits) chan)
commit_send_right me i bytes c chans waits chan true u closed unbuffered at ready right within = rw closed (failed_right me i chans waits right within)
commit_send_right me i bytes c chans waits chan false true closed unbuffered at ready right within = rw (closed, unbuffered) (hand_over_right me i bytes c chans waits (find (receives_on c) (parties waits)) refl right within)
commit_send_right me i bytes c chans waits chan false false closed unbuffered at ready right within =
    rw (closed, unbuffered)
    (pass_on_right me i c chans waits chan (chan.elements ++ element me.at bytes ∷ []) (find (receives_on c) (parties waits)) at
    (has_its_room chan.closed (has_room chan) (is_unbuffered chan) (list_any (receives_on c) (parties waits)) closed unbuffered ready)
    (length-append chan.elements (element me.at bytes ∷ [])) refl right within)
  where
    has_its_room : (a b u d : Bool) → a ≡ false → u ≡ false → (a || (b || (u && d))) ≡ true → b ≡ true
    has_its_room true b u d e f h = cc
    has_its_room false true u d e f h = refl
    has_its_room false false u d e f h = let k = rw f at h in cc

-- the elements after the front one is received and a sender that waits, if one does, has put its own
refilled_right : (c elsize : ℕ) (chans : List Channel) (waits : List Waiter) (chan : Channel) (x : Element) (rest : List Element) (o : Option Party) → by_id chans c ≡ Some chan → chan.elements ≡ x ∷ rest → length chan.elements ≤ chan.cap → find (sends_on c) (parties waits) ≡ o → WaitRightly chans waits → All IsWithin chans → WokenWaits (sender_woken c o) waits × WaitRightly (with_elements c (refilled c elsize rest o) chans) (left_by (sender_woken c o) waits) × All IsWithin (with_elements c (refilled c elsize rest o) chans)
refilled_right c elsize chans waits chan x rest None at is short e right within = (
  tt,
  changed_rightly (holding rest) chans waits c chan at right
      (λ _. none_found (sends_on c) (parties waits) e)
      (λ _. right.receives c (ap takes_receives at ∙ or_right chan.closed (has_element chan) (has_one chan x rest is))),
  holding_within chans c chan rest at (let k = ap length is in omega (arith, k, short)) within,
)
refilled_right c elsize chans waits chan x rest (Some w) at is short e right within = (
  found_waits (sends_on c) waits w e,
  changed_rightly (holding more) chans (waits_without w.tid waits) c chan at (without_rightly chans waits w.tid right)
      (λ h. none_left (sends_on c) w.tid waits (right.sends c (ap takes_sends at ∙ sym (ap (λ n. chan.closed || ltb n chan.cap) as_long) ∙ h)))
      (λ _. none_left (receives_on c) w.tid waits (right.receives c (ap takes_receives at ∙ or_right chan.closed (has_element chan) (has_one chan x rest is)))),
  holding_within chans c chan more at (omega (arith, as_long, short)) within,
)
  where
    more : List Element
    more = rest ++ element w.at (sender_bytes c elsize w) ∷ []

    as_long : length (rest ++ element w.at (sender_bytes c elsize w) ∷ []) ≡ length chan.elements
    as_long = let a = length-append rest (element w.at (sender_bytes c elsize w) ∷ []) in let k = ap length is in omega (arith, a, k)

receive_from_right : (me : Party) (i : ℕ) (slot : Slot) (c : ℕ) (chans : List Channel) (waits : List Waiter) (chan : Channel) (elements : List Element) → by_id chans c ≡ Some chan → chan.elements ≡ elements → length chan.elements ≤ chan.cap → WaitRightly chans waits → All IsWithin chans → IsRightDeal waits (receive_from me i slot c chans (parties waits) chan elements)
receive_from_right me i slot c chans waits chan [] at is short right within = if_right waits chan.closed _ _ (failed_right me i chans waits right within) (take_over_right me i slot c chan.elsize chans waits _ refl right within)
receive_from_right me i slot c chans waits chan (x ∷ rest) at is short right within =
    let k = refilled_right c chan.elsize chans waits chan x rest _ at is short refl right within in
    record { woken = k.0; right = k.1; within = k.2 }

-- a channel has at most as many elements as its capacity says
pub within_at : (chans : List Channel) (c : ℕ) (chan : Channel) → by_id chans c ≡ Some chan → All IsWithin chans → length chan.elements ≤ chan.cap
within_at chans c chan at within = held_at IsWithin chans (c - 1) chan (recursion_from_All IsWithin chans within) (get_from_by_id chans c chan at)

commit_op_right : (me : Party) (i : ℕ) (op : AltOp) (slot : Slot) (c : ℕ) (chans : List Channel) (waits : List Waiter) (o : Option Channel) → by_id chans c ≡ o → can_go_on op c o (parties waits) ≡ true → WaitRightly chans waits → All IsWithin chans → IsRightDeal waits (commit_op me i op slot c chans (parties waits) o)
commit_op_right me i op slot c chans waits None at ready right within = failed_right me i chans waits right within
commit_op_right me i Snd slot c chans waits (Some chan) at ready right within =
    commit_send_right me i (sent_bytes chan.elsize slot) c chans waits chan chan.closed (is_unbuffered chan) refl refl at ready right within
commit_op_right me i Rcv slot c chans waits (Some chan) at ready right within =
    receive_from_right me i slot c chans waits chan chan.elements at refl (within_at chans c chan at within) right within
commit_op_right me i Nop slot c chans waits (Some chan) at ready right within = failed_right me i chans waits right within

goes_on : (err b : Bool) → (not err && b) ≡ true → b ≡ true
goes_on true b h = cc
goes_on false b h = h

-- a ready entry that goes on leaves the waits and the channels right
pub commit_right : (me : Party) (i : ℕ) (chans : List Channel) (waits : List Waiter) (e : AltEntry) → slice_get me.entries i ≡ Some e → is_ready chans (parties waits) e ≡ true → WaitRightly chans waits → All IsWithin chans → IsRightDeal waits (commit me i chans (parties waits))
commit_right me i chans waits e at ready right within =
    subst (λ (o : Option AltEntry). IsRightDeal waits (commit_entry me i chans (parties waits) o)) (sym at)
    (commit_op_right me i e.op e.slot e.chan chans waits (by_id chans e.chan) refl (goes_on e.err (can_go_on e.op e.chan (by_id chans e.chan) (parties waits)) ready) right within)
