-- What an alt that goes on keeps: a send, and a receive.
use Rattle.std.proofs.Common.{◌≡◌, ℕ, ◌+◌, Bool, true, false, cond, List, [], ◌∷◌, ◌++◌, Option, Some, None, refl, ap, subst, sym, ◌∙◌}
use Rattle.std.specs.Prelude.{slice_get}
use Rattle.std.specs.List.{filter, find, cons_option}
use Rattle.std.proofs.lemmas.List.{append-nil}
use Rattle.p9_word.specs.declared.alt.Slot.{Slot}
use Rattle.p9_word.specs.declared.trail.Entry.{Entry}
use Rattle.p9_manual.specs.declared.state.Channel.{Channel}
use Rattle.p9_manual.specs.declared.state.Element.{Element}
use Rattle.p9_manual.specs.declared.state.Party.{Party}
use Rattle.p9_manual.specs.AltEntries.{sends_to, sends_on, receives_on}
use Rattle.p9_manual.specs.ReadyEntries.{is_unbuffered}
use Rattle.p9_manual.specs.Commit.{Deal, element, holding, with_elements, failed, hand_over, pass_on, commit_send, take_over, refilled, sender_woken, receive_from}
use Rattle.p9_manual.specs.Told.{sent_bytes, sender_bytes}
use Rattle.p9_manual.specs.Alt.{parties_without}
use Rattle.p9_laws.specs.Senders.{IsSendOf}
use Rattle.p9_manual.specs.State.{Move, by_id}
use Rattle.p9_laws.proofs.Tallies.{found_holds}
use Rattle.p9_laws.proofs.Sound.Places.{by_id-changed_same}
use Rattle.p9_laws.proofs.Moves.Senders.{first_entry, find_passes, not_of}
use Rattle.p9_laws.proofs.Moves.Sent.{sent_from}
use Rattle.p9_laws.proofs.Moves.Kept.{Kept, IsAsked, kept_later, kept_less}
use Rattle.p9_laws.proofs.Moves.Elements.{kept_put, kept_refill, kept_leave, elements_twice, elements_back}

-- what is kept once the caller came to a deal
abbrev pub KeptAfter : List Entry → ℕ → List Move → List Party → Deal → Type 0
KeptAfter H n ms waits d = Kept H (n + 1) (ms ++ cons_option d.moved []) d.chans (parties_without d.woken waits)

pub failed_kept : (H : List Entry) (ms : List Move) (chans : List Channel) (waits : List Party) (me : Party) (i : ℕ) → Kept H me.at ms chans waits → KeptAfter H me.at ms waits (failed me i chans)
failed_kept H ms chans waits me i k = rw append-nil (kept_later H me.at ms chans waits k)

-- what a thread that waits to send gives was sent by its call
sender_sent : (H : List Entry) (c elsize : ℕ) (w : Party) → IsAsked H w → sends_on c w ≡ true → IsSendOf c elsize (sender_bytes c elsize w) (slice_get H w.at)
sender_sent H c elsize w asked sends =
    let f = first_entry (sends_to c) w.entries sends in
    sent_from c elsize (sender_bytes c elsize w) w.entries (slice_get H w.at) f.index f.entry asked f.there (f.passes, ap (sent_bytes elsize) (sym f.slot))

-- the only element, which has just come, leaves
only_leaves : (H : List Entry) (n : ℕ) (ms : List Move) (chans : List Channel) (waits : List Party) (c : ℕ) (chan : Channel) (x : Element) (to : ℕ) → by_id chans c ≡ Some chan → chan.elements ≡ [] → Kept H n ms (with_elements c (chan.elements ++ x ∷ []) chans) waits → Kept H n (ms ++ record { chan = c; from = x.from; to = to; bytes = x.msg } ∷ []) chans waits
only_leaves H n ms chans waits c chan x to at none k =
    let one : List Element = chan.elements ++ x ∷ [] in
    let is : one ≡ x ∷ [] = rw none refl in
    let gone = kept_leave H n ms (with_elements c one chans) waits c (holding one chan) x [] to (by_id-changed_same (holding one) chans c chan at) is k in
    let back : with_elements c [] (with_elements c one chans) ≡ chans = elements_twice c [] one chans ∙ ap (λ es. with_elements c es chans) (sym none) ∙ elements_back c chans chan at in
    subst (λ cs. Kept H n (ms ++ record { chan = c; from = x.from; to = to; bytes = x.msg } ∷ []) cs waits) back gone

hand_over_kept : (H : List Entry) (ms : List Move) (chans : List Channel) (waits : List Party) (me : Party) (i : ℕ) (bytes : List ℕ) (c : ℕ) (chan : Channel) (o : Option Party) → by_id chans c ≡ Some chan → chan.elements ≡ [] → ((w : Party) → o ≡ Some w → filter (sends_on c) (filter (not_of w.tid) waits) ≡ []) → IsSendOf c chan.elsize bytes (slice_get H me.at) → Kept H me.at ms chans waits → KeptAfter H me.at ms waits (hand_over me i bytes c chans o)
hand_over_kept H ms chans waits me i bytes c chan None at none alone sent k = failed_kept H ms chans waits me i k
hand_over_kept H ms chans waits me i bytes c chan (Some w) at none alone sent k =
    let x : Element = element me.at bytes in
    only_leaves H (me.at + 1) ms chans (filter (not_of w.tid) waits) c chan x w.tid at none
    (kept_put H me.at ms chans (filter (not_of w.tid) waits) c chan x at (alone w refl) refl sent (kept_less (not_of w.tid) H me.at ms chans waits k))

pass_on_kept : (H : List Entry) (ms : List Move) (chans : List Channel) (waits : List Party) (me : Party) (i c : ℕ) (chan : Channel) (o : Option Party) (es : List Element) → by_id chans c ≡ Some chan → Kept H me.at ms chans waits → Kept H (me.at + 1) ms (with_elements c es chans) waits → KeptAfter H me.at ms waits (pass_on me i c chans o es)
pass_on_kept H ms chans waits me i c chan None es at k put = rw append-nil put
pass_on_kept H ms chans waits me i c chan (Some w) [] at k put = failed_kept H ms chans waits me i k
pass_on_kept H ms chans waits me i c chan (Some w) (x ∷ rest) at k put =
    let more : List Element = x ∷ rest in
    let m : Move = record { chan = c; from = x.from; to = w.tid; bytes = x.msg } in
    let gone = kept_leave H (me.at + 1) ms (with_elements c more chans) waits c (holding more chan) x rest w.tid (by_id-changed_same (holding more) chans c chan at) refl put in
    kept_less (not_of w.tid) H (me.at + 1) (ms ++ m ∷ []) (with_elements c rest chans) waits
    (subst (λ cs. Kept H (me.at + 1) (ms ++ m ∷ []) cs waits) (elements_twice c rest more chans) gone)

-- who waits where: nobody waits to send where a send goes on at once, and no elements are where values are handed over
pub record SendsApart (c : ℕ) (chan : Channel) (waits : List Party) : Type 0 where
  pub room : chan.closed ≡ false → is_unbuffered chan ≡ false → filter (sends_on c) waits ≡ []
  pub empty : is_unbuffered chan ≡ true → chan.elements ≡ []
  pub alone : (w : Party) → find (receives_on c) waits ≡ Some w → filter (sends_on c) (filter (not_of w.tid) waits) ≡ []

send_step : (H : List Entry) (ms : List Move) (chans : List Channel) (waits : List Party) (me : Party) (i : ℕ) (bytes : List ℕ) (c : ℕ) (chan : Channel) (closed unbuffered : Bool) → chan.closed ≡ closed → is_unbuffered chan ≡ unbuffered → by_id chans c ≡ Some chan → SendsApart c chan waits → IsSendOf c chan.elsize bytes (slice_get H me.at) → Kept H me.at ms chans waits → KeptAfter H me.at ms waits (cond closed (failed me i chans) (cond unbuffered (hand_over me i bytes c chans (find (receives_on c) waits)) (pass_on me i c chans (find (receives_on c) waits) (chan.elements ++ element me.at bytes ∷ []))))
send_step H ms chans waits me i bytes c chan true unbuffered e f at apart sent k = failed_kept H ms chans waits me i k
send_step H ms chans waits me i bytes c chan false true e f at apart sent k =
    hand_over_kept H ms chans waits me i bytes c chan (find (receives_on c) waits) at (apart.empty f) apart.alone sent k
send_step H ms chans waits me i bytes c chan false false e f at apart sent k =
    pass_on_kept H ms chans waits me i c chan (find (receives_on c) waits) (chan.elements ++ element me.at bytes ∷ []) at k
    (kept_put H me.at ms chans waits c chan (element me.at bytes) at (apart.room e f) refl sent k)

pub send_kept : (H : List Entry) (ms : List Move) (chans : List Channel) (waits : List Party) (me : Party) (i : ℕ) (bytes : List ℕ) (c : ℕ) (chan : Channel) → by_id chans c ≡ Some chan → SendsApart c chan waits → IsSendOf c chan.elsize bytes (slice_get H me.at) → Kept H me.at ms chans waits → KeptAfter H me.at ms waits (commit_send me i bytes c chans waits chan)
send_kept H ms chans waits me i bytes c chan at apart sent k = send_step H ms chans waits me i bytes c chan chan.closed (is_unbuffered chan) refl refl at apart sent k

take_over_kept : (H : List Entry) (ms : List Move) (chans : List Channel) (waits : List Party) (me : Party) (i : ℕ) (slot : Slot) (c : ℕ) (chan : Channel) (o : Option Party) → find (sends_on c) waits ≡ o → by_id chans c ≡ Some chan → chan.elements ≡ [] → Kept H me.at ms chans waits → KeptAfter H me.at ms waits (take_over me i slot c chan.elsize chans o)
take_over_kept H ms chans waits me i slot c chan None found at none k = failed_kept H ms chans waits me i k
take_over_kept H ms chans waits me i slot c chan (Some w) found at none k =
    let x : Element = element w.at (sender_bytes c chan.elsize w) in
    let sent = sender_sent H c chan.elsize w (found_holds (IsAsked H) (sends_on c) w waits k.asked found) (find_passes (sends_on c) w waits found) in
    only_leaves H (me.at + 1) ms chans (filter (not_of w.tid) waits) c chan x me.tid at none
    (kept_later H me.at ms (with_elements c (chan.elements ++ x ∷ []) chans) (filter (not_of w.tid) waits) (kept_refill H me.at ms chans waits c chan w x at found refl sent k))

taken_kept : (H : List Entry) (n : ℕ) (ms : List Move) (chans : List Channel) (waits : List Party) (c : ℕ) (chan : Channel) (rest : List Element) (o : Option Party) → find (sends_on c) waits ≡ o → by_id chans c ≡ Some chan → Kept H n ms (with_elements c rest chans) waits → Kept H n ms (with_elements c (refilled c chan.elsize rest o) chans) (parties_without (sender_woken c o) waits)
taken_kept H n ms chans waits c chan rest None found at k = k
taken_kept H n ms chans waits c chan rest (Some w) found at k =
    let x : Element = element w.at (sender_bytes c chan.elsize w) in
    let sent = sender_sent H c chan.elsize w (found_holds (IsAsked H) (sends_on c) w waits k.asked found) (find_passes (sends_on c) w waits found) in
    let full = kept_refill H n ms (with_elements c rest chans) waits c (holding rest chan) w x (by_id-changed_same (holding rest) chans c chan at) found refl sent k in
    subst (λ cs. Kept H n ms cs (filter (not_of w.tid) waits)) (elements_twice c (rest ++ x ∷ []) rest chans) full

receive_step : (H : List Entry) (ms : List Move) (chans : List Channel) (waits : List Party) (me : Party) (i : ℕ) (slot : Slot) (c : ℕ) (chan : Channel) (closed : Bool) → by_id chans c ≡ Some chan → chan.elements ≡ [] → Kept H me.at ms chans waits → KeptAfter H me.at ms waits (cond closed (failed me i chans) (take_over me i slot c chan.elsize chans (find (sends_on c) waits)))
receive_step H ms chans waits me i slot c chan true at none k = failed_kept H ms chans waits me i k
receive_step H ms chans waits me i slot c chan false at none k = take_over_kept H ms chans waits me i slot c chan (find (sends_on c) waits) refl at none k

pub receive_kept : (H : List Entry) (ms : List Move) (chans : List Channel) (waits : List Party) (me : Party) (i : ℕ) (slot : Slot) (c : ℕ) (chan : Channel) (es : List Element) → chan.elements ≡ es → by_id chans c ≡ Some chan → Kept H me.at ms chans waits → KeptAfter H me.at ms waits (receive_from me i slot c chans waits chan es)
receive_kept H ms chans waits me i slot c chan [] is at k = receive_step H ms chans waits me i slot c chan chan.closed at is k
receive_kept H ms chans waits me i slot c chan (x ∷ rest) is at k =
    let m : Move = record { chan = c; from = x.from; to = me.tid; bytes = x.msg } in
    kept_later H me.at (ms ++ m ∷ []) (with_elements c (refilled c chan.elsize rest (find (sends_on c) waits)) chans) (parties_without (sender_woken c (find (sends_on c) waits)) waits)
    (taken_kept H me.at (ms ++ m ∷ []) chans waits c chan rest (find (sends_on c) waits) refl at (kept_leave H me.at ms chans waits c chan x rest me.tid at is k))
