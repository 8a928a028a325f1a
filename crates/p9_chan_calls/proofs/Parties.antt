-- The threads that wait in an alt, where one more waits or one is taken out, and what an offer asks of them.
use Rattle.std.proofs.Common.{◌≡◌, ℕ, ◌+◌, ◌≤◌, Bool, true, false, not, cond, List, [], ◌∷◌, ◌++◌, Option, Some, None, refl, ap, sym, ◌∙◌, arith, rules, tests, append-nil}
use Rattle.std.specs.Prelude.{◌==◌, All, slice_get}
use Rattle.std.specs.List.{filter, find}
use Rattle.std.proofs.lemmas.List.Elements.{filter-append, All-nil, All-head, All-tail, All-append, All-cons}
use Rattle.std.proofs.lemmas.List.Concat.{flat_map-append}
use Rattle.p9_word.specs.declared.answer.Answer.{Answer}
use Rattle.p9_word.specs.declared.alt.AltOp.{AltOp}
use Rattle.p9_word.specs.declared.alt.AltOp.TheVariants.{Snd, Rcv, Nop}
use Rattle.p9_word.specs.declared.alt.Slot.{Slot}
use Rattle.p9_word.specs.declared.alt.AltEntry.{AltEntry}
use Rattle.p9_word.specs.declared.alt.Ending.{Ending}
use Rattle.p9_word.specs.declared.alt.Ending.TheVariants.{End, NoBlk}
use Rattle.p9_word.specs.declared.request.Request.{Request}
use Rattle.p9_manual.specs.declared.state.Channel.{Channel}
use Rattle.p9_manual.specs.declared.state.Element.{Element}
use Rattle.p9_manual.specs.declared.state.Waiter.{Waiter}
use Rattle.p9_manual.specs.declared.state.Party.{Party}
use Rattle.p9_manual.specs.Offers.{Alternation, alternation_of, party, party_with, party_of, parties}
use Rattle.p9_manual.specs.AltEntries.{sends_on, receives_on}
use Rattle.p9_manual.specs.ReadyEntries.{is_unbuffered, ready_entries}
use Rattle.p9_manual.specs.Commit.{Deal, hand_over, pass_on, take_over, sender_woken, receive_from, commit_op, commit_entry, element}
use Rattle.p9_manual.specs.Told.{sent_bytes}
use Rattle.p9_manual.specs.Alt.{Verdict, AllClosed, Commits, NoneReady, MustWait, is_closed_list, chosen, unready, verdict_on, verdict}
use Rattle.p9_manual.specs.State.{by_id, waits_without}
use Rattle.p9_manual.specs.Standing.{times}
use Rattle.p9_manual.specs.Sound.{takes_sends}
use Rattle.p9_chan.specs.Channels.{is_closed_in}
use Rattle.p9_alt.specs.For.{AreAlike}
use Rattle.p9_chan_calls.proofs.Alike.{alike_closed}

-- the party is thread t
abbrev pub is_tid : ℕ → Party → Bool
is_tid t u = u.tid == t

-- one more waits
pub parties_push : (waits : List Waiter) (w : Waiter) → parties (waits ++ w ∷ []) ≡ parties waits ++ party_of w
parties_push waits w = flat_map-append party_of waits (w ∷ []) ∙ ap (λ ps. parties waits ++ ps) (append-nil (party_of w))

-- one more waits in an alt
pub parties_wait : (waits : List Waiter) (t at : ℕ) (request : Request) (a : Alternation) → alternation_of request ≡ Some a → parties (waits ++ record { tid = t; request = request; at = at } ∷ []) ≡ parties waits ++ party t at a ∷ []
parties_wait waits t at request a e =
    parties_push waits (record { tid = t; request = request; at = at }) ∙ ap (λ o. parties waits ++ party_with t at o) e

one_without : (t u at : ℕ) (b : Bool) (o : Option Alternation) → (u == t) ≡ b → filter (λ p. not (is_tid t p)) (party_with u at o) ≡ cond b [] (party_with u at o)
one_without t u at true None h = refl
one_without t u at false None h = refl
one_without t u at true (Some a) h = rw h refl
one_without t u at false (Some a) h = rw h refl

without_step : (t : ℕ) (b : Bool) (w : Waiter) (fs ws : List Waiter) → (w.tid == t) ≡ b → parties fs ≡ filter (λ p. not (is_tid t p)) (parties ws) → parties (cond (not b) (w ∷ fs) fs) ≡ filter (λ p. not (is_tid t p)) (party_of w ++ parties ws)
without_step t true w fs ws h e = rw (filter-append (λ p. not (is_tid t p)) (party_of w) (parties ws), one_without t w.tid w.at true (alternation_of w.request) h) e
without_step t false w fs ws h e = rw (filter-append (λ p. not (is_tid t p)) (party_of w) (parties ws), one_without t w.tid w.at false (alternation_of w.request) h) (ap (λ ps. party_of w ++ ps) e)

-- without the waits of t the parties are those of the other threads
pub parties_without_tid : (t : ℕ) → (waits : List Waiter) → parties (waits_without t waits) ≡ filter (λ u. not (u.tid == t)) (parties waits)
parties_without_tid t [] = refl
parties_without_tid t (w ∷ ws) = without_step t (w.tid == t) w (waits_without t ws) ws refl (parties_without_tid t ws)

pub times-append : {A : Type 0} (q : A → Bool) → (xs ys : List A) → times q (xs ++ ys) ≡ times q xs + times q ys
times-append q [] ys = omega arith
times-append q (x ∷ xs) ys = omega (arith, times-append q xs ys)

one_party : (t u at : ℕ) (o : Option Alternation) → times (is_tid t) (party_with u at o) ≤ cond (u == t) 1 0
one_party t u at None = least (u == t)
  where
    least : (b : Bool) → 0 ≤ cond b 1 0
    least b = omega arith
one_party t u at (Some a) = omega arith

-- a thread waits at least as often as it waits in an alt
pub times_parties : (t : ℕ) → (waits : List Waiter) → times (is_tid t) (parties waits) ≤ times (λ w. w.tid == t) waits
times_parties t [] = omega arith
times_parties t (w ∷ ws) =
    let a = times-append (is_tid t) (party_of w) (parties ws) in
    let here = one_party t w.tid w.at (alternation_of w.request) in
    let rest = times_parties t ws in
    omega (arith, a, here, rest)

one_before : (n t at : ℕ) (o : Option Alternation) → at + 1 ≤ n → All (λ u. u.at + 1 ≤ n) (party_with t at o)
one_before n t at None h = All-nil (λ (u : Party). u.at + 1 ≤ n)
one_before n t at (Some a) h = All-cons (λ (u : Party). u.at + 1 ≤ n) (party t at a) [] h (All-nil (λ (u : Party). u.at + 1 ≤ n))

-- the calls of those that wait in an alt were made before the calls of all that wait were
pub before_parties : (n : ℕ) → (waits : List Waiter) → All (λ w. w.at + 1 ≤ n) waits → All (λ u. u.at + 1 ≤ n) (parties waits)
before_parties n [] h = All-nil (λ (u : Party). u.at + 1 ≤ n)
before_parties n (w ∷ ws) h =
    All-append (λ (u : Party). u.at + 1 ≤ n) (party_of w) (parties ws) (one_before n w.tid w.at (alternation_of w.request) (All-head (λ (x : Waiter). x.at + 1 ≤ n) w ws h)) (before_parties n ws (All-tail (λ (x : Waiter). x.at + 1 ≤ n) w ws h))

closed_takes : (o : Option Channel) → is_closed_in o ≡ true → takes_sends o ≡ true
closed_takes None h = absurd (cc h)
closed_takes (Some chan) h = rw h refl

-- nobody waits to send on a closed channel
pub open_sends : (a b : List Channel) (ps : List Party) → AreAlike a b → ((c : ℕ) → takes_sends (by_id b c) ≡ true → times (sends_on c) ps ≡ 0) → (c : ℕ) → is_closed_in (by_id a c) ≡ true → times (sends_on c) ps ≡ 0
open_sends a b ps h rightly c closed = rightly c (closed_takes (by_id b c) (sym (alike_closed a b c h) ∙ closed))

-- who is woken, if anybody is, is one of these
abbrev pub WokenStands : Option (ℕ × Answer) → List Party → Type 0
WokenStands None ps = Unit {0}
WokenStands (Some w) ps = 1 ≤ times (is_tid w.0) ps

found_step : (q : Party → Bool) (b : Bool) (u w : Party) (r : Option Party) (n : ℕ) → (r ≡ Some w → 1 ≤ n) → cond b (Some u) r ≡ Some w → 1 ≤ cond (is_tid w.tid u) 1 0 + n
found_step q true u w r n k e = let s : u ≡ w = cc in let same : (w.tid == w.tid) ≡ true = search (rules, tests) in rw (s, same) (omega arith)
found_step q false u w r n k e = let m = k e in omega (arith, m)

found_stands : (q : Party → Bool) → (ps : List Party) (w : Party) → find q ps ≡ Some w → 1 ≤ times (is_tid w.tid) ps
found_stands q [] w e = absurd (cc e)
found_stands q (u ∷ us) w e = found_step q (q u) u w (find q us) (times (is_tid w.tid) us) (found_stands q us w) e

woken_if : (ps : List Party) (b : Bool) (d e : Deal) → WokenStands d.woken ps → WokenStands e.woken ps → WokenStands (cond b d e).woken ps
woken_if ps true d e h k = h
woken_if ps false d e h k = k

hand_woken : (me : Party) (i : ℕ) (bytes : List ℕ) (c : ℕ) (chans : List Channel) (ps : List Party) (q : Party → Bool) (o : Option Party) → find q ps ≡ o → WokenStands (hand_over me i bytes c chans o).woken ps
hand_woken me i bytes c chans ps q None e = tt
hand_woken me i bytes c chans ps q (Some w) e = found_stands q ps w e

pass_woken : (me : Party) (i c : ℕ) (chans : List Channel) (ps : List Party) (q : Party → Bool) (o : Option Party) (elements : List Element) → find q ps ≡ o → WokenStands (pass_on me i c chans o elements).woken ps
pass_woken me i c chans ps q None elements e = tt
pass_woken me i c chans ps q (Some w) [] e = tt
pass_woken me i c chans ps q (Some w) (x ∷ rest) e = found_stands q ps w e

take_woken : (me : Party) (i : ℕ) (slot : Slot) (c elsize : ℕ) (chans : List Channel) (ps : List Party) (q : Party → Bool) (o : Option Party) → find q ps ≡ o → WokenStands (take_over me i slot c elsize chans o).woken ps
take_woken me i slot c elsize chans ps q None e = tt
take_woken me i slot c elsize chans ps q (Some w) e = found_stands q ps w e

sender_stands : (c : ℕ) (ps : List Party) (q : Party → Bool) (o : Option Party) → find q ps ≡ o → WokenStands (sender_woken c o) ps
sender_stands c ps q None e = tt
sender_stands c ps q (Some w) e = found_stands q ps w e

receive_woken : (me : Party) (i : ℕ) (slot : Slot) (c : ℕ) (chans : List Channel) (ps : List Party) (chan : Channel) (elements : List Element) → WokenStands (receive_from me i slot c chans ps chan elements).woken ps
receive_woken me i slot c chans ps chan [] = woken_if ps chan.closed _ _ tt (take_woken me i slot c chan.elsize chans ps (sends_on c) (find (sends_on c) ps) refl)
receive_woken me i slot c chans ps chan (x ∷ rest) = sender_stands c ps (sends_on c) (find (sends_on c) ps) refl

op_woken : (me : Party) (i : ℕ) (op : AltOp) (slot : Slot) (c : ℕ) (chans : List Channel) (ps : List Party) (o : Option Channel) → WokenStands (commit_op me i op slot c chans ps o).woken ps
op_woken me i op slot c chans ps None = tt
op_woken me i Snd slot c chans ps (Some chan) =
    woken_if ps chan.closed _ _ tt (woken_if ps (is_unbuffered chan) _ _ (hand_woken me i (sent_bytes chan.elsize slot) c chans ps (receives_on c) (find (receives_on c) ps) refl) (pass_woken me i c chans ps (receives_on c) (find (receives_on c) ps) (chan.elements ++ element me.at (sent_bytes chan.elsize slot) ∷ []) refl))
op_woken me i Rcv slot c chans ps (Some chan) = receive_woken me i slot c chans ps chan chan.elements
op_woken me i Nop slot c chans ps (Some chan) = tt

entry_woken : (me : Party) (i : ℕ) (chans : List Channel) (ps : List Party) (o : Option AltEntry) → WokenStands (commit_entry me i chans ps o).woken ps
entry_woken me i chans ps None = tt
entry_woken me i chans ps (Some e) = op_woken me i e.op e.slot e.chan chans ps (by_id chans e.chan)

-- whom a verdict wakes
abbrev pub woken_in : Verdict → Option (ℕ × Answer)
woken_in (Commits d) = d.woken
woken_in AllClosed = None
woken_in NoneReady = None
woken_in MustWait = None

unready_woken : (ending : Ending) (ps : List Party) → WokenStands (woken_in (unready ending)) ps
unready_woken NoBlk ps = tt
unready_woken End ps = tt

on_woken : (draw : ℕ) (me : Party) (ending : Ending) (chans : List Channel) (ps : List Party) (ns : List ℕ) → WokenStands (woken_in (verdict_on draw me ending chans ps ns)) ps
on_woken draw me ending chans ps [] = unready_woken ending ps
on_woken draw me ending chans ps (i ∷ []) = entry_woken me i chans ps (slice_get me.entries i)
on_woken draw me ending chans ps (i ∷ j ∷ more) = entry_woken me (chosen draw (i ∷ j ∷ more)) chans ps (slice_get me.entries (chosen draw (i ∷ j ∷ more)))

closed_or_woken : (closed : Bool) (v : Verdict) (ps : List Party) → WokenStands (woken_in v) ps → WokenStands (woken_in (cond closed AllClosed v)) ps
closed_or_woken true v ps h = tt
closed_or_woken false v ps h = h

-- who is woken waits in an alt
pub woken_stands : (draw : ℕ) (me : Party) (ending : Ending) (chans : List Channel) (ps : List Party) → WokenStands (woken_in (verdict draw me ending chans ps)) ps
woken_stands draw me ending chans ps =
    closed_or_woken (is_closed_list me.entries) _ ps (on_woken draw me ending chans ps (ready_entries chans ps me.entries))
