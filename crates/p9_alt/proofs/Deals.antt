-- What the steps of a send and of a receive come to is what the deal says.
use Rattle.std.proofs.Common.{◌≡◌, ◌≢◌, ℕ, ◌≤◌, Bool, true, false, List, [], ◌∷◌, ◌++◌, length, refl, sym, ap, ◌∙◌, arith}
use Rattle.std.proofs.lemmas.Bool.{lt-ltb, ne_eqb}
use Rattle.std.proofs.lemmas.List.{length_push}
use Rattle.std.specs.Prelude.{Option, Some, None, is_some, if◌then◌else◌}
use Rattle.std.specs.List.{find}
use Rattle.p9_word.specs.declared.alt.AltOp.TheVariants.{Snd, Rcv}
use Rattle.p9_word.specs.declared.alt.Slot.{Slot}
use Rattle.p9_word.specs.declared.alt.Slot.TheVariants.{Give}
use Rattle.p9_word.specs.declared.answer.Answer.{Answer}
use Rattle.p9_manual.specs.declared.state.Channel.{Channel}
use Rattle.p9_manual.specs.declared.state.Element.{Element}
use Rattle.p9_manual.specs.declared.state.Party.{Party}
use Rattle.p9_manual.specs.Alt.{parties_without}
use Rattle.p9_manual.specs.Commit.{Deal, receive_from, pass_on, take_over, element, with_elements, sender_woken, refilled as refilled_with}
use Rattle.p9_manual.specs.Told.{sent_answer, got_answer, kept_bytes, sender_bytes}
use Rattle.p9_manual.specs.AltEntries.{sends_on, receives_on}
use Rattle.p9_manual.specs.ReadyEntries.{unfreed}
use Rattle.p9_manual.specs.State.{by_id}
use Rattle.p9_chan.specs.Channels.{Channels, IsMade, chan_of, elements_in, cap_in, elsize_in, is_closed_in, has_room_in, is_live_in, left_in, refilled}
use Rattle.p9_alt.specs.declared.commit.Done.{Done}
use Rattle.p9_alt.specs.declared.commit.Turn.{Turn}
use Rattle.p9_alt.specs.declared.offer.Wake.{Wake}
use Rattle.p9_alt.specs.Exchange.{wake_with}
use Rattle.p9_alt.specs.Passing.{caller, deal_of, without, passed_wake, passed_rest, taken_answer, sender_gives, IsDealt, IsLeft}
use Rattle.p9_alt.proofs.Changes.{made_chan, chan_of-refilled, made-refilled, refilled_twice}

-- what is found passes
found_by : {A : Type 0} (p : A → Bool) (b : Bool) (x w : A) (o : Option A) → p x ≡ b → (if b then Some x else o) ≡ Some w → (o ≡ Some w → p w ≡ true) → p w ≡ true
found_by p true x w o is e k = let same : x ≡ w = cc in rw (← same) is
found_by p false x w o is e k = k e

pub find_passes : {A : Type 0} (p : A → Bool) (ws : List A) (w : A) → find p ws ≡ Some w → p w ≡ true
find_passes p [] w e = cc
find_passes p (x ∷ ws) w e = found_by p (p x) x w (find p ws) refl e (find_passes p ws w)

open_by : (b : Bool) (n : ℕ) → is_some (if b then Some n else None) ≡ false → b ≡ false
open_by true n e = cc
open_by false n e = refl

-- a channel with no number of elements left is open
pub open_from : (o : Option Channel) → is_some (left_in o) ≡ false → is_closed_in o ≡ false
open_from None e = refl
open_from (Some chan) e = open_by chan.closed (length chan.elements) e

live_by : (b : Bool) (chan : Channel) → (if b then false else true) ≡ true → (if b then None else Some chan) ≡ Some chan
live_by true chan e = cc
live_by false chan e = refl

pub live_same : (o : Option Channel) → is_live_in o ≡ true → unfreed o ≡ o
live_same None e = refl
live_same (Some chan) e = live_by chan.freed chan e

-- the elements of a channel that was put other ones
pub elements-refilled : (c : ℕ) (es : List Element) (x y : Channels) → IsMade c x → y ≡ refilled c es x → elements_in (chan_of c y) ≡ es
elements-refilled c es x y made e =
    let m = made_chan x c made in
    rw (e, chan_of-refilled c es x made, m.1) refl

pub elsize-refilled : (c : ℕ) (es : List Element) (x y : Channels) → IsMade c x → y ≡ refilled c es x → elsize_in (chan_of c y) ≡ elsize_in (chan_of c x)
elsize-refilled c es x y made e =
    let m = made_chan x c made in
    rw (e, chan_of-refilled c es x made, m.1) refl

pub closed-refilled : (c : ℕ) (es : List Element) (x y : Channels) → IsMade c x → y ≡ refilled c es x → is_closed_in (chan_of c y) ≡ is_closed_in (chan_of c x)
closed-refilled c es x y made e =
    let m = made_chan x c made in
    rw (e, chan_of-refilled c es x made, m.1) refl

pub made_after : (c : ℕ) (es : List Element) (x y : Channels) → IsMade c x → y ≡ refilled c es x → IsMade c y
made_after c es x y made e = rw e (made-refilled c es x made)

-- there is room where an element was taken
pub room_after : (c : ℕ) (front : Element) (es : List Element) (x y : Channels) → IsMade c x → y ≡ refilled c es x → elements_in (chan_of c x) ≡ front ∷ es → length (elements_in (chan_of c x)) ≤ cap_in (chan_of c x) → has_room_in (chan_of c y) ≡ true
room_after c front es x y made e at le =
    let m = made_chan x c made in
    let cap : cap_in (chan_of c x) ≡ m.0.cap = ap cap_in m.1 in
    let len : length (elements_in (chan_of c x)) ≡ length (front ∷ es) = ap length at in
    rw (e, chan_of-refilled c es x made, m.1) (lt-ltb (length es) m.0.cap (omega arith))

-- a send on an open channel that has elements
send_is : (turn : Turn) (c : ℕ) (v : List ℕ) (chans : List Channel) (waits : List Party) (chan : Channel) → by_id chans c ≡ Some chan → chan.closed ≡ false → chan.cap ≢ 0 → deal_of turn Snd (Give v) c chans waits ≡ pass_on (caller turn) turn.i c chans (find (receives_on c) waits) (chan.elements ++ element turn.at v ∷ [])
send_is turn c v chans waits chan at unshut cap = rw (at, unshut, ne_eqb chan.cap 0 cap) refl

pass_answer : (me : Party) (i c : ℕ) (chans : List Channel) (o : Option Party) (es : List Element) → 1 ≤ length es → (pass_on me i c chans o es).answer ≡ sent_answer me.single i
pass_answer me i c chans None es one = refl
pass_answer me i c chans (Some w) [] one = absurd (omega arith)
pass_answer me i c chans (Some w) (x ∷ es) one = refl

pass_woken : (me : Party) (i c : ℕ) (chans : List Channel) (o : Option Party) (es : List Element) → wake_with (pass_on me i c chans o es).woken ≡ passed_wake c o es
pass_woken me i c chans None es = refl
pass_woken me i c chans (Some w) [] = refl
pass_woken me i c chans (Some w) (x ∷ es) = refl

pass_chans : (me : Party) (i c : ℕ) (chans : List Channel) (o : Option Party) (es : List Element) → 1 ≤ length es → (pass_on me i c chans o es).chans ≡ with_elements c (passed_rest o es) chans
pass_chans me i c chans None es one = refl
pass_chans me i c chans (Some w) [] one = absurd (omega arith)
pass_chans me i c chans (Some w) (x ∷ es) one = refl

pass_waits : (me : Party) (i c : ℕ) (chans : List Channel) (o : Option Party) (es : List Element) (waits : List Party) → 1 ≤ length es → parties_without (pass_on me i c chans o es).woken waits ≡ without o waits
pass_waits me i c chans None es waits one = refl
pass_waits me i c chans (Some w) [] waits one = absurd (omega arith)
pass_waits me i c chans (Some w) (x ∷ es) waits one = refl

one_pushed : (es : List Element) (x : Element) → 1 ≤ length (es ++ x ∷ [])
one_pushed es x = let h = length_push es x in omega arith

pub put_filled : (c : ℕ) (es : List Element) (el : Element) (x y : Channels) → IsMade c x → y ≡ refilled c (es ++ el ∷ []) x → 1 ≤ length (elements_in (chan_of c y))
put_filled c es el x y made put = rw (elements-refilled c (es ++ el ∷ []) x y made put) (one_pushed es el)

-- what a send comes to where it puts its value
pub sent_dealt : (turn : Turn) (c : ℕ) (v : List ℕ) (x y : Channels) (waits : List Party) (a : Answer) (r : Option Wake) → IsMade c x → is_closed_in (chan_of c x) ≡ false → cap_in (chan_of c x) ≢ 0 → y ≡ refilled c (elements_in (chan_of c x) ++ element turn.at v ∷ []) x → a ≡ sent_answer turn.single turn.i → r ≡ passed_wake c (find (receives_on c) waits) (elements_in (chan_of c y)) → IsDealt (deal_of turn Snd (Give v) c x.chans waits) (record { answer = a; woken = r })
sent_dealt turn c v x y waits a r made unshut cap put told woke =
    let m = made_chan x c made in
    let es = m.0.elements ++ element turn.at v ∷ [] in
    let old : elements_in (chan_of c x) ≡ m.0.elements = ap elements_in m.1 in
    let shut : m.0.closed ≡ false = sym (ap is_closed_in m.1) ∙ unshut in
    let wide : m.0.cap ≢ 0 = λ e. cap (ap cap_in m.1 ∙ e) in
    let d = send_is turn c v x.chans waits m.0 m.1 shut wide in
    let now : elements_in (chan_of c y) ≡ es = elements-refilled c (elements_in (chan_of c x) ++ element turn.at v ∷ []) x y made put ∙ ap (λ (r : List Element). r ++ element turn.at v ∷ []) old in
    let one : 1 ≤ length es = one_pushed m.0.elements (element turn.at v) in
    let o = find (receives_on c) waits in
    record {
      answer = told ∙ (sym (pass_answer (caller turn) turn.i c x.chans o es one) ∙ ap (λ (k : Deal). k.answer) (sym d));
      woken = woke ∙ (ap (passed_wake c o) now ∙ (sym (pass_woken (caller turn) turn.i c x.chans o es) ∙ ap (λ (k : Deal). wake_with k.woken) (sym d)));
    }

pub sent_left : (turn : Turn) (c : ℕ) (v : List ℕ) (x y z : Channels) (waits waits_new : List Party) → IsMade c x → is_closed_in (chan_of c x) ≡ false → cap_in (chan_of c x) ≢ 0 → y ≡ refilled c (elements_in (chan_of c x) ++ element turn.at v ∷ []) x → z ≡ refilled c (passed_rest (find (receives_on c) waits) (elements_in (chan_of c y))) y → waits_new ≡ without (find (receives_on c) waits) waits → IsLeft (deal_of turn Snd (Give v) c x.chans waits) waits z.chans waits_new
sent_left turn c v x y z waits waits_new made unshut cap put passed left =
    let m = made_chan x c made in
    let es = m.0.elements ++ element turn.at v ∷ [] in
    let old : elements_in (chan_of c x) ≡ m.0.elements = ap elements_in m.1 in
    let shut : m.0.closed ≡ false = sym (ap is_closed_in m.1) ∙ unshut in
    let wide : m.0.cap ≢ 0 = λ e. cap (ap cap_in m.1 ∙ e) in
    let d = send_is turn c v x.chans waits m.0 m.1 shut wide in
    let all = elements_in (chan_of c x) ++ element turn.at v ∷ [] in
    let now : elements_in (chan_of c y) ≡ es = elements-refilled c all x y made put ∙ ap (λ (r : List Element). r ++ element turn.at v ∷ []) old in
    let one : 1 ≤ length es = one_pushed m.0.elements (element turn.at v) in
    let o = find (receives_on c) waits in
    let rest = passed_rest o (elements_in (chan_of c y)) in
    let last : z ≡ refilled c rest x = passed ∙ (ap (refilled c rest) put ∙ refilled_twice c all rest x) in
    record {
      chans = ap (λ (k : Channels). k.chans) last ∙ (ap (λ (r : List Element). with_elements c (passed_rest o r) x.chans) now ∙ (sym (pass_chans (caller turn) turn.i c x.chans o es one) ∙ ap (λ (k : Deal). k.chans) (sym d)));
      waits = left ∙ (sym (pass_waits (caller turn) turn.i c x.chans o es waits one) ∙ ap (λ (k : Deal). parties_without k.woken waits) (sym d));
    }

woken_waits : (c : ℕ) (o : Option Party) (waits : List Party) → without o waits ≡ parties_without (sender_woken c o) waits
woken_waits c None waits = refl
woken_waits c (Some w) waits = refl

-- a receive where there is an element
receive_is : (turn : Turn) (slot : Slot) (c : ℕ) (chans : List Channel) (waits : List Party) (chan : Channel) (front : Element) (rest : List Element) → by_id chans c ≡ Some chan → chan.elements ≡ front ∷ rest → deal_of turn Rcv slot c chans waits ≡ receive_from (caller turn) turn.i slot c chans waits chan (front ∷ rest)
receive_is turn slot c chans waits chan front rest at es = rw (at, es) refl

-- what is left where the front element is taken
pub taken_left : (turn : Turn) (slot : Slot) (c : ℕ) (front : Element) (x y z : Channels) (waits waits_new : List Party) → IsMade c x → elements_in (chan_of c x) ≡ front ∷ elements_in (chan_of c y) → y ≡ refilled c (elements_in (chan_of c y)) x → z ≡ refilled c (refilled_with c (elsize_in (chan_of c y)) (elements_in (chan_of c y)) (find (sends_on c) waits)) y → waits_new ≡ without (find (sends_on c) waits) waits → IsLeft (deal_of turn Rcv slot c x.chans waits) waits z.chans waits_new
taken_left turn slot c front x y z waits waits_new made at took filled left =
    let m = made_chan x c made in
    let rest = elements_in (chan_of c y) in
    let es : m.0.elements ≡ front ∷ rest = sym (ap elements_in m.1) ∙ at in
    let d = receive_is turn slot c x.chans waits m.0 front rest m.1 es in
    let size : elsize_in (chan_of c y) ≡ m.0.elsize = elsize-refilled c rest x y made took ∙ ap elsize_in m.1 in
    let o = find (sends_on c) waits in
    let all = refilled_with c (elsize_in (chan_of c y)) rest o in
    let last : z ≡ refilled c all x = filled ∙ (ap (refilled c all) took ∙ refilled_twice c rest all x) in
    record {
      chans = ap (λ (k : Channels). k.chans) last ∙ (ap (λ (n : ℕ). with_elements c (refilled_with c n rest o) x.chans) size ∙ ap (λ (k : Deal). k.chans) (sym d));
      waits = left ∙ (woken_waits c o waits ∙ ap (λ (k : Deal). parties_without k.woken waits) (sym d));
    }

-- a receive where there is none, on an open channel
over_is : (turn : Turn) (slot : Slot) (c : ℕ) (chans : List Channel) (waits : List Party) (chan : Channel) → by_id chans c ≡ Some chan → chan.elements ≡ [] → chan.closed ≡ false → deal_of turn Rcv slot c chans waits ≡ take_over (caller turn) turn.i slot c chan.elsize chans (find (sends_on c) waits)
over_is turn slot c chans waits chan at es unshut = rw (at, es, unshut) refl

over_answer : (turn : Turn) (slot : Slot) (c elsize : ℕ) (chans : List Channel) (o : Option Party) → (take_over (caller turn) turn.i slot c elsize chans o).answer ≡ taken_answer turn c elsize slot o
over_answer turn slot c elsize chans None = refl
over_answer turn slot c elsize chans (Some w) = refl

over_woken : (turn : Turn) (slot : Slot) (c elsize : ℕ) (chans : List Channel) (o : Option Party) → (take_over (caller turn) turn.i slot c elsize chans o).woken ≡ sender_woken c o
over_woken turn slot c elsize chans None = refl
over_woken turn slot c elsize chans (Some w) = refl

over_chans : (turn : Turn) (slot : Slot) (c elsize : ℕ) (chans : List Channel) (o : Option Party) → (take_over (caller turn) turn.i slot c elsize chans o).chans ≡ chans
over_chans turn slot c elsize chans None = refl
over_chans turn slot c elsize chans (Some w) = refl

-- what a receive comes to that takes a value over
pub over_dealt : (turn : Turn) (slot : Slot) (c : ℕ) (x : Channels) (waits : List Party) (done : Done) → IsMade c x → elements_in (chan_of c x) ≡ [] → is_closed_in (chan_of c x) ≡ false → done.answer ≡ taken_answer turn c (elsize_in (chan_of c x)) slot (find (sends_on c) waits) → done.woken ≡ wake_with (sender_woken c (find (sends_on c) waits)) → IsDealt (deal_of turn Rcv slot c x.chans waits) done
over_dealt turn slot c x waits done made none unshut told woke =
    let m = made_chan x c made in
    let es : m.0.elements ≡ [] = sym (ap elements_in m.1) ∙ none in
    let shut : m.0.closed ≡ false = sym (ap is_closed_in m.1) ∙ unshut in
    let d = over_is turn slot c x.chans waits m.0 m.1 es shut in
    let size : elsize_in (chan_of c x) ≡ m.0.elsize = ap elsize_in m.1 in
    let o = find (sends_on c) waits in
    record {
      answer = told ∙ (ap (λ (n : ℕ). taken_answer turn c n slot o) size ∙ (sym (over_answer turn slot c m.0.elsize x.chans o) ∙ ap (λ (k : Deal). k.answer) (sym d)));
      woken = woke ∙ (ap wake_with (sym (over_woken turn slot c m.0.elsize x.chans o)) ∙ ap (λ (k : Deal). wake_with k.woken) (sym d));
    }

pub over_left : (turn : Turn) (slot : Slot) (c : ℕ) (x y : Channels) (waits waits_new : List Party) → IsMade c x → elements_in (chan_of c x) ≡ [] → is_closed_in (chan_of c x) ≡ false → y ≡ x → waits_new ≡ without (find (sends_on c) waits) waits → IsLeft (deal_of turn Rcv slot c x.chans waits) waits y.chans waits_new
over_left turn slot c x y waits waits_new made none unshut same left =
    let m = made_chan x c made in
    let es : m.0.elements ≡ [] = sym (ap elements_in m.1) ∙ none in
    let shut : m.0.closed ≡ false = sym (ap is_closed_in m.1) ∙ unshut in
    let d = over_is turn slot c x.chans waits m.0 m.1 es shut in
    let o = find (sends_on c) waits in
    record {
      chans = ap (λ (k : Channels). k.chans) same ∙ (sym (over_chans turn slot c m.0.elsize x.chans o) ∙ ap (λ (k : Deal). k.chans) (sym d));
      waits = left ∙ (woken_waits c o waits ∙ (ap (λ (r : Option (ℕ × Answer)). parties_without r waits) (sym (over_woken turn slot c m.0.elsize x.chans o)) ∙ ap (λ (k : Deal). parties_without k.woken waits) (sym d)));
    }

-- where nobody gives a value, nobody waits to
pub none_given : (c elsize : ℕ) (o : Option Party) → None ≡ sender_gives c elsize o → None ≡ o
none_given c elsize None e = refl
none_given c elsize (Some w) e = cc

some_is : {A : Type 0} (x y : A) → Some x ≡ Some y → x ≡ y
some_is x y e = cc

-- the caller is told of the value that is given
pub taken_given : (turn : Turn) (c elsize : ℕ) (slot : Slot) (wake : Wake) (x : Element) (o : Option Party) → ◌≡◌ {A = Option (Wake × Element)} (Some (wake, x)) (sender_gives c elsize o) → got_answer turn.single turn.i x.from (kept_bytes slot x.msg) ≡ taken_answer turn c elsize slot o
taken_given turn c elsize slot wake x None e = absurd (cc e)
taken_given turn c elsize slot wake x (Some w) e =
    let same : x ≡ element w.at (sender_bytes c elsize w) = ap (λ (g : Wake × Element). g.1) (some_is _ _ e) in
    ap (λ (y : Element). got_answer turn.single turn.i y.from (kept_bytes slot y.msg)) same
