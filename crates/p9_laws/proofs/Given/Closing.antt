-- What gives the answer Closed.
use Rattle.std.proofs.Common.{◌≡◌, ◌⊎◌, inl, inr, ℕ, Bool, true, false, not, cond, ◌||◌, ◌&&◌, ltb, List, [], ◌∷◌, ◌++◌, length, Option, Some, None, refl, sym, ap, subst, rules, tests}
use Rattle.std.specs.List.{find, list_any}
use Rattle.p9_word.specs.declared.alt.AltEntry.{AltEntry}
use Rattle.p9_word.specs.declared.alt.AltOp.{AltOp}
use Rattle.p9_word.specs.declared.alt.AltOp.TheVariants.{Snd, Rcv, Nop}
use Rattle.p9_word.specs.declared.alt.Ending.{Ending}
use Rattle.p9_word.specs.declared.alt.Ending.TheVariants.{End, NoBlk}
use Rattle.p9_word.specs.declared.alt.Slot.{Slot}
use Rattle.p9_word.specs.declared.answer.Answer.{Answer}
use Rattle.p9_word.specs.declared.answer.Answer.TheVariants.{Closed}
use Rattle.p9_word.specs.declared.request.ChanReq.{ChanReq}
use Rattle.p9_word.specs.declared.request.ChanReq.TheVariants as ask
use Rattle.p9_word.specs.declared.request.Request.{Request}
use Rattle.p9_word.specs.declared.request.Request.TheVariants.{Thread as ThreadRequest, Signal as SignalRequest, Chan as ChanRequest, Lock as LockRequest, Io as IoRequest}
use Rattle.p9_word.specs.declared.setup.Setup.{Setup}
use Rattle.p9_word.specs.declared.trail.Event.{Event}
use Rattle.p9_word.specs.declared.trail.Event.TheVariants.{Call, Next, IoTake, IoDid}
use Rattle.p9_word.specs.declared.trail.Seat.{Seat}
use Rattle.p9_word.specs.declared.trail.Seat.TheVariants.{Proc, Io as IoSeat}
use Rattle.p9_manual.specs.declared.state.Channel.{Channel}
use Rattle.p9_manual.specs.declared.state.Element.{Element}
use Rattle.p9_manual.specs.declared.state.Party.{Party}
use Rattle.p9_manual.specs.Alt.{chosen, is_closed_list, unready, verdict, verdict_on}
use Rattle.p9_manual.specs.AltEntries.{receives_on, sends_on}
use Rattle.p9_manual.specs.Commit.{commit, commit_op, commit_send, element, failed, hand_over, pass_on, receive_from, take_over}
use Rattle.p9_manual.specs.Draws.{draw_after}
use Rattle.p9_manual.specs.Offers.{Alternation, alternation, one_entry, parties, party}
use Rattle.p9_manual.specs.Places.{runs_there}
use Rattle.p9_manual.specs.ReadyEntries.{can_go_on, can_send, has_element, has_room, is_unbuffered, ready_entries}
use Rattle.p9_manual.specs.Sound.{IsSound}
use Rattle.p9_manual.specs.State.{State, Outcome, by_id, same}
use Rattle.p9_manual.specs.Step.{called, is_doomed, makes_entry, outcome, step}
use Rattle.p9_word.specs.declared.trail.Reply.TheVariants.{Stray}
use Rattle.p9_manual.specs.Told.{failed_answer, got_answer, sent_answer, sent_bytes}
use Rattle.p9_laws.specs.AltCauses.{AsksFor, Gives}
use Rattle.p9_laws.specs.ClosedCauses.{ClosesNow, GivesClosed, IsClosedTo, OfClose, OfEntry, OfList, WaitsSingly}
use Rattle.std.proofs.lemmas.Bool.{eqb-true}
use Rattle.p9_laws.proofs.Given.Causes.{Closes, Meets, ToldBy, WokenAt, WokenBy, WokenByChan, verdict_tells}
use Rattle.p9_laws.proofs.Given.Served.{ByAnother, ByItself, IsCause, cause, gives_makes}
use Rattle.p9_laws.proofs.Given.Tells.{commit_says}

-- a send or a receive, or one of their kin
pub record IsSingle (a : Alternation) : Type 0 where
  pub c : ℕ
  pub op : AltOp
  pub slot : Slot
  pub ending : Ending
  pub is_one : one_entry c op slot ending ≡ a
  pub is_used : (op ≡ Snd) ⊎ (op ≡ Rcv)

sends : (a : Alternation) (c : ℕ) (slot : Slot) (ending : Ending) → Some (one_entry c Snd slot ending) ≡ Some a → IsSingle a
sends a c slot ending e = record { c = c; op = Snd; slot = slot; ending = ending; is_one = cc; is_used = inl refl }

receives : (a : Alternation) (c : ℕ) (slot : Slot) (ending : Ending) → Some (one_entry c Rcv slot ending) ≡ Some a → IsSingle a
receives a c slot ending e = record { c = c; op = Rcv; slot = slot; ending = ending; is_one = cc; is_used = inr refl }

not_single : (x a : Alternation) → Some x ≡ Some a → x.single ≡ false → a.single ≡ true → ⊥
not_single x a e h k = let same_alt : x ≡ a = cc in let z = ap (λ (y : Alternation). y.single) same_alt in cc (z, h, k)

pub single_is : (r : ChanReq) (a : Alternation) → alternation r ≡ Some a → a.single ≡ true → IsSingle a
single_is (ask.Alt ending entries) a e h = absurd (not_single _ a e refl h)
single_is (ask.Send c value) a e h = sends a c _ _ e
single_is (ask.Recv keep c) a e h = receives a c _ _ e
single_is (ask.NbSend c value) a e h = sends a c _ _ e
single_is (ask.NbRecv keep c) a e h = receives a c _ _ e
single_is (ask.SendUl c n) a e h = sends a c _ _ e
single_is (ask.RecvUl c) a e h = receives a c _ _ e
single_is (ask.NbSendUl c n) a e h = sends a c _ _ e
single_is (ask.NbRecvUl c) a e h = receives a c _ _ e
single_is (ask.ChanPrint c text) a e h = sends a c _ _ e
single_is (ask.ChanCreate cap elsize) a e h = cc
single_is (ask.ChanFree c) a e h = cc
single_is (ask.ChanClose c) a e h = cc
single_is (ask.ChanClosing c) a e h = cc

sent_not : (single : Bool) (i : ℕ) → sent_answer single i ≡ Closed → ⊥
sent_not true i e = cc
sent_not false i e = cc

got_not : (single : Bool) (i from : ℕ) (m : List ℕ) → got_answer single i from m ≡ Closed → ⊥
got_not true i from m e = cc
got_not false i from m e = cc

failed_single : (single : Bool) (i : ℕ) → failed_answer single i ≡ Closed → single ≡ true
failed_single true i e = refl
failed_single false i e = cc

-- an entry of an alt that goes on isn't told Closed: only a send or a receive is
commit_single : (me : Party) (i : ℕ) (chans : List Channel) (waits : List Party) → (commit me i chans waits).answer ≡ Closed → me.single ≡ true
commit_single me i chans waits =
    commit_says (λ a. a ≡ Closed → me.single ≡ true) me (λ k e. absurd (sent_not me.single k e)) (λ k from m e. absurd (got_not me.single k from m e)) (failed_single me.single) i chans waits

told_single : (me : Party) (a : Answer) → Some a ≡ Some Closed → (a ≡ Closed → me.single ≡ true) → me.single ≡ true
told_single me a e h = h cc

unready_closed : (ending : Ending) → verdict_tells (unready ending) ≡ Some Closed → ⊥
unready_closed NoBlk e = cc
unready_closed End e = cc

on_single : (draw : ℕ) (me : Party) (ending : Ending) (chans : List Channel) (waits : List Party) (ready : List ℕ) → verdict_tells (verdict_on draw me ending chans waits ready) ≡ Some Closed → me.single ≡ true
on_single draw me ending chans waits [] e = absurd (unready_closed ending e)
on_single draw me ending chans waits (i ∷ []) e = told_single me _ e (commit_single me i chans waits)
on_single draw me ending chans waits (i ∷ j ∷ more) e = told_single me _ e (commit_single me (chosen draw (i ∷ j ∷ more)) chans waits)

none_there : (p : Party → Bool) → (waits : List Party) → list_any p waits ≡ true → find p waits ≡ None → ⊥
none_there p [] h e = cc
none_there p (w ∷ ws) h e = there_step (p w) (list_any p ws) w (find p ws) h e (none_there p ws)
  where
    there_step : (b c : Bool) (w : Party) (o : Option Party) → (b || c) ≡ true → cond b (Some w) o ≡ None → (c ≡ true → o ≡ None → ⊥) → ⊥
    there_step true c w o h e k = cc
    there_step false c w o h e k = k h e

no_room : (b : Bool) (chan : Channel) → is_unbuffered chan ≡ true → (has_room chan || b) ≡ true → b ≡ true
no_room b chan unbuffered h =
    let e = eqb-true chan.cap 0 unbuffered in
    let z : ltb (length chan.elements) chan.cap ≡ false = search (rules, tests) in
    room_step (has_room chan) b z h
  where
    room_step : (r b : Bool) → r ≡ false → (r || b) ≡ true → b ≡ true
    room_step true b z h = cc
    room_step false b z h = h

-- a send that can go on and is told Closed is on a closed channel
module _ (me : Party) (i c : ℕ) (chans : List Channel) (waits : List Party) where
  hand_over_open : (bytes : List ℕ) (o : Option Party) → (o ≡ None → ⊥) → (hand_over me i bytes c chans o).answer ≡ Closed → ⊥
  hand_over_open bytes None h e = h refl
  hand_over_open bytes (Some w) h e = sent_not me.single i e

  pass_on_open : (o : Option Party) (x : Element) (elements : List Element) → (pass_on me i c chans o (elements ++ x ∷ [])).answer ≡ Closed → ⊥
  pass_on_open None x elements e = sent_not me.single i e
  pass_on_open (Some w) x [] e = sent_not me.single i e
  pass_on_open (Some w) x (y ∷ ys) e = sent_not me.single i e

  send_step : (closed unbuffered : Bool) (bytes : List ℕ) (chan : Channel) → is_unbuffered chan ≡ unbuffered → (closed || (has_room chan || (unbuffered && list_any (receives_on c) waits))) ≡ true → (cond closed (failed me i chans) (cond unbuffered (hand_over me i bytes c chans (find (receives_on c) waits)) (pass_on me i c chans (find (receives_on c) waits) (chan.elements ++ element me.at bytes ∷ [])))).answer ≡ Closed → closed ≡ true
  send_step true unbuffered bytes chan u can e = refl
  send_step false true bytes chan u can e = absurd (hand_over_open bytes (find (receives_on c) waits) (none_there (receives_on c) waits (no_room (list_any (receives_on c) waits) chan u can)) e)
  send_step false false bytes chan u can e = absurd (pass_on_open (find (receives_on c) waits) (element me.at bytes) chan.elements e)

  send_closed : (bytes : List ℕ) (chan : Channel) → can_send c chan waits ≡ true → (commit_send me i bytes c chans waits chan).answer ≡ Closed → chan.closed ≡ true
  send_closed bytes chan can e = send_step chan.closed (is_unbuffered chan) bytes chan refl can e

  take_over_open : (slot : Slot) (elsize : ℕ) (o : Option Party) → (o ≡ None → ⊥) → (take_over me i slot c elsize chans o).answer ≡ Closed → ⊥
  take_over_open slot elsize None h e = h refl
  take_over_open slot elsize (Some w) h e = got_not me.single i w.at _ e

  and_second : (a b : Bool) → (a && b) ≡ true → b ≡ true
  and_second true b h = h
  and_second false b h = cc

  receive_step : (closed : Bool) (slot : Slot) (chan : Channel) → (closed || (is_unbuffered chan && list_any (sends_on c) waits)) ≡ true → (cond closed (failed me i chans) (take_over me i slot c chan.elsize chans (find (sends_on c) waits))).answer ≡ Closed → closed ≡ true
  receive_step true slot chan can e = refl
  receive_step false slot chan can e = absurd (take_over_open slot chan.elsize (find (sends_on c) waits) (none_there (sends_on c) waits (and_second (is_unbuffered chan) (list_any (sends_on c) waits) can)) e)

  receive_closed : (slot : Slot) (chan : Channel) (elements : List Element) → (ltb 0 (length elements) || (chan.closed || (is_unbuffered chan && list_any (sends_on c) waits))) ≡ true → (receive_from me i slot c chans waits chan elements).answer ≡ Closed → (chan.closed ≡ true) × (ltb 0 (length elements) ≡ false)
  receive_closed slot chan [] can e = (receive_step chan.closed slot chan can e, refl)
  receive_closed slot chan (x ∷ rest) can e = absurd (got_not me.single i x.from _ e)

-- the verdict on a send or a receive
abbrev pub one_party : ℕ → ℕ → ℕ → AltOp → Slot → Party
one_party t at c op slot = record { tid = t; at = at; single = true; entries = record { chan = c; op = op; err = false; slot = slot } ∷ [] }

abbrev pub entry_of : ℕ → AltOp → Slot → AltEntry
entry_of c op slot = record { chan = c; op = op; err = false; slot = slot }

told_answer : (a : Answer) → Some a ≡ Some Closed → a ≡ Closed
told_answer a e = cc

fails_none : (b : Bool) → b ≡ false → not b ≡ true
fails_none b h = rw h refl

module _ (draw t at c : ℕ) (slot : Slot) (ending : Ending) (chans : List Channel) (waits : List Party) where
  send_ready : (b : Bool) (o : Option Channel) → by_id chans c ≡ o → can_go_on Snd c o waits ≡ b → verdict_tells (verdict_on draw (one_party t at c Snd slot) ending chans waits (cond b (0 ∷ []) [])) ≡ Some Closed → IsClosedTo chans (entry_of c Snd slot)
  send_ready false o there can e = absurd (unready_closed ending e)
  send_ready true None there can e = cc
  send_ready true (Some chan) there can e =
      let answer : (commit_op (one_party t at c Snd slot) 0 Snd slot c chans waits (Some chan)).answer ≡ Closed = subst (λ (o : Option Channel). (commit_op (one_party t at c Snd slot) 0 Snd slot c chans waits o).answer ≡ Closed) there (told_answer _ e) in
      record { chan = chan; is_chan = there; is_closed = send_closed (one_party t at c Snd slot) 0 c chans waits (sent_bytes chan.elsize slot) chan can answer; fails = refl }

  receive_ready : (b : Bool) (o : Option Channel) → by_id chans c ≡ o → can_go_on Rcv c o waits ≡ b → verdict_tells (verdict_on draw (one_party t at c Rcv slot) ending chans waits (cond b (0 ∷ []) [])) ≡ Some Closed → IsClosedTo chans (entry_of c Rcv slot)
  receive_ready false o there can e = absurd (unready_closed ending e)
  receive_ready true None there can e = cc
  receive_ready true (Some chan) there can e =
      let answer : (commit_op (one_party t at c Rcv slot) 0 Rcv slot c chans waits (Some chan)).answer ≡ Closed = subst (λ (o : Option Channel). (commit_op (one_party t at c Rcv slot) 0 Rcv slot c chans waits o).answer ≡ Closed) there (told_answer _ e) in
      let k = receive_closed (one_party t at c Rcv slot) 0 c chans waits slot chan chan.elements can answer in
      record { chan = chan; is_chan = there; is_closed = k.0; fails = fails_none (has_element chan) k.1 }

  one_closed : (op : AltOp) → (op ≡ Snd) ⊎ (op ≡ Rcv) → verdict_tells (verdict draw (one_party t at c op slot) ending chans waits) ≡ Some Closed → IsClosedTo chans (entry_of c op slot)
  one_closed Snd used e = send_ready (can_go_on Snd c (by_id chans c) waits) (by_id chans c) refl refl e
  one_closed Rcv used e = receive_ready (can_go_on Rcv c (by_id chans c) waits) (by_id chans c) refl refl e
  one_closed Nop (inl h) e = cc
  one_closed Nop (inr h) e = cc

-- the verdict on any alt: its list is one whose entries all have err set, or it is a send or a receive
pub record ClosesList (a : Alternation) (chans : List Channel) : Type 0 where
  pub entry : AltEntry
  pub is_single : a.single ≡ true
  pub is_only : a.entries ≡ entry ∷ []
  pub is_closed : IsClosedTo chans entry

single_step : (draw t at : ℕ) (a : Alternation) (chans : List Channel) (waits : List Party) → a.single ≡ true → IsSingle a → verdict_tells (verdict draw (party t at a) a.ending chans waits) ≡ Some Closed → ClosesList a chans
single_step draw t at a chans waits h one =
    subst (λ (x : Alternation). verdict_tells (verdict draw (party t at x) x.ending chans waits) ≡ Some Closed → ClosesList x chans) one.is_one
    (λ e. record { entry = entry_of one.c one.op one.slot; is_single = refl; is_only = refl; is_closed = one_closed draw t at one.c one.slot one.ending chans waits one.op one.is_used e })

list_step : (draw t at : ℕ) (r : ChanReq) (a : Alternation) (chans : List Channel) (waits : List Party) (b : Bool) → is_closed_list a.entries ≡ b → alternation r ≡ Some a → verdict_tells (verdict draw (party t at a) a.ending chans waits) ≡ Some Closed → (is_closed_list a.entries ≡ true) ⊎ ClosesList a chans
list_step draw t at r a chans waits true b is e = inl b
list_step draw t at r a chans waits false b is e =
    let k : verdict_tells (verdict_on draw (party t at a) a.ending chans waits (ready_entries chans waits a.entries)) ≡ Some Closed = rw b at e in
    let single = on_single draw (party t at a) a.ending chans waits (ready_entries chans waits a.entries) k in
    inr (single_step draw t at a chans waits single (single_is r a is single) e)

own_closed : (setup : Setup) (seat : Seat) (event : Event) (s : State) (t p : ℕ) (r : Request) → seat ≡ Proc p → event ≡ Call t r → runs_there p (by_id s.threads t) ≡ true → is_doomed t r s ≡ false → ToldBy setup s t r Closed → GivesClosed setup seat event s t
own_closed setup seat event s t p (ThreadRequest r) seat_is is runs spared told = cc
own_closed setup seat event s t p (SignalRequest r) seat_is is runs spared told = absurd told
own_closed setup seat event s t p (ChanRequest r) seat_is is runs spared told =
    let asks : AsksFor setup seat event s t told.alt = record { proc_no = p; request = ChanRequest r; is_seat = seat_is; is_call = is; runs = runs; spared = spared; is_alt = told.is_alt; fits_it = told.fits_it } in
    elim (list_step (draw_after setup.start s.draws) t s.position r told.alt s.chans (parties s.waits) _ refl told.is_alt told.tells) [
      | inl k ↦ OfList told.alt asks k
      | inr k ↦ OfEntry told.alt k.entry asks k.is_single k.is_only k.is_closed
    ]
own_closed setup seat event s t p (LockRequest r) seat_is is runs spared told = cc
own_closed setup seat event s t p (IoRequest r) seat_is is runs spared told = absurd told

-- a call that makes an entry is one of a thread that runs in the proc that tells it
record IsServedIn (seat : Seat) (s : State) (t : ℕ) : Type 0 where
  pub proc_no : ℕ
  pub is_seat : seat ≡ Proc proc_no
  pub runs : runs_there proc_no (by_id s.threads t) ≡ true

runs_step : (b : Bool) (s : State) (o : Outcome) → makes_entry (cond (not b) (same Stray s) o).reply ≡ true → b ≡ true
runs_step true s o h = refl
runs_step false s o h = cc

called_runs : (setup : Setup) (p t : ℕ) (r : Request) (s : State) → makes_entry (called setup p t r s).reply ≡ true → runs_there p (by_id s.threads t) ≡ true
unfolding called
called_runs setup p t r s makes = runs_step (runs_there p (by_id s.threads t)) s _ makes

outcome_runs : (setup : Setup) (seat : Seat) (t : ℕ) (r : Request) (s : State) → makes_entry (outcome setup seat (Call t r) s).reply ≡ true → IsServedIn seat s t
unfolding outcome
outcome_runs setup (Proc p) t r s makes = record { proc_no = p; is_seat = refl; runs = called_runs setup p t r s makes }
outcome_runs setup (IoSeat k) t r s makes = cc

step_runs : (setup : Setup) (seat : Seat) (t : ℕ) (r : Request) (s : State) → makes_entry (step setup seat (Call t r) s).reply ≡ true → IsServedIn seat s t
unfolding step
step_runs setup seat t r s makes = outcome_runs setup seat t r s makes

chan_closed : (seat : Seat) (s : State) (u t : ℕ) (r : ChanReq) → IsServedIn seat s u → WokenByChan s r t Closed → (c : ℕ) × ClosesNow seat (Call u (ChanRequest r)) s c × WaitsSingly s.waits c t
chan_closed seat s u t r served (Meets alt is_alt h) = cc
chan_closed seat s u t r served (Closes c is fails) = (
  c,
  record { proc_no = served.proc_no; caller = u; chan = fails.chan; is_seat = served.is_seat; is_call = ap (λ (x : ChanReq). Call u (ChanRequest x)) is; runs = served.runs; is_chan = fails.is_chan; was_open = fails.open_chan },
  record { index = fails.index; party = fails.party; is_there = fails.waits_there; is_thread = fails.is_thread; is_single = failed_single fails.party.single _ (sym fails.answer); is_on_it = fails.waits_on_it },
)

request_closed : (setup : Setup) (seat : Seat) (s : State) (u t : ℕ) (r : Request) → IsServedIn seat s u → WokenBy s r t Closed → GivesClosed setup seat (Call u r) s t
request_closed setup seat s u t (ThreadRequest r) served h = absurd h
request_closed setup seat s u t (SignalRequest r) served h = let e = h.1 in cc
request_closed setup seat s u t (ChanRequest r) served h = let k = chan_closed seat s u t r served h in OfClose k.0 k.1 k.2
request_closed setup seat s u t (LockRequest r) served h = cc
request_closed setup seat s u t (IoRequest r) served h = let e = h.1 in cc

event_closed : (setup : Setup) (seat : Seat) (event : Event) (s : State) (t : ℕ) → makes_entry (step setup seat event s).reply ≡ true → WokenAt s event t Closed → GivesClosed setup seat event s t
event_closed setup seat (Call u r) s t makes h = request_closed setup seat s u t r (step_runs setup seat u r s makes) h
event_closed setup seat Next s t makes h = absurd h
event_closed setup seat IoTake s t makes h = absurd h
event_closed setup seat (IoDid effect) s t makes h = cc

cause_closed : (setup : Setup) (seat : Seat) (event : Event) (s : State) (t : ℕ) → makes_entry (step setup seat event s).reply ≡ true → IsCause setup seat event s t Closed → GivesClosed setup seat event s t
cause_closed setup seat event s t makes (ByItself p r seat_is is runs spared told) = own_closed setup seat event s t p r seat_is is runs spared told
cause_closed setup seat event s t makes (ByAnother waits woken) = event_closed setup seat event s t makes woken

pub closed_cause : (setup : Setup) (seat : Seat) (event : Event) (s : State) (t : ℕ) → IsSound setup s → Gives setup seat event s t Closed → GivesClosed setup seat event s t
closed_cause setup seat event s t sound g = cause_closed setup seat event s t (gives_makes setup seat event s t Closed g) (cause setup seat event s t Closed sound g)
