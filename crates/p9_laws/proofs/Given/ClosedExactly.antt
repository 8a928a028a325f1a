-- Just these events give a thread Closed: its alt whose entries all have err set, its send or receive on a closed channel, and a
-- close of the channel on which it waits.
use Rattle.std.proofs.Common.{◌≡◌, ◌⊎◌, inl, inr, ℕ, zero, suc, ◌+◌, ◌-◌, ◌≤◌, Bool, true, false, not, cond, ◌||◌, ◌&&◌, eqb, ltb, List, [], ◌∷◌, map, length, Option, Some, refl, sym, ap, subst, ◌∙◌, arith, rules, tests, take}
use Rattle.std.specs.Prelude.{slice_get}
use Rattle.std.specs.List.{filter}
use Rattle.std.proofs.lemmas.List.Elements.{recursion_from_All}
use Rattle.p9_word.specs.Setup.{IsValid}
use Rattle.p9_word.specs.declared.alt.AltEntry.{AltEntry}
use Rattle.p9_word.specs.declared.alt.AltOp.{AltOp}
use Rattle.p9_word.specs.declared.alt.AltOp.TheVariants.{Snd, Rcv, Nop}
use Rattle.p9_word.specs.declared.alt.Ending.{Ending}
use Rattle.p9_word.specs.declared.alt.Slot.{Slot}
use Rattle.p9_word.specs.declared.answer.Answer.{Answer}
use Rattle.p9_word.specs.declared.answer.Answer.TheVariants.{Closed}
use Rattle.p9_word.specs.declared.request.ChanReq.TheVariants.{ChanClose}
use Rattle.p9_word.specs.declared.request.Request.{Request}
use Rattle.p9_word.specs.declared.request.Request.TheVariants.{Thread as ThreadRequest, Signal as SignalRequest, Chan as ChanRequest, Lock as LockRequest, Io as IoRequest}
use Rattle.p9_word.specs.declared.setup.Setup.{Setup}
use Rattle.p9_word.specs.declared.trail.Entry.{Entry}
use Rattle.p9_word.specs.declared.trail.Event.{Event}
use Rattle.p9_word.specs.declared.trail.Event.TheVariants.{Call}
use Rattle.p9_word.specs.declared.trail.Seat.{Seat}
use Rattle.p9_manual.specs.declared.state.Channel.{Channel}
use Rattle.p9_manual.specs.declared.state.Element.{Element}
use Rattle.p9_manual.specs.declared.state.Party.{Party}
use Rattle.p9_manual.specs.declared.state.Place.{Place}
use Rattle.p9_manual.specs.declared.state.Place.TheVariants.{Ready, Waiting, Ended}
use Rattle.p9_manual.specs.declared.state.Thread.{Thread}
use Rattle.p9_manual.specs.Alt.{Verdict, AllClosed, Commits, decided, is_closed_list, verdict, verdict_of, verdict_on, with_draw}
use Rattle.p9_manual.specs.AltEntries.{first_number, is_on, is_snd, waits_on}
use Rattle.p9_manual.specs.Chans.{chan_call}
use Rattle.p9_manual.specs.Close.{all_woken, close, close_channel, closed_chan, failed_on}
use Rattle.p9_manual.specs.Commit.{Deal, commit, commit_op, failed, receive_from}
use Rattle.p9_manual.specs.Draws.{draw_after}
use Rattle.p9_manual.specs.History.{IsLegal}
use Rattle.p9_manual.specs.Offers.{Alternation, alternation_of, parties, party}
use Rattle.p9_manual.specs.Places.{is_marked}
use Rattle.p9_manual.specs.ReadyEntries.{can_go_on, has_element, unfreed}
use Rattle.p9_manual.specs.Sound.{IsSound}
use Rattle.p9_manual.specs.Standing.{place_of, times, times_in_waits}
use Rattle.p9_manual.specs.State.{State, Outcome, by_id, changed, placed, wake}
use Rattle.p9_manual.specs.Step.{counted, served, step}
use Rattle.p9_manual.specs.Told.{failed_answer}
use Rattle.p9_laws.specs.AltCauses.{AsksFor, Gives, is_answered}
use Rattle.p9_laws.specs.ClosedCauses.{ClosedExactly, ClosedTold, ClosesNow, GivesClosed, IsClosedTo, OfClose, OfEntry, OfList, WaitsSingly}
use Rattle.p9_laws.specs.Given.{state_before}
use Rattle.p9_laws.proofs.Received.Places.{place_moved}
use Rattle.p9_laws.proofs.Sound.Counts.{held_at}
use Rattle.p9_laws.proofs.Sound.Histories.{state_sound}
use Rattle.p9_laws.proofs.Sound.Parties.{is_tid, times_parties}
use Rattle.p9_laws.proofs.Sound.Places.{made_from_place, place_of-placed_same}
use Rattle.p9_laws.proofs.Sound.Running.{place_runs}
use Rattle.p9_laws.proofs.Sound.Stand.{eqb_same}
use Rattle.p9_laws.proofs.Given.Causes.{Closes, Meets, WokenAt, WokenByChan}
use Rattle.p9_laws.proofs.Given.Closing.{IsSingle, closed_cause, entry_of, one_party, single_is}
use Rattle.p9_laws.proofs.Given.Deals.{parties_rest}
use Rattle.p9_laws.proofs.Given.Givers.{gives_at}
use Rattle.p9_laws.proofs.Given.Goes.{rests_once}
use Rattle.p9_laws.proofs.Given.Histories.{answers_given}
use Rattle.p9_laws.proofs.Given.Served.{ByAnother, ByItself, IsCause, alt_gives, cause, step_served}

decided_list : (t : ℕ) (r : Request) (s n : State) (v : Verdict) → v ≡ AllClosed → (counted s (decided t r n v)).state.threads ≡ placed t (Ready Closed) n.threads
decided_list t r s n v e = rw e refl

list_is : (draw : ℕ) (me : Party) (ending : Ending) (chans : List Channel) (waits : List Party) → is_closed_list me.entries ≡ true → verdict draw me ending chans waits ≡ AllClosed
list_is draw me ending chans waits h = rw h refl

list_gives : (setup : Setup) (seat : Seat) (event : Event) (s : State) (t : ℕ) (a : Alternation) → AsksFor setup seat event s t a → is_closed_list a.entries ≡ true → Gives setup seat event s t Closed
list_gives setup seat event s t a asks h =
    let v = list_is (draw_after setup.start s.draws) (party t s.position a) a.ending s.chans (parties s.waits) h in
    alt_gives setup seat event s t a Closed asks (λ r. decided_list t (ChanRequest r) s (with_draw a.entries s) (verdict_of setup t a s) v)

empty : (elements : List Element) → not (ltb 0 (length elements)) ≡ true → elements ≡ []
empty [] h = refl
empty (x ∷ xs) h =
    let some : ltb 0 (length (x ∷ xs)) ≡ true = search (rules, tests) in
    let none : not (ltb 0 (length (x ∷ xs))) ≡ false = rw some refl in
    cc (h, none)

can_fail : (op : AltOp) (c : ℕ) (waits : List Party) (o : Option Channel) (chan : Channel) → (op ≡ Snd) ⊎ (op ≡ Rcv) → o ≡ Some chan → chan.closed ≡ true → can_go_on op c o waits ≡ true
can_fail Snd c waits o chan used e h = rw (e, h) refl
can_fail Rcv c waits o chan used e h = rw (e, h) (either_true (has_element chan))
  where
    either_true : (b : Bool) → (b || true) ≡ true
    either_true true = refl
    either_true false = refl
can_fail Nop c waits o chan (inl k) e h = cc
can_fail Nop c waits o chan (inr k) e h = cc

receive_fails : (me : Party) (slot : Slot) (c : ℕ) (chans : List Channel) (waits : List Party) (chan : Channel) (elements : List Element) → elements ≡ [] → chan.closed ≡ true → receive_from me 0 slot c chans waits chan elements ≡ failed me 0 chans
receive_fails me slot c chans waits chan [] e h = rw h refl
receive_fails me slot c chans waits chan (x ∷ xs) e h = cc

op_fails : (me : Party) (op : AltOp) (slot : Slot) (c : ℕ) (chans : List Channel) (waits : List Party) (o : Option Channel) (chan : Channel) → o ≡ Some chan → chan.closed ≡ true → (is_snd op || not (has_element chan)) ≡ true → commit_op me 0 op slot c chans waits o ≡ failed me 0 chans
op_fails me Snd slot c chans waits o chan e h fails = rw (e, h) refl
op_fails me Rcv slot c chans waits o chan e h fails = rw e (receive_fails me slot c chans waits chan chan.elements (empty chan.elements fails) h)
op_fails me Nop slot c chans waits o chan e h fails = rw e refl

one_ready : (draw : ℕ) (me : Party) (ending : Ending) (chans : List Channel) (waits : List Party) (b : Bool) → b ≡ true → verdict_on draw me ending chans waits (cond b (0 ∷ []) []) ≡ Commits (commit me 0 chans waits)
one_ready draw me ending chans waits b h = rw h refl

-- the verdict on a send or a receive on a closed channel is that it fails
fails_is : (draw t at c : ℕ) (slot : Slot) (ending : Ending) (chans : List Channel) (waits : List Party) (op : AltOp) → (op ≡ Snd) ⊎ (op ≡ Rcv) → IsClosedTo chans (entry_of c op slot) → verdict draw (one_party t at c op slot) ending chans waits ≡ Commits (failed (one_party t at c op slot) 0 chans)
fails_is draw t at c slot ending chans waits Snd used k =
    one_ready draw (one_party t at c Snd slot) ending chans waits (can_go_on Snd c (by_id chans c) waits) (can_fail Snd c waits (by_id chans c) k.chan used k.is_chan k.is_closed)
    ∙ ap (λ (d : Deal). Commits d) (op_fails (one_party t at c Snd slot) Snd slot c chans waits (by_id chans c) k.chan k.is_chan k.is_closed k.fails)
fails_is draw t at c slot ending chans waits Rcv used k =
    one_ready draw (one_party t at c Rcv slot) ending chans waits (can_go_on Rcv c (by_id chans c) waits) (can_fail Rcv c waits (by_id chans c) k.chan used k.is_chan k.is_closed)
    ∙ ap (λ (d : Deal). Commits d) (op_fails (one_party t at c Rcv slot) Rcv slot c chans waits (by_id chans c) k.chan k.is_chan k.is_closed k.fails)
fails_is draw t at c slot ending chans waits Nop (inl h) k = cc
fails_is draw t at c slot ending chans waits Nop (inr h) k = cc

decided_fails : (t i : ℕ) (r : Request) (s n : State) (me : Party) (v : Verdict) → me.single ≡ true → v ≡ Commits (failed me i s.chans) → (counted s (decided t r n v)).state.threads ≡ placed t (Ready Closed) n.threads
decided_fails t i r s n me v single e = rw (e, single) refl

single_fails : (draw t at : ℕ) (a : Alternation) (e : AltEntry) (chans : List Channel) (waits : List Party) → IsSingle a → a.entries ≡ e ∷ [] → IsClosedTo chans e → verdict draw (party t at a) a.ending chans waits ≡ Commits (failed (party t at a) 0 chans)
single_fails draw t at a e chans waits one =
    subst (λ (x : Alternation). x.entries ≡ e ∷ [] → IsClosedTo chans e → verdict draw (party t at x) x.ending chans waits ≡ Commits (failed (party t at x) 0 chans)) one.is_one
    (λ only closed.
    let same : e ≡ entry_of one.c one.op one.slot = cc in
    fails_is draw t at one.c one.slot one.ending chans waits one.op one.is_used (subst (IsClosedTo chans) same closed))

request_single : (r : Request) (a : Alternation) → alternation_of r ≡ Some a → a.single ≡ true → IsSingle a
request_single (ChanRequest r) a e h = single_is r a e h
request_single (ThreadRequest r) a e h = cc
request_single (SignalRequest r) a e h = cc
request_single (LockRequest r) a e h = cc
request_single (IoRequest r) a e h = cc

entry_gives : (setup : Setup) (seat : Seat) (event : Event) (s : State) (t : ℕ) (a : Alternation) (e : AltEntry) → AsksFor setup seat event s t a → a.single ≡ true → a.entries ≡ e ∷ [] → IsClosedTo s.chans e → Gives setup seat event s t Closed
entry_gives setup seat event s t a e asks single only closed =
    let v = single_fails (draw_after setup.start s.draws) t s.position a e s.chans (parties s.waits) (request_single asks.request a asks.is_alt single) only closed in
    alt_gives setup seat event s t a Closed asks (λ r. decided_fails t 0 (ChanRequest r) s (with_draw a.entries s) (party t s.position a) (verdict_of setup t a s) single v)

-- thread t stands ready
abbrev IsReady : List Thread → ℕ → Type 0
IsReady threads t = (a : Answer) × (place_of threads t ≡ Ready a)

-- or waits
abbrev Stands : List Thread → ℕ → Type 0
Stands threads t = (place_of threads t ≡ Waiting) ⊎ IsReady threads t

wake_ready : (n : State) (t u : ℕ) (a : Answer) → IsReady n.threads t → IsReady (wake u a n).threads t
wake_ready n t u a h = elim (place_moved u (Ready a) n.threads t) [ inl e ↦ (h.0, e ∙ h.1) | inr k ↦ (a, k.1) ]

wake_stands : (n : State) (t u : ℕ) (a : Answer) → Stands n.threads t → Stands (wake u a n).threads t
wake_stands n t u a (inr h) = inr (wake_ready n t u a h)
wake_stands n t u a (inl h) = elim (place_moved u (Ready a) n.threads t) [ inl e ↦ inl (e ∙ h) | inr k ↦ inr (a, k.1) ]

stands_up : (n : State) (t : ℕ) → Stands n.threads t → place_of n.threads t ≡ Ended → ⊥
stands_up n t (inl h) e = cc (h, e)
stands_up n t (inr h) e = let k = h.1 in cc (k, e)

wake_here : (n : State) (t : ℕ) (a : Answer) → Stands n.threads t → IsReady (wake t a n).threads t
wake_here n t a h = (a, place_of-placed_same n.threads t (Ready a) (made_from_place n.threads t (stands_up n t h)))

kept_ready : (ws : List (ℕ × Answer)) (n : State) (t : ℕ) → IsReady n.threads t → IsReady (all_woken ws n).threads t
kept_ready [] n t h = h
kept_ready (w ∷ ws) n t h = kept_ready ws (wake w.0 w.1 n) t (wake_ready n t w.0 w.1 h)

-- all that are woken where a channel is closed
abbrev after_close : ℕ → List Party → State → List Thread
after_close c ps n = (all_woken (map (failed_on c) ps) n).threads

here_step : (c t : ℕ) (b : Bool) (p : Party) (ps : List Party) (n : State) → b ≡ true → p.tid ≡ t → Stands n.threads t → IsReady (after_close c (cond b (p ∷ ps) ps) n) t
here_step c t true p ps n h same stands =
    let a = failed_answer p.single (first_number (is_on c) p.entries) in
    let at_t : Stands n.threads p.tid = subst (λ (x : ℕ). Stands n.threads x) (sym same) stands in
    kept_ready (map (failed_on c) ps) (wake p.tid a n) t (subst (λ (x : ℕ). IsReady (wake p.tid a n).threads x) same (wake_here n p.tid a at_t))
here_step c t false p ps n h same stands = cc

later_step : (c t : ℕ) (b : Bool) (p : Party) (ps : List Party) (n : State) → ((m : State) → Stands m.threads t → IsReady (after_close c ps m) t) → Stands n.threads t → IsReady (after_close c (cond b (p ∷ ps) ps) n) t
later_step c t true p ps n k stands =
    let a = failed_answer p.single (first_number (is_on c) p.entries) in
    k (wake p.tid a n) (wake_stands n t p.tid a stands)
later_step c t false p ps n k stands = k n stands

close_readies : (c t : ℕ) → (ps : List Party) (i : ℕ) (w : Party) → slice_get ps i ≡ Some w → w.tid ≡ t → waits_on c w ≡ true → (n : State) → Stands n.threads t → IsReady (after_close c (filter (waits_on c) ps) n) t
close_readies c t [] i w at same on n stands = cc
close_readies c t (p ∷ ps) zero w at same on n stands =
    let here : p ≡ w = cc in
    here_step c t (waits_on c p) p (filter (waits_on c) ps) n (rw here on) (ap (λ (x : Party). x.tid) here ∙ same) stands
close_readies c t (p ∷ ps) (suc i) w at same on n stands =
    later_step c t (waits_on c p) p (filter (waits_on c) ps) n (close_readies c t ps i w at same on) stands

times_at : {A : Type 0} (q : A → Bool) → (xs : List A) (i : ℕ) (x : A) → slice_get xs i ≡ Some x → q x ≡ true → 1 ≤ times q xs
times_at q [] i x at h = cc at
times_at q (y ∷ ys) zero x at h = let same : y ≡ x = cc in rw (same, h) (omega arith)
times_at q (y ∷ ys) (suc i) x at h = let k = times_at q ys i x at h in omega (arith, k)

first_full : (b : Bool) (n : ℕ) → b ≡ true → cond b 1 0 + n ≤ 1 → 1 ≤ n → ⊥
first_full true n h le k = omega (arith, le, k)
first_full false n h le k = cc

fewer_left : (b : Bool) (n : ℕ) → cond b 1 0 + n ≤ 1 → n ≤ 1
fewer_left b n le = omega (arith, le)

-- what passes once is one
once : {A : Type 0} (q : A → Bool) → (xs : List A) (i j : ℕ) (x y : A) → times q xs ≤ 1 → slice_get xs i ≡ Some x → slice_get xs j ≡ Some y → q x ≡ true → q y ≡ true → x ≡ y
once q [] i j x y le at bt h k = cc at
once q (z ∷ zs) zero zero x y le at bt h k = cc (at, bt)
once q (z ∷ zs) zero (suc j) x y le at bt h k =
    let same : z ≡ x = cc at in
    absurd (first_full (q z) (times q zs) (rw same h) le (times_at q zs j y bt k))
once q (z ∷ zs) (suc i) zero x y le at bt h k =
    let same : z ≡ y = cc bt in
    absurd (first_full (q z) (times q zs) (rw same k) le (times_at q zs i x at h))
once q (z ∷ zs) (suc i) (suc j) x y le at bt h k = once q zs i j x y (fewer_left (q z) (times q zs) le) at bt h k

never : (b : Bool) → (b && false) ≡ false
never true = refl
never false = refl

close_is : (c : ℕ) (s : State) (o : Option Channel) (chan : Channel) → o ≡ Some chan → chan.closed ≡ false → close c s o ≡ close_channel c s
close_is c s o chan e h = rw (e, h) refl

served_close : (setup : Setup) (u c : ℕ) (s : State) → served setup u (ChanRequest (ChanClose c)) s ≡ close c s (unfreed (by_id s.chans c))
unfolding served chan_call
served_close setup u c s = refl

step_closes : (setup : Setup) (seat : Seat) (event : Event) (s : State) (c : ℕ) (k : ClosesNow seat event s c) → (step setup seat event s).state.threads ≡ after_close c (filter (waits_on c) (parties s.waits)) (record s { chans = changed closed_chan s.chans (c - 1) })
step_closes setup seat event s c k =
    ap (λ (o : Outcome). o.state.threads)
    (step_served setup seat event k.proc_no k.caller (ChanRequest (ChanClose c)) s k.is_seat k.is_call k.runs (never (is_marked (by_id s.threads k.caller)))
    ∙ ap (counted s) (served_close setup k.caller c s ∙ close_is c s (unfreed (by_id s.chans c)) k.chan k.is_chan k.was_open))

waits_here : (setup : Setup) (s : State) (t c : ℕ) → IsSound setup s → WaitsSingly s.waits c t → place_of s.threads t ≡ Waiting
waits_here setup s t c sound w =
    let rest = parties_rest s.threads s.waits (rests_once s.threads s.line s.waits sound.stand) in
    subst (λ (x : ℕ). place_of s.threads x ≡ Waiting) w.is_thread
    (held_at (λ (p : Party). place_of s.threads p.tid ≡ Waiting) (parties s.waits) w.index w.party (recursion_from_All (λ (p : Party). place_of s.threads p.tid ≡ Waiting) (parties s.waits) rest) w.is_there)

itself : (t u : ℕ) → u ≡ t → eqb u t ≡ true
itself t u e = let k = eqb_same t in rw e k

-- who waits singly is told Closed
told_singly : (setup : Setup) (s : State) (t c : ℕ) (a : Answer) → IsSound setup s → WaitsSingly s.waits c t → WokenByChan s (ChanClose c) t a → a ≡ Closed
told_singly setup s t c a sound w (Meets alt is_alt h) = cc
told_singly setup s t c a sound w (Closes d is fails) =
    let few = times_parties t s.waits in
    let one = sound.stand.in_waits t ∙ ap times_in_waits (waits_here setup s t c sound w) in
    let same = once (is_tid t) (parties s.waits) fails.index w.index fails.party w.party (omega (arith, few, one)) fails.waits_there w.is_there (itself t fails.party.tid fails.is_thread) (itself t w.party.tid w.is_thread) in
    let single : fails.party.single ≡ true = rw same (w.is_single) in
    fails.answer ∙ ap (λ (b : Bool). failed_answer b (first_number (is_on d) fails.party.entries)) single

cause_singly : (setup : Setup) (seat : Seat) (event : Event) (s : State) (t c u : ℕ) (a : Answer) → event ≡ Call u (ChanRequest (ChanClose c)) → IsSound setup s → WaitsSingly s.waits c t → IsCause setup seat event s t a → a ≡ Closed
cause_singly setup seat event s t c u a is sound w (ByItself p r seat_is own runs spared told) =
    let k = place_runs p (by_id s.threads t) runs in
    let l = waits_here setup s t c sound w in cc (k, l)
cause_singly setup seat event s t c u a is sound w (ByAnother waits woken) =
    told_singly setup s t c a sound w (subst (λ (e : Event). WokenAt s e t a) is woken)

waiting_unanswered : (pl : Place) → pl ≡ Waiting → is_answered pl ≡ false
waiting_unanswered pl e = rw e refl

close_gives : (setup : Setup) (seat : Seat) (event : Event) (s : State) (t c : ℕ) → IsSound setup s → ClosesNow seat event s c → WaitsSingly s.waits c t → Gives setup seat event s t Closed
close_gives setup seat event s t c sound k w =
    let waits = waits_here setup s t c sound w in
    let ready = close_readies c t (parties s.waits) w.index w.party w.is_there w.is_thread w.is_on_it (record s { chans = changed closed_chan s.chans (c - 1) }) (inl waits) in
    let after = ap (λ (threads : List Thread). place_of threads t) (step_closes setup seat event s c k) ∙ ready.1 in
    let g : Gives setup seat event s t ready.0 = record { before = waiting_unanswered (place_of s.threads t) waits; after = after } in
    subst (Gives setup seat event s t) (cause_singly setup seat event s t c k.caller ready.0 k.is_call sound w (cause setup seat event s t ready.0 sound g)) g

closed_gives : (setup : Setup) (seat : Seat) (event : Event) (s : State) (t : ℕ) → IsSound setup s → GivesClosed setup seat event s t → Gives setup seat event s t Closed
closed_gives setup seat event s t sound (OfList alt asks h) = list_gives setup seat event s t alt asks h
closed_gives setup seat event s t sound (OfEntry alt e asks single only closed) = entry_gives setup seat event s t alt e asks single only closed
closed_gives setup seat event s t sound (OfClose c k w) = close_gives setup seat event s t c sound k w

pub closed_exactly : (setup : Setup) (s : State) → IsSound setup s → ClosedExactly setup s
closed_exactly setup s sound seat event t = (closed_cause setup seat event s t sound, closed_gives setup seat event s t sound)

pub closed_told : (setup : Setup) (H : List Entry) → IsValid setup → IsLegal setup H → ClosedTold setup H
closed_told setup H valid legal i t e at told =
    let g = answers_given setup H valid legal i t Closed e at told in
    record {
      told = g;
      cause = closed_cause setup g.entry.seat g.entry.event (state_before setup H g.at) t (state_sound setup (take g.at H) valid) (gives_at setup H legal i t Closed g);
    }
