-- What each request on channels of a thread that runs does.
use Rattle.std.proofs.Common.{◌≡◌, ℕ, ◌+◌, ◌≤◌, Bool, true, false, cond, eqb, List, [], ◌∷◌, ◌++◌, map, Option, Some, None, refl, ap, subst, arith}
use Rattle.std.specs.Prelude.{◌-◌, slice_get}
use Rattle.std.specs.List.{filter, find}
use Rattle.std.proofs.lemmas.Bool.{eqb-true}
use Rattle.p9_word.specs.declared.alt.AltOp.{AltOp}
use Rattle.p9_word.specs.declared.alt.AltOp.TheVariants.{Snd, Rcv, Nop}
use Rattle.p9_word.specs.declared.alt.AltEntry.{AltEntry}
use Rattle.p9_word.specs.declared.alt.Ending.{Ending}
use Rattle.p9_word.specs.declared.alt.Ending.TheVariants.{End, NoBlk}
use Rattle.p9_word.specs.declared.alt.Slot.{Slot}
use Rattle.p9_word.specs.declared.answer.Answer.{Answer}
use Rattle.p9_word.specs.declared.request.Request.TheVariants.{Chan as ChanRequest}
use Rattle.p9_word.specs.declared.request.ChanReq.{ChanReq}
use Rattle.p9_word.specs.declared.setup.Setup.{Setup}
use Rattle.p9_manual.specs.declared.state.Channel.{Channel}
use Rattle.p9_manual.specs.declared.state.Element.{Element}
use Rattle.p9_manual.specs.declared.state.Party.{Party}
use Rattle.p9_manual.specs.State.{State, Outcome, by_id, changed, now, done}
use Rattle.p9_manual.specs.Offers.{Alternation, alternation, party, parties}
use Rattle.p9_manual.specs.AltEntries.{sends_on, receives_on, waits_on}
use Rattle.p9_manual.specs.ReadyEntries.{fits, ready_entries, is_unbuffered}
use Rattle.p9_manual.specs.Commit.{Deal, commit, commit_entry, commit_op, hand_over, pass_on, take_over, receive_from, sender_woken, element}
use Rattle.p9_manual.specs.Told.{sent_bytes}
use Rattle.p9_manual.specs.Alt.{Verdict, AllClosed, Commits, NoneReady, MustWait, is_closed_list, unready, chosen, verdict_on, verdict, with_woken, with_draw, dealt, decided, verdict_of}
use Rattle.p9_manual.specs.Draws.{draw_after}
use Rattle.p9_manual.specs.Close.{close_channel, all_failed, failed_on, closed_chan}
use Rattle.p9_manual.specs.Chans.{chan_call, by_alternation}
use Rattle.p9_laws.proofs.Tallies.{tally, tally-filtered_fewer}
use Rattle.p9_laws.proofs.AskedChans.{DoesToChans, Tells, MakesChannel, FreesChannel, ClosesChannel, on_channel_does}
use Rattle.p9_laws.proofs.RunMoves.{IsUpright, RunsIn, unmoved, moved_on, same_id}
use Rattle.p9_laws.proofs.RunCalls.{IsServed, done_served, just_waiting, bad_served, if_served}
use Rattle.p9_laws.proofs.RunWoken.{is_party, is_other_wait_of, parties_wait, AllWait, IsWaking, waking}

-- whom a deal wakes is one of these threads
abbrev pub IsAmong : List Party → Option (ℕ × Answer) → Type 0
IsAmong waits None = Unit {0}
IsAmong waits (Some w) = 1 ≤ tally (is_party w.0) waits

found_step : (p : Party → Bool) (b : Bool) (x y : Party) (xs : List Party) → (find p xs ≡ Some y → 1 ≤ tally (is_party y.tid) xs) → cond b (Some x) (find p xs) ≡ Some y → 1 ≤ cond (eqb x.tid y.tid) 1 0 + tally (is_party y.tid) xs
found_step p true x y xs h e = let same : x ≡ y = cc in rw (same, same_id y.tid) (omega arith)
found_step p false x y xs h e = let k = h e in omega (arith, k)

-- who is found is there
found : (p : Party → Bool) → (waits : List Party) (w : Party) → find p waits ≡ Some w → 1 ≤ tally (is_party w.tid) waits
found p [] w e = cc
found p (x ∷ xs) w e = found_step p (p x) x w xs (found p xs w) e

if_among : (waits : List Party) (b : Bool) (d e : Deal) → IsAmong waits d.woken → IsAmong waits e.woken → IsAmong waits (cond b d e).woken
if_among waits true d e f g = f
if_among waits false d e f g = g

hand_among : (me : Party) (i : ℕ) (bytes : List ℕ) (c : ℕ) (chans : List Channel) (waits : List Party) (o : Option Party) → find (receives_on c) waits ≡ o → IsAmong waits (hand_over me i bytes c chans o).woken
hand_among me i bytes c chans waits None at = tt
hand_among me i bytes c chans waits (Some w) at = found (receives_on c) waits w at

pass_among : (me : Party) (i c : ℕ) (chans : List Channel) (waits : List Party) (o : Option Party) (elements : List Element) → find (receives_on c) waits ≡ o → IsAmong waits (pass_on me i c chans o elements).woken
pass_among me i c chans waits None elements at = tt
pass_among me i c chans waits (Some w) [] at = tt
pass_among me i c chans waits (Some w) (x ∷ rest) at = found (receives_on c) waits w at

take_among : (me : Party) (i : ℕ) (slot : Slot) (c elsize : ℕ) (chans : List Channel) (waits : List Party) (o : Option Party) → find (sends_on c) waits ≡ o → IsAmong waits (take_over me i slot c elsize chans o).woken
take_among me i slot c elsize chans waits None at = tt
take_among me i slot c elsize chans waits (Some w) at = found (sends_on c) waits w at

sender_among : (c : ℕ) (waits : List Party) (o : Option Party) → find (sends_on c) waits ≡ o → IsAmong waits (sender_woken c o)
sender_among c waits None at = tt
sender_among c waits (Some w) at = found (sends_on c) waits w at

receive_among : (me : Party) (i : ℕ) (slot : Slot) (c : ℕ) (chans : List Channel) (waits : List Party) (chan : Channel) (elements : List Element) → IsAmong waits (receive_from me i slot c chans waits chan elements).woken
receive_among me i slot c chans waits chan [] = if_among waits chan.closed _ _ tt (take_among me i slot c chan.elsize chans waits _ refl)
receive_among me i slot c chans waits chan (x ∷ rest) = sender_among c waits _ refl

op_among : (me : Party) (i : ℕ) (op : AltOp) (slot : Slot) (c : ℕ) (chans : List Channel) (waits : List Party) (o : Option Channel) → IsAmong waits (commit_op me i op slot c chans waits o).woken
op_among me i op slot c chans waits None = tt
op_among me i Snd slot c chans waits (Some chan) =
    if_among waits chan.closed _ _ tt
    (if_among waits (is_unbuffered chan) _ _
    (hand_among me i (sent_bytes chan.elsize slot) c chans waits _ refl)
    (pass_among me i c chans waits _ (chan.elements ++ element me.at (sent_bytes chan.elsize slot) ∷ []) refl))
op_among me i Rcv slot c chans waits (Some chan) = receive_among me i slot c chans waits chan chan.elements
op_among me i Nop slot c chans waits (Some chan) = tt

entry_among : (me : Party) (i : ℕ) (chans : List Channel) (waits : List Party) (o : Option AltEntry) → IsAmong waits (commit_entry me i chans waits o).woken
entry_among me i chans waits None = tt
entry_among me i chans waits (Some e) = op_among me i e.op e.slot e.chan chans waits (by_id chans e.chan)

commit_among : (me : Party) (i : ℕ) (chans : List Channel) (waits : List Party) → IsAmong waits (commit me i chans waits).woken
commit_among me i chans waits = entry_among me i chans waits (slice_get me.entries i)

-- a verdict wakes one of these threads, if any
abbrev pub WakesAmong : List Party → Verdict → Type 0
WakesAmong waits (Commits d) = IsAmong waits d.woken
WakesAmong waits AllClosed = Unit {0}
WakesAmong waits NoneReady = Unit {0}
WakesAmong waits MustWait = Unit {0}

unready_among : (waits : List Party) (ending : Ending) → WakesAmong waits (unready ending)
unready_among waits NoBlk = tt
unready_among waits End = tt

ready_among : (draw : ℕ) (me : Party) (ending : Ending) (chans : List Channel) (waits : List Party) (ready : List ℕ) → WakesAmong waits (verdict_on draw me ending chans waits ready)
ready_among draw me ending chans waits [] = unready_among waits ending
ready_among draw me ending chans waits (i ∷ []) = commit_among me i chans waits
ready_among draw me ending chans waits (i ∷ j ∷ more) = commit_among me (chosen draw (i ∷ j ∷ more)) chans waits

if_wakes : (waits : List Party) (b : Bool) (v w : Verdict) → WakesAmong waits v → WakesAmong waits w → WakesAmong waits (cond b v w)
if_wakes waits true v w f g = f
if_wakes waits false v w f g = g

verdict_among : (draw : ℕ) (me : Party) (ending : Ending) (chans : List Channel) (waits : List Party) → WakesAmong waits (verdict draw me ending chans waits)
verdict_among draw me ending chans waits =
    if_wakes waits (is_closed_list me.entries) _ _ tt (ready_among draw me ending chans waits (ready_entries chans waits me.entries))

-- one thread to be woken waits
one_waits : (w : ℕ × Answer) (s : State) → 1 ≤ tally (is_party w.0) (parties s.waits) → AllWait (w ∷ []) s
one_waits w s some u = one_step (eqb w.0 u) u w.0 s refl some
  where
    one_step : (b : Bool) (u t : ℕ) (s : State) → eqb t u ≡ b → 1 ≤ tally (is_party t) (parties s.waits) → cond b 1 0 + 0 ≤ tally (is_other_wait_of u) s.waits
    one_step true u t s e some =
        let same = eqb-true t u e in
        let k = parties_wait u s.waits in
        let one = subst (λ (x : ℕ). 1 ≤ tally (is_party x) (parties s.waits)) same some in
        omega (arith, k, one)
    one_step false u t s e some = omega arith

-- the state after a deal, before its caller is ready
woken_waking : (o : Option (ℕ × Answer)) (t : ℕ) (s : State) → IsUpright s → RunsIn s t → IsAmong (parties s.waits) o → IsWaking t s (with_woken o s)
woken_waking None t s upright runs among = waking [] t s upright runs (λ u. omega arith)
woken_waking (Some w) t s upright runs among = waking (w ∷ []) t s upright runs (one_waits w s among)

-- the caller is ready after another one is woken
waking_served : (t : ℕ) (a : Answer) (s m : State) → IsWaking t s m → RunsIn s t → IsServed t s (done t a m)
waking_served t a s m is runs =
    let there : RunsIn m t = rw (is.stays) runs in
    let rest = done_served m t a is.upright there in
    record {
      moved = moved_on s.threads m.threads _ is.moved rest.moved;
      upright = rest.upright;
      reply = tt;
      ends = λ e. cc;
      stays = λ a e. cc;
      begun = λ k call h. rw (is.ioprocs) h;
      over = is.over;
      opened = is.opened;
    }

dealt_served : (t : ℕ) (d : Deal) (s : State) → IsUpright s → RunsIn s t → IsAmong (parties s.waits) d.woken → IsServed t s (dealt t d s)
dealt_served t d s upright runs among =
    let is = woken_waking d.woken t (record s { chans = d.chans }) upright runs among in
    let there = waking_served t d.answer (record s { chans = d.chans }) _ is runs in
    record {
      moved = there.moved;
      upright = there.upright;
      reply = there.reply;
      ends = there.ends;
      stays = there.stays;
      begun = there.begun;
      over = there.over;
      opened = there.opened;
    }

decided_served : (t : ℕ) (r : ChanReq) (s : State) (v : Verdict) → IsUpright s → RunsIn s t → WakesAmong (parties s.waits) v → IsServed t s (decided t (ChanRequest r) s v)
decided_served t r s AllClosed upright runs among = done_served s t _ upright runs
decided_served t r s (Commits d) upright runs among = dealt_served t d s upright runs among
decided_served t r s NoneReady upright runs among = done_served s t _ upright runs
decided_served t r s MustWait upright runs among = just_waiting s t (ChanRequest r) upright runs refl

-- a draw moves nothing
drawn_served : (t : ℕ) (entries : List AltEntry) (s : State) (o : Outcome) → IsServed t (with_draw entries s) o → IsServed t s o
drawn_served t entries s o is =
    record {
      moved = is.moved;
      upright = is.upright;
      reply = is.reply;
      ends = is.ends;
      stays = is.stays;
      begun = is.begun;
      over = is.over;
      opened = is.opened;
    }

alt_served : (setup : Setup) (t : ℕ) (r : ChanReq) (a : Alternation) (s : State) → IsUpright s → RunsIn s t → IsServed t s (decided t (ChanRequest r) (with_draw a.entries s) (verdict_of setup t a s))
alt_served setup t r a s upright runs =
    drawn_served t a.entries s _ (decided_served t r (with_draw a.entries s) (verdict_of setup t a s) upright runs (verdict_among (draw_after setup.start s.draws) (party t s.position a) a.ending s.chans (parties s.waits)))

failed_tally : (c u : ℕ) → (ws : List Party) → tally (λ w. eqb w.0 u) (map (failed_on c) ws) ≡ tally (is_party u) ws
failed_tally c u [] = refl
failed_tally c u (w ∷ ws) = ap (λ n. cond (eqb w.tid u) 1 0 + n) (failed_tally c u ws)

-- all who wait on a channel wait
all_wait : (c : ℕ) (s : State) → AllWait (all_failed c (parties s.waits)) s
all_wait c s u =
    let same = failed_tally c u (filter (waits_on c) (parties s.waits)) in
    let fewer = tally-filtered_fewer (is_party u) (waits_on c) (parties s.waits) in
    let k = parties_wait u s.waits in
    omega (arith, same, fewer, k)

-- an answer at once after threads are woken
pub answer_served : (t : ℕ) (a : Answer) (s m : State) → IsWaking t s m → IsServed t s (now a m)
answer_served t a s m is =
    record {
      moved = is.moved;
      upright = is.upright;
      reply = tt;
      ends = λ e. cc;
      stays = λ a e. is.stays;
      begun = λ k call h. rw (is.ioprocs) h;
      over = is.over;
      opened = is.opened;
    }

-- other channels are no other threads
chans_waking : (t : ℕ) (s m : State) (chans : List Channel) → IsWaking t (record s { chans = chans }) m → IsWaking t s m
chans_waking t s m chans is =
    record { moved = is.moved; upright = is.upright; stays = is.stays; ioprocs = is.ioprocs; over = is.over; opened = is.opened }

close_channel_served : (t c : ℕ) (s : State) → IsUpright s → RunsIn s t → IsServed t s (close_channel c s)
close_channel_served t c s upright runs =
    answer_served t _ s _ (chans_waking t s _ _ (waking (all_failed c (parties s.waits)) t (record s { chans = changed closed_chan s.chans (c - 1) }) upright runs (all_wait c s)))

now_only : (t : ℕ) (a : Answer) (s : State) (chans : List Channel) → IsUpright s → IsServed t s (now a (record s { chans = chans }))
now_only t a s chans upright = answer_served t a s _ (chans_waking t s _ chans (record { moved = unmoved s.threads; upright = upright; stays = refl; ioprocs = refl; over = refl; opened = refl }))

chans_served : (t : ℕ) (s : State) (o : Outcome) → DoesToChans s o → IsUpright s → RunsIn s t → IsServed t s o
chans_served t s _ (Tells a) upright runs = now_only t a s s.chans upright
chans_served t s _ (MakesChannel cap elsize) upright runs = now_only t _ s _ upright
chans_served t s _ (FreesChannel c chan there) upright runs = now_only t _ s _ upright
chans_served t s _ (ClosesChannel c chan there) upright runs = close_channel_served t c s upright runs

by_alternation_served : (setup : Setup) (t : ℕ) (r : ChanReq) (s : State) (o : Option Alternation) → IsUpright s → RunsIn s t → IsServed t s (by_alternation setup t r s o)
by_alternation_served setup t r s None upright runs = chans_served t s _ (on_channel_does r s) upright runs
by_alternation_served setup t r s (Some a) upright runs =
    if_served t s (fits s.chans a.entries) _ _ (λ _. alt_served setup t r a s upright runs) (λ _. bad_served s t upright)

pub chan_call_served : (setup : Setup) (t : ℕ) (r : ChanReq) (s : State) → IsUpright s → RunsIn s t → IsServed t s (chan_call setup t r s)
unfolding chan_call
chan_call_served setup t r s upright runs = by_alternation_served setup t r s (alternation r) upright runs
