-- What an alt keeps, whatever comes of it: the entry that goes on is ready.
use Rattle.std.proofs.Common.{◌≡◌, ℕ, suc, ◌+◌, ◌-◌, ◌<◌, ◌≤◌, ◌%◌, Bool, true, false, not, cond, ◌&&◌, ◌||◌, eqb, List, [], ◌∷◌, ◌++◌, length, Option, Some, None, refl, ap, subst, sym, ◌∙◌, arith, rules, tests}
use Rattle.std.specs.Prelude.{slice_get, All}
use Rattle.std.specs.List.{list_any, cons_option}
use Rattle.std.proofs.lemmas.List.{append-nil}
use Rattle.std.proofs.lemmas.Option.{slice_get_within, get_or_from_slice_get}
use Rattle.p9_word.specs.declared.alt.AltOp.{AltOp}
use Rattle.p9_word.specs.declared.alt.AltOp.TheVariants.{Snd, Rcv, Nop}
use Rattle.p9_word.specs.declared.alt.AltEntry.{AltEntry}
use Rattle.p9_word.specs.declared.alt.Ending.{Ending}
use Rattle.p9_word.specs.declared.alt.Ending.TheVariants.{End, NoBlk}
use Rattle.p9_word.specs.declared.answer.Answer.{Answer}
use Rattle.p9_word.specs.declared.request.Request.{Request}
use Rattle.p9_word.specs.declared.setup.Setup.{Setup}
use Rattle.p9_word.specs.declared.trail.Entry.{Entry}
use Rattle.p9_manual.specs.declared.state.Channel.{Channel}
use Rattle.p9_manual.specs.declared.state.Element.{Element}
use Rattle.p9_manual.specs.declared.state.Party.{Party}
use Rattle.p9_manual.specs.declared.state.Waiter.{Waiter}
use Rattle.p9_manual.specs.Offers.{Alternation, alternation_of, party, party_with, parties}
use Rattle.p9_manual.specs.AltEntries.{sends_to, sends_on, receives_on}
use Rattle.p9_manual.specs.ReadyEntries.{has_room, is_unbuffered, can_send, can_go_on, is_ready, ready_entries, fits}
use Rattle.p9_manual.specs.Commit.{commit_op, commit_entry, commit}
use Rattle.p9_manual.specs.Told.{sent_bytes}
use Rattle.p9_manual.specs.Alt.{Verdict, AllClosed, Commits, NoneReady, MustWait, is_closed_list, chosen, unready, verdict_on, verdict, parties_without, with_woken, decided, with_draw, verdict_of, alt}
use Rattle.p9_laws.proofs.Moves.Moved.{moved_by, moved_in}
use Rattle.p9_manual.specs.Sound.{WaitRightly, IsWithin}
use Rattle.p9_manual.specs.State.{Move, State, Outcome, by_id, bad}
use Rattle.p9_laws.proofs.Sound.Parties.{parties_push, parties_without as parties_taken}
use Rattle.p9_laws.proofs.Sound.Places.{get_from_by_id}
use Rattle.p9_laws.proofs.Sound.Ready.{HasPassing, ready_numbers}
use Rattle.p9_laws.proofs.Moves.Senders.{none_left, senders_gone, is_itself}
use Rattle.p9_laws.proofs.Moves.Sent.{Asks, sent_from}
use Rattle.p9_laws.proofs.Moves.Kept.{Kept, kept_later, kept_waits}
use Rattle.p9_laws.proofs.Moves.Deals.{KeptAfter, failed_kept, SendsApart, send_kept, receive_kept}

within_at : (chans : List Channel) (c : ℕ) (chan : Channel) → by_id chans c ≡ Some chan → All IsWithin chans → IsWithin chan
within_at chans c chan at h =
    let here = get_from_by_id chans c chan at in
    subst IsWithin (get_or_from_slice_get chans (c - 1) chan chan here) (h (c - 1) chan (slice_get_within chans (c - 1) chan here))

none_held : (n : ℕ) (es : List Element) → eqb n 0 ≡ true → length es ≤ n → es ≡ []
none_held n [] e h = refl
none_held n (x ∷ es) e h = let z : n ≡ 0 = search (rules, tests) in absurd (omega arith)

-- a send that can go on, on a channel that is open and doesn't hand its values over, finds room
room_found : (closed room unbuffered waits : Bool) → (closed || (room || (unbuffered && waits))) ≡ true → closed ≡ false → unbuffered ≡ false → (closed || room) ≡ true
room_found true room unbuffered waits h e f = cc
room_found false true unbuffered waits h e f = refl
room_found false false true waits h e f = cc
room_found false false false waits h e f = cc

sends_apart : (chans : List Channel) (waits : List Waiter) (c : ℕ) (chan : Channel) → by_id chans c ≡ Some chan → can_send c chan (parties waits) ≡ true → WaitRightly chans waits → All IsWithin chans → SendsApart c chan (parties waits)
sends_apart chans waits c chan at can right within =
    record {
      room = λ e f. none_left (sends_on c) (parties waits) (right.sends c (rw at (room_found chan.closed (has_room chan) (is_unbuffered chan) (list_any (receives_on c) (parties waits)) can e f)));
      empty = λ e. none_held chan.cap chan.elements e (within_at chans c chan at within);
      alone = λ w e. senders_gone c w (parties waits) (right.unpaired c) e;
    }

ready_parts : (err go : Bool) → (not err && go) ≡ true → (err ≡ false) × (go ≡ true)
ready_parts true go h = cc
ready_parts false go h = (refl, h)

pub sends_itself : (e : AltEntry) → e.err ≡ false → e.op ≡ Snd → sends_to e.chan e ≡ true
sends_itself e unset op = rw (unset, op, is_itself e.chan) refl

op_kept : (H : List Entry) (ms : List Move) (chans : List Channel) (waits : List Waiter) (me : Party) (i : ℕ) (e : AltEntry) (op : AltOp) (o : Option Channel) → e.op ≡ op → by_id chans e.chan ≡ o → e.err ≡ false → can_go_on op e.chan o (parties waits) ≡ true → Asks me.entries (slice_get H me.at) → slice_get me.entries i ≡ Some e → WaitRightly chans waits → All IsWithin chans → Kept H me.at ms chans (parties waits) → KeptAfter H me.at ms (parties waits) (commit_op me i op e.slot e.chan chans (parties waits) o)
op_kept H ms chans waits me i e Snd (Some chan) op at unset can asks there right within k =
    send_kept H ms chans (parties waits) me i (sent_bytes chan.elsize e.slot) e.chan chan at (sends_apart chans waits e.chan chan at can right within)
    (sent_from e.chan chan.elsize (sent_bytes chan.elsize e.slot) me.entries (slice_get H me.at) i e asks there (sends_itself e unset op, refl)) k
op_kept H ms chans waits me i e Rcv (Some chan) op at unset can asks there right within k =
    receive_kept H ms chans (parties waits) me i e.slot e.chan chan chan.elements refl at k
op_kept H ms chans waits me i e Nop (Some chan) op at unset can asks there right within k = failed_kept H ms chans (parties waits) me i k
op_kept H ms chans waits me i e Snd None op at unset can asks there right within k = failed_kept H ms chans (parties waits) me i k
op_kept H ms chans waits me i e Rcv None op at unset can asks there right within k = failed_kept H ms chans (parties waits) me i k
op_kept H ms chans waits me i e Nop None op at unset can asks there right within k = failed_kept H ms chans (parties waits) me i k

-- what is known of the caller and of the others
pub record Comes (H : List Entry) (ms : List Move) (chans : List Channel) (waits : List Waiter) (me : Party) : Type 0 where
  pub asks : Asks me.entries (slice_get H me.at)
  pub right : WaitRightly chans waits
  pub within : All IsWithin chans
  pub kept : Kept H me.at ms chans (parties waits)

commit_kept : (H : List Entry) (ms : List Move) (chans : List Channel) (waits : List Waiter) (me : Party) (i : ℕ) → Comes H ms chans waits me → HasPassing (is_ready chans (parties waits)) me.entries i → KeptAfter H me.at ms (parties waits) (commit me i chans (parties waits))
commit_kept H ms chans waits me i comes (e, there, passes) =
    let parts = ready_parts e.err (can_go_on e.op e.chan (by_id chans e.chan) (parties waits)) passes in
    subst (λ (o : Option AltEntry). KeptAfter H me.at ms (parties waits) (commit_entry me i chans (parties waits) o)) (sym there)
    (op_kept H ms chans waits me i e e.op (by_id chans e.chan) refl refl parts.0 parts.1 comes.asks there comes.right comes.within comes.kept)

-- what is kept by a verdict that goes on, and by one that doesn't
abbrev pub KeptBy : List Entry → List Move → List Channel → List Party → Party → Verdict → Type 0
KeptBy H ms chans waits me (Commits d) = KeptAfter H me.at ms waits d
KeptBy H ms chans waits me AllClosed = Unit {0}
KeptBy H ms chans waits me NoneReady = Unit {0}
KeptBy H ms chans waits me MustWait = Unit {0}

unready_kept : (H : List Entry) (ms : List Move) (chans : List Channel) (waits : List Party) (me : Party) (ending : Ending) → KeptBy H ms chans waits me (unready ending)
unready_kept H ms chans waits me NoBlk = tt
unready_kept H ms chans waits me End = tt

pub in_list : (w n : ℕ) → w % suc (suc n) < suc (suc n)
in_list w n = omega arith

on_kept : (H : List Entry) (ms : List Move) (chans : List Channel) (waits : List Waiter) (me : Party) (draw : ℕ) (ending : Ending) (ready : List ℕ) → Comes H ms chans waits me → All (HasPassing (is_ready chans (parties waits)) me.entries) ready → KeptBy H ms chans (parties waits) me (verdict_on draw me ending chans (parties waits) ready)
on_kept H ms chans waits me draw ending [] comes h = unready_kept H ms chans (parties waits) me ending
on_kept H ms chans waits me draw ending (i ∷ []) comes h = commit_kept H ms chans waits me i comes (h 0 0 (omega arith))
on_kept H ms chans waits me draw ending (i ∷ j ∷ more) comes h =
    commit_kept H ms chans waits me (chosen draw (i ∷ j ∷ more)) comes (h (draw % length (i ∷ j ∷ more)) 0 (in_list draw (length more)))

if_kept : (H : List Entry) (ms : List Move) (chans : List Channel) (waits : List Party) (me : Party) (b : Bool) (v : Verdict) → KeptBy H ms chans waits me v → KeptBy H ms chans waits me (cond b AllClosed v)
if_kept H ms chans waits me true v h = tt
if_kept H ms chans waits me false v h = h

verdict_kept : (H : List Entry) (ms : List Move) (chans : List Channel) (waits : List Waiter) (me : Party) (draw : ℕ) (ending : Ending) → Comes H ms chans waits me → KeptBy H ms chans (parties waits) me (verdict draw me ending chans (parties waits))
verdict_kept H ms chans waits me draw ending comes =
    if_kept H ms chans (parties waits) me (is_closed_list me.entries) _
    (on_kept H ms chans waits me draw ending (ready_entries chans (parties waits) me.entries) comes (ready_numbers chans (parties waits) me.entries))

-- what is kept of a state
abbrev pub KeptIn : List Entry → ℕ → List Move → State → Type 0
KeptIn H n ms s = Kept H n ms s.chans (parties s.waits)

woken_kept : (H : List Entry) (n : ℕ) (ms : List Move) (s : State) (o : Option (ℕ × Answer)) → Kept H n ms s.chans (parties_without o (parties s.waits)) → KeptIn H n ms (with_woken o s)
woken_kept H n ms s None k = k
woken_kept H n ms s (Some w) k = rw (parties_taken w.0 s.waits) k

asked_party : (t at : ℕ) (o : Option Alternation) (a : Alternation) → o ≡ Some a → party_with t at o ≡ party t at a ∷ []
asked_party t at None a e = cc
asked_party t at (Some b) a e = let same : b ≡ a = cc in rw same refl

decided_kept : (H : List Entry) (ms : List Move) (t : ℕ) (request : Request) (a : Alternation) (s : State) (v : Verdict) → alternation_of request ≡ Some a → Asks a.entries (slice_get H s.position) → KeptIn H s.position ms s → KeptBy H ms s.chans (parties s.waits) (party t s.position a) v → KeptIn H (s.position + 1) (ms ++ moved_by v) (decided t request s v).state
decided_kept H ms t request a s AllClosed is asks k h = rw append-nil (kept_later H s.position ms s.chans (parties s.waits) k)
decided_kept H ms t request a s NoneReady is asks k h = rw append-nil (kept_later H s.position ms s.chans (parties s.waits) k)
decided_kept H ms t request a s (Commits d) is asks k h = woken_kept H (s.position + 1) (ms ++ cons_option d.moved []) (record s { chans = d.chans }) d.woken h
decided_kept H ms t request a s MustWait is asks k h =
    let w : Waiter = record { tid = t; request = request; at = s.position } in
    let more : parties (s.waits ++ w ∷ []) ≡ parties s.waits ++ party t s.position a ∷ [] =
    parties_push s.waits w ∙ ap (λ ps. parties s.waits ++ ps) (asked_party t s.position (alternation_of request) a is) in
    rw (append-nil, more) (kept_waits H s.position ms s.chans (parties s.waits) (party t s.position a) refl asks k)

fits_step : (H : List Entry) (ms : List Move) (n : ℕ) (s : State) (b : Bool) (o : Outcome) (v : Verdict) → KeptIn H n ms s → (b ≡ true → KeptIn H n (ms ++ moved_by v) o.state) → KeptIn H n (ms ++ cond b (moved_by v) []) (cond b o (bad s)).state
fits_step H ms n s true o v k h = h refl
fits_step H ms n s false o v k h = rw append-nil k

-- whatever comes of an alt: a call that fits asks for it
pub alt_kept : (H : List Entry) (ms : List Move) (setup : Setup) (t : ℕ) (request : Request) (a : Alternation) (s : State) → alternation_of request ≡ Some a → (fits s.chans a.entries ≡ true → Asks a.entries (slice_get H s.position)) → WaitRightly s.chans s.waits → All IsWithin s.chans → KeptIn H s.position ms s → KeptIn H (s.position + 1) (ms ++ moved_in setup t s (Some a)) (alt setup t request a s).state
alt_kept H ms setup t request a s is asks right within k =
    fits_step H ms (s.position + 1) s (fits s.chans a.entries) (decided t request (with_draw a.entries s) (verdict_of setup t a s)) (verdict_of setup t a s)
    (kept_later H s.position ms s.chans (parties s.waits) k)
    (λ f. decided_kept H ms t request a (with_draw a.entries s) (verdict_of setup t a s) is (asks f) k
    (verdict_kept H ms s.chans s.waits (party t s.position a) _ a.ending (record { asks = asks f; right = right; within = within; kept = k })))
