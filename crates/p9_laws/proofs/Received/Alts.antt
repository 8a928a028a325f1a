-- An alt: the caller and who is woken are told what is so.
use Rattle.std.proofs.Common.{◌≡◌, inl, inr, ℕ, zero, suc, ◌-◌, ◌≤◌, ◌%◌, Bool, true, false, cond, List, [], ◌∷◌, ◌++◌, length, Option, Some, None, refl, sym, subst, arith}
use Rattle.std.specs.Prelude.{All, slice_get}
use Rattle.std.specs.List.{AllByRecursion}
use Rattle.std.proofs.lemmas.List.Elements.{recursion_from_All, All-weaker, All-head, All-tail}
use Rattle.p9_word.specs.declared.alt.AltEntry.{AltEntry}
use Rattle.p9_word.specs.declared.alt.Ending.{Ending}
use Rattle.p9_word.specs.declared.alt.Ending.TheVariants.{End, NoBlk}
use Rattle.p9_word.specs.declared.answer.Answer.{Answer}
use Rattle.p9_word.specs.declared.answer.Answer.TheVariants.{Closed, NoBlock}
use Rattle.p9_word.specs.declared.request.Request.{Request}
use Rattle.p9_word.specs.declared.request.Request.TheVariants.{Chan as ChanRequest}
use Rattle.p9_word.specs.declared.request.ChanReq.{ChanReq}
use Rattle.p9_word.specs.declared.request.ChanReq.TheVariants as ask
use Rattle.p9_word.specs.declared.setup.Setup.{Setup}
use Rattle.p9_word.specs.declared.trail.Entry.{Entry}
use Rattle.p9_word.specs.declared.trail.Reply.TheVariants.{Waits}
use Rattle.p9_manual.specs.declared.state.Place.{Place}
use Rattle.p9_manual.specs.declared.state.Place.TheVariants.{Ready}
use Rattle.p9_manual.specs.declared.state.Thread.{Thread}
use Rattle.p9_manual.specs.declared.state.Waiter.{Waiter}
use Rattle.p9_manual.specs.declared.state.Channel.{Channel}
use Rattle.p9_manual.specs.declared.state.Party.{Party}
use Rattle.p9_manual.specs.State.{Move, State, Outcome, placed, bad}
use Rattle.p9_manual.specs.Offers.{Alternation, alternation, alternation_of, party, party_with, parties}
use Rattle.p9_manual.specs.ReadyEntries.{fits, is_ready, ready_entries}
use Rattle.p9_manual.specs.Commit.{Deal}
use Rattle.p9_manual.specs.Alt.{Verdict, AllClosed, Commits, NoneReady, MustWait, is_closed_list, chosen, unready, verdict_on, verdict, verdict_of, with_draw, dealt, decided, alt}
use Rattle.p9_manual.specs.Standing.{place_of}
use Rattle.p9_laws.specs.Receipts.{Receipt, received_by, IsReceived}
use Rattle.p9_laws.proofs.Sound.Ready.{HasPassing, ready_numbers}
use Rattle.p9_laws.proofs.Moves.Sent.{Asks}
use Rattle.p9_laws.proofs.Moves.Kept.{IsAsked}
use Rattle.p9_laws.proofs.Moves.Verdicts.{in_list}
use Rattle.p9_laws.proofs.Moves.Steps.{asks_here}
use Rattle.p9_laws.proofs.Moves.Moved.{moved_by}
use Rattle.p9_laws.proofs.Received.Places.{dues-changed, place_moved}
use Rattle.p9_laws.proofs.Received.Agrees.{Agrees, IsHeld, IsRight, IsCaller, right_at, moved-append, values_move, fewer_waits}
use Rattle.p9_laws.proofs.Received.Grows.{IsThere, Grows, left_new}
use Rattle.p9_laws.proofs.Received.Told.{IsAlone, IsGot, IsGiven, IsTold}
use Rattle.p9_laws.proofs.Received.Deals.{IsFair, IsWoken, AllAlone, out, commit_fair}
use Rattle.p9_laws.proofs.Received.Outcomes.{Keeps, AreAsked, stays_keeps, if_keeps, done_stays, waiting_stays, bad_stays}

-- a party that waits does so in its thread's last call
pub record IsCalling (last : ℕ → Option ℕ) (w : Party) : Type 0 where
  pub made : 1 ≤ w.tid
  pub is_last : last w.tid ≡ Some w.at

one_party : (last : ℕ → Option ℕ) (w : Waiter) (o : Option Alternation) (rest : List Party) → IsCaller last w → AllByRecursion (IsCalling last) rest → AllByRecursion (IsCalling last) (party_with w.tid w.at o ++ rest)
one_party last w None rest c h = h
one_party last w (Some a) rest c h = (record { made = c.made; is_last = c.is_last }, h)

all_parties : (last : ℕ → Option ℕ) → (waits : List Waiter) → AllByRecursion (IsCaller last) waits → AllByRecursion (IsCalling last) (parties waits)
all_parties last [] h = tt
all_parties last (w ∷ ws) h = one_party last w (alternation_of w.request) (parties ws) h.0 (all_parties last ws h.1)

party_at : (last : ℕ → Option ℕ) → (ps : List Party) (i : ℕ) (w : Party) → AllByRecursion (IsCalling last) ps → slice_get ps i ≡ Some w → IsCalling last w
party_at last [] i w h e = cc
party_at last (p ∷ ps) zero w h e = let same : p ≡ w = cc in subst (IsCalling last) same h.0
party_at last (p ∷ ps) (suc i) w h e = party_at last ps i w h.1 e

calling : (last : ℕ → Option ℕ) (waits : List Waiter) (i : ℕ) (w : Party) → All (IsCaller last) waits → slice_get (parties waits) i ≡ Some w → IsCalling last w
calling last waits i w h e = party_at last (parties waits) i w (all_parties last waits (recursion_from_All (IsCaller last) waits h)) e

first_only : (x : AltEntry) (i : ℕ) (e : AltEntry) → slice_get (x ∷ []) i ≡ Some e → i ≡ 0
first_only x zero e at = refl
first_only x (suc i) e at = cc

-- an alternation with the answers of send and recv has one entry
abbrev IsOne : Option Alternation → Type 0
IsOne None = Unit {0}
IsOne (Some a) = a.single ≡ true → (i : ℕ) (e : AltEntry) → slice_get a.entries i ≡ Some e → i ≡ 0

one_asked : (r : ChanReq) → IsOne (alternation r)
one_asked (ask.Alt ending entries) = λ h. cc
one_asked (ask.Send c value) = λ h i e at. first_only _ i e at
one_asked (ask.Recv keep c) = λ h i e at. first_only _ i e at
one_asked (ask.NbSend c value) = λ h i e at. first_only _ i e at
one_asked (ask.NbRecv keep c) = λ h i e at. first_only _ i e at
one_asked (ask.SendUl c n) = λ h i e at. first_only _ i e at
one_asked (ask.RecvUl c) = λ h i e at. first_only _ i e at
one_asked (ask.NbSendUl c n) = λ h i e at. first_only _ i e at
one_asked (ask.NbRecvUl c) = λ h i e at. first_only _ i e at
one_asked (ask.ChanPrint c text) = λ h i e at. first_only _ i e at
one_asked r = tt

one_of : (r : Request) → IsOne (alternation_of r)
one_of (ChanRequest r) = one_asked r
one_of r = tt

alone_of : (t at : ℕ) (o : Option Alternation) (a : Alternation) → o ≡ Some a → IsOne o → IsAlone (party t at a)
alone_of t at o a e one = subst IsOne e one

alone_with : (t at : ℕ) (o : Option Alternation) (rest : List Party) → IsOne o → AllByRecursion IsAlone rest → AllByRecursion IsAlone (party_with t at o ++ rest)
alone_with t at None rest one h = h
alone_with t at (Some a) rest one h = (one, h)

alone_waits : (waits : List Waiter) → AllByRecursion IsAlone (parties waits)
alone_waits [] = tt
alone_waits (w ∷ ws) = alone_with w.tid w.at (alternation_of w.request) (parties ws) (one_of w.request) (alone_waits ws)

alone_at : (ps : List Party) (i : ℕ) (w : Party) → AllByRecursion IsAlone ps → slice_get ps i ≡ Some w → IsAlone w
alone_at [] i w h e = cc e
alone_at (p ∷ ps) zero w h e = let same : p ≡ w = cc in subst IsAlone same h.0
alone_at (p ∷ ps) (suc i) w h e = alone_at ps i w h.1 e

all_alone : (t at : ℕ) (r : Request) (a : Alternation) (waits : List Waiter) → alternation_of r ≡ Some a → AllAlone (party t at a) (parties waits)
all_alone t at r a waits is =
    record { caller = alone_of t at (alternation_of r) a is (one_of r); others = λ i w e. alone_at (parties waits) i w (alone_waits waits) e }

right_put : (H : List Entry) (ms : List Move) (chans : List Channel) (last : ℕ → Option ℕ) (threads : List Thread) (t : ℕ) (pl : Place) → 1 ≤ t → IsRight H ms chans (last t) t pl → ((u : ℕ) → IsRight H ms chans (last u) u (place_of threads u)) → (u : ℕ) → IsRight H ms chans (last u) u (place_of (placed t pl threads) u)
right_put H ms chans last threads t pl made here right u = elim (place_moved t pl threads u) [
  | inl e ↦ right_at H ms chans (last u) u (place_of threads u) _ e (right u)
  | inr k ↦ right_at H ms chans (last u) u pl _ k.1 (subst (λ (x : ℕ). IsRight H ms chans (last x) x pl) (sym (k.0 made)) here)
]

index_new : (m : Move) → (ms mv : List Move) (i : ℕ) → slice_get mv i ≡ Some m → (k : ℕ) × (slice_get (ms ++ mv) k ≡ Some m)
index_new m [] mv i e = (i, e)
index_new m (x ∷ ms) mv i e = let k = index_new m ms mv i e in (suc k.0, k.1)

there_new : (c position : ℕ) (bytes : List ℕ) (ms mv : List Move) (chans : List Channel) → IsThere c position bytes mv chans → IsThere c position bytes (ms ++ mv) chans
there_new c position bytes ms mv chans (inl left) = inl (left_new c position bytes ms mv left)
there_new c position bytes ms mv chans (inr among) = inr among

-- a receipt by an entry of an alt is one by the call that asked for it
got_received : (H : List Entry) (ms mv : List Move) (w : Party) (last : Option ℕ) (r : Receipt) → Asks w.entries (slice_get H w.at) → last ≡ Some w.at → IsGot w.entries mv r → IsReceived H (ms ++ mv) last r
got_received H ms mv w last r a e g =
    let k = index_new g.move ms mv g.index g.is_move in
    record {
      position = w.at;
      index = k.0;
      move = g.move;
      is_last = e;
      is_move = k.1;
      is_of = record { call = a.call; entry = g.entry; is_there = a.is_there; waits = a.waits; is_entry = rw (a.has) (g.is_entry); receives = g.receives; to = g.to; from = g.from; kept = g.kept };
    }

given_held : (H : List Entry) (ms mv : List Move) (chans : List Channel) (w : Party) (n : ℕ) (last : Option ℕ) → Asks w.entries (slice_get H w.at) → last ≡ Some w.at → IsGiven w n mv chans → IsHeld H last n (ms ++ mv) chans
given_held H ms mv chans w n last a e g =
    record {
      position = w.at;
      c = g.c;
      bytes = g.bytes;
      chan = g.chan;
      is_last = e;
      is_chan = g.is_chan;
      sent = record { call = a.call; entry = g.entry; is_there = a.is_there; waits = a.waits; is_entry = rw (a.has) (g.is_entry); sends = g.sends };
      held = there_new g.c w.at g.bytes ms mv chans g.held;
    }

-- a party that is told what is so stands ready rightly
told_right : (H : List Entry) (ms mv : List Move) (chans : List Channel) (last : ℕ → Option ℕ) (w : Party) (x : Answer) → Asks w.entries (slice_get H w.at) → last w.tid ≡ Some w.at → IsTold w x mv chans → IsRight H (ms ++ mv) chans (last w.tid) w.tid (Ready x)
told_right H ms mv chans last w x a e told =
    record {
      receipts = All-weaker (IsGot w.entries mv) (IsReceived H (ms ++ mv) (last w.tid)) (λ r g. got_received H ms mv w (last w.tid) r a e g) (received_by w.tid x) told.receipts;
      sent = λ n s. given_held H ms mv chans w n (last w.tid) a e (told.sent n s);
    }

asked_step : (H : List Entry) → (ps : List Party) (i : ℕ) (w : Party) → All (IsAsked H) ps → slice_get ps i ≡ Some w → Asks w.entries (slice_get H w.at)
asked_step H [] i w h e = cc
asked_step H (p ∷ ps) zero w h e = let same : p ≡ w = cc in subst (IsAsked H) same (All-head (IsAsked H) p ps h)
asked_step H (p ∷ ps) (suc i) w h e = asked_step H ps i w (All-tail (IsAsked H) p ps h) e

-- who is woken is told what is so
woken_right : (H : List Entry) (ms mv : List Move) (last : ℕ → Option ℕ) (waits : List Waiter) (chans : List Channel) (w : ℕ × Answer) (k : IsWoken (parties waits) mv chans w) → All (IsAsked H) (parties waits) → IsCalling last k.party → IsRight H (ms ++ mv) chans (last w.0) w.0 (Ready w.1)
woken_right H ms mv last waits chans w k asked c =
    subst (λ (t : ℕ). IsRight H (ms ++ mv) chans (last t) t (Ready w.1)) (sym k.is_tid)
    (told_right H ms mv chans last k.party w.1 (asked_step H (parties waits) k.index k.party asked k.waits_there) c.is_last k.told)

dealt_agrees : (t : ℕ) (a : Alternation) (s : State) (answer : Answer) (o : Option (ℕ × Answer)) (moved : Option Move) (chans : List Channel) → 1 ≤ t → IsFair (party t s.position a) s.chans (parties s.waits) (record { answer = answer; woken = o; moved = moved; chans = chans }) →
    (H : List Entry) → Asks a.entries (slice_get H s.position) → AreAsked H s → (ms : List Move) (rs : List Receipt) (last : ℕ → Option ℕ) → last t ≡ Some s.position → Agrees H ms rs last s.threads s.waits s.chans →
    Agrees H (ms ++ out (record { answer = answer; woken = o; moved = moved; chans = chans })) rs last (dealt t (record { answer = answer; woken = o; moved = moved; chans = chans }) s).state.threads (dealt t (record { answer = answer; woken = o; moved = moved; chans = chans }) s).state.waits (dealt t (record { answer = answer; woken = o; moved = moved; chans = chans }) s).state.chans
dealt_agrees t a s answer None moved chans made f H asks asked ms rs last e g =
    let d : Deal = record { answer = answer; woken = None; moved = moved; chans = chans } in
    let more = values_move g (out d) chans f.grows in
    record {
      counts = λ p.
          let c = g.counts p in let k = dues-changed p (Ready answer) s.threads (t - 1) in
          let z = moved-append p ms (out d) in let y = f.counts p in omega (arith, c, k, z, y);
      right = right_put H (ms ++ out d) chans last s.threads t (Ready answer) made (told_right H ms (out d) chans last (party t s.position a) answer asks e f.caller) more.right;
      calls = g.calls;
    }
dealt_agrees t a s answer (Some w) moved chans made f H asks asked ms rs last e g =
    let d : Deal = record { answer = answer; woken = Some w; moved = moved; chans = chans } in
    let more = values_move g (out d) chans f.grows in
    let c = calling last s.waits f.woken.index f.woken.party g.calls f.woken.waits_there in
    let tid : 1 ≤ w.0 = subst (λ (x : ℕ). 1 ≤ x) (sym f.woken.is_tid) c.made in
    record {
      counts = λ p.
          let b = g.counts p in let h = dues-changed p (Ready w.1) s.threads (w.0 - 1) in
          let k = dues-changed p (Ready answer) (placed w.0 (Ready w.1) s.threads) (t - 1) in
          let z = moved-append p ms (out d) in let y = f.counts p in omega (arith, b, h, k, z, y);
      right =
          right_put H (ms ++ out d) chans last (placed w.0 (Ready w.1) s.threads) t (Ready answer) made
          (told_right H ms (out d) chans last (party t s.position a) answer asks e f.caller)
          (right_put H (ms ++ out d) chans last s.threads w.0 (Ready w.1) tid (woken_right H ms (out d) last s.waits chans w f.woken asked c) more.right);
      calls = (fewer_waits more w.0).calls;
    }

dealt_grows : (mv : List Move) (t : ℕ) (s : State) (answer : Answer) (o : Option (ℕ × Answer)) (moved : Option Move) (chans : List Channel) → Grows mv s.chans chans → Grows mv s.chans (dealt t (record { answer = answer; woken = o; moved = moved; chans = chans }) s).state.chans
dealt_grows mv t s answer None moved chans g = g
dealt_grows mv t s answer (Some w) moved chans g = g

dealt_keeps : (t : ℕ) (r : Request) (a : Alternation) (s : State) (d : Deal) → alternation_of r ≡ Some a → 1 ≤ t → IsFair (party t s.position a) s.chans (parties s.waits) d → Keeps t r s (out d) (dealt t d s)
dealt_keeps t r a s d is made f =
    record {
      silent = refl;
      grows = dealt_grows (out d) t s d.answer d.woken d.moved d.chans f.grows;
      agrees = λ H seat here asked ms rs last e g.
          dealt_agrees t a s d.answer d.woken d.moved d.chans made f H (asks_here H s.position seat t r Waits a here refl is) asked ms rs last e g;
    }

-- a verdict by which only fair deals are made
abbrev VerdictRight : Party → List Channel → List Party → Verdict → Type 0
VerdictRight me chans waits (Commits d) = IsFair me chans waits d
VerdictRight me chans waits AllClosed = Unit {0}
VerdictRight me chans waits NoneReady = Unit {0}
VerdictRight me chans waits MustWait = Unit {0}

unready_right : (me : Party) (chans : List Channel) (waits : List Party) (ending : Ending) → VerdictRight me chans waits (unready ending)
unready_right me chans waits NoBlk = tt
unready_right me chans waits End = tt

verdict_on_right : (draw : ℕ) (me : Party) (ending : Ending) (chans : List Channel) (waits : List Party) (ready : List ℕ) → AllAlone me waits → All (HasPassing (is_ready chans waits) me.entries) ready → VerdictRight me chans waits (verdict_on draw me ending chans waits ready)
verdict_on_right draw me ending chans waits [] alone h = unready_right me chans waits ending
verdict_on_right draw me ending chans waits (i ∷ []) alone h = commit_fair me i chans waits alone (h 0 0 (omega arith))
verdict_on_right draw me ending chans waits (i ∷ j ∷ more) alone h =
    commit_fair me (chosen draw (i ∷ j ∷ more)) chans waits alone (h (draw % length (i ∷ j ∷ more)) 0 (in_list draw (length more)))

if_right : (me : Party) (chans : List Channel) (waits : List Party) (b : Bool) (v : Verdict) → VerdictRight me chans waits v → VerdictRight me chans waits (cond b AllClosed v)
if_right me chans waits true v h = tt
if_right me chans waits false v h = h

verdict_right : (draw : ℕ) (me : Party) (ending : Ending) (chans : List Channel) (waits : List Party) → AllAlone me waits → VerdictRight me chans waits (verdict draw me ending chans waits)
verdict_right draw me ending chans waits alone =
    if_right me chans waits (is_closed_list me.entries) _ (verdict_on_right draw me ending chans waits (ready_entries chans waits me.entries) alone (ready_numbers chans waits me.entries))

decided_keeps : (t : ℕ) (r : Request) (a : Alternation) (s : State) (v : Verdict) → alternation_of r ≡ Some a → 1 ≤ t → VerdictRight (party t s.position a) s.chans (parties s.waits) v → Keeps t r s (moved_by v) (decided t r s v)
decided_keeps t r a s AllClosed is made h = stays_keeps t r s _ (done_stays t s Closed (record { nothing = λ u. refl; unsent = refl }))
decided_keeps t r a s (Commits d) is made h = dealt_keeps t r a s d is made h
decided_keeps t r a s NoneReady is made h = stays_keeps t r s _ (done_stays t s NoBlock (record { nothing = λ u. refl; unsent = refl }))
decided_keeps t r a s MustWait is made h = stays_keeps t r s _ (waiting_stays t s r made)

drawn_keeps : (t : ℕ) (r : Request) (entries : List AltEntry) (s : State) (mv : List Move) (o : Outcome) → Keeps t r (with_draw entries s) mv o → Keeps t r s mv o
drawn_keeps t r entries s mv o k = record { silent = k.silent; grows = k.grows; agrees = k.agrees }

by_verdict : (t : ℕ) (r : Request) (a : Alternation) (s : State) (v : Verdict) → alternation_of r ≡ Some a → 1 ≤ t → VerdictRight (party t s.position a) s.chans (parties s.waits) v → Keeps t r s (cond (fits s.chans a.entries) (moved_by v) []) (cond (fits s.chans a.entries) (decided t r (with_draw a.entries s) v) (bad s))
by_verdict t r a s v is made h =
    if_keeps t r s (fits s.chans a.entries) _ _ _ _
    (drawn_keeps t r a.entries s (moved_by v) _ (decided_keeps t r a (with_draw a.entries s) v is made h))
    (stays_keeps t r s _ (bad_stays t s))

pub alt_keeps : (setup : Setup) (t : ℕ) (r : Request) (a : Alternation) (s : State) → alternation_of r ≡ Some a → 1 ≤ t → Keeps t r s (cond (fits s.chans a.entries) (moved_by (verdict_of setup t a s)) []) (alt setup t r a s)
alt_keeps setup t r a s is made =
    by_verdict t r a s (verdict_of setup t a s) is made
    (verdict_right _ (party t s.position a) a.ending s.chans (parties s.waits) (all_alone t s.position r a s.waits is))
