-- What a history keeps of the values that moved, of the elements and of the threads that wait: their positions rise on each
-- channel, each occurs once, and each value was sent by the call at its position.
use Rattle.std.proofs.Common.{◌≡◌, ◌≢◌, inl, inr, ℕ, ◌+◌, ◌-◌, Bool, true, false, cond, eqb, List, [], ◌∷◌, ◌++◌, map, length, Option, Some, None, refl, ap, subst, sym, ◌∙◌, arith}
use Rattle.std.specs.Prelude.{slice_get, All}
use Rattle.std.specs.List.{filter}
use Rattle.std.proofs.lemmas.Bool.{cases_eq}
use Rattle.std.proofs.lemmas.List.{append-nil}
use Rattle.std.proofs.lemmas.List.Elements.{All-nil, All-push, All-filter, All-weaker, filter-append}
use Rattle.p9_word.specs.declared.trail.Entry.{Entry}
use Rattle.p9_manual.specs.declared.state.Channel.{Channel}
use Rattle.p9_manual.specs.declared.state.Element.{Element}
use Rattle.p9_manual.specs.declared.state.Party.{Party}
use Rattle.p9_manual.specs.AltEntries.{sends_on}
use Rattle.p9_laws.specs.Senders.{IsSendOf}
use Rattle.p9_manual.specs.State.{Move, by_id, changed}
use Rattle.p9_laws.proofs.Sound.Counts.{times-push}
use Rattle.p9_laws.proofs.Sound.Places.{by_id-changed_same, by_id-changed_other, by_id-push_same, by_id-push_other, by_id-past}
use Rattle.p9_laws.proofs.Moves.Rising.{Rises, rises_later, rises_less, rises_wait}
use Rattle.p9_laws.proofs.Moves.Counted.{OnceBelow, once_later, once_less, once_more, times_seen, times_same, times_created, times_filter}
use Rattle.p9_laws.proofs.Moves.Senders.{filters_swap}
use Rattle.p9_laws.proofs.Moves.Sent.{Asks, asks_later, sent_later}

-- the positions that the values which left channel c came from, and those of its elements
abbrev pub moved_positions : ℕ → List Move → List ℕ
moved_positions c ms = map (λ m. m.from) (filter (λ m. eqb m.chan c) ms)

abbrev pub held_positions : Option Channel → List ℕ
held_positions None = []
held_positions (Some chan) = map (λ e. e.from) chan.elements

abbrev pub front : ℕ → List Move → Option Channel → List ℕ
front c ms o = moved_positions c ms ++ held_positions o

-- a value that moved was sent on a channel that there is
pub record MovedRightly (H : List Entry) (chans : List Channel) (m : Move) : Type 0 where
  pub chan : Channel
  pub there : by_id chans m.chan ≡ Some chan
  pub sent : IsSendOf m.chan chan.elsize m.bytes (slice_get H m.from)

-- the elements of channel c were sent there
abbrev pub HeldRightly : List Entry → ℕ → Option Channel → Type 0
HeldRightly H c None = Unit {0}
HeldRightly H c (Some chan) = All (λ (e : Element). IsSendOf c chan.elsize e.msg (slice_get H e.from)) chan.elements

-- a thread that waits in an alt asked for it
abbrev pub IsAsked : List Entry → Party → Type 0
IsAsked H w = Asks w.entries (slice_get H w.at)

-- after a history H, whose positions are below n
pub record Kept (H : List Entry) (n : ℕ) (ms : List Move) (chans : List Channel) (waits : List Party) : Type 0 where
  pub rises : (c : ℕ) → Rises n (front c ms (by_id chans c)) (filter (sends_on c) waits)
  pub once : OnceBelow n (times_seen ms chans waits)
  pub moved : All (MovedRightly H chans) ms
  pub held : (c : ℕ) → HeldRightly H c (by_id chans c)
  pub asked : All (IsAsked H) waits

pub kept_later : (H : List Entry) (n : ℕ) (ms : List Move) (chans : List Channel) (waits : List Party) → Kept H n ms chans waits → Kept H (n + 1) ms chans waits
kept_later H n ms chans waits k =
    record {
      rises = λ c. rises_later n (front c ms (by_id chans c)) (filter (sends_on c) waits) (k.rises c);
      once = once_later n (times_seen ms chans waits) k.once;
      moved = k.moved;
      held = k.held;
      asked = k.asked;
    }

held_longer : (H more : List Entry) (c : ℕ) (o : Option Channel) → HeldRightly H c o → HeldRightly (H ++ more) c o
held_longer H more c None h = tt
held_longer H more c (Some chan) h =
    All-weaker (λ (e : Element). IsSendOf c chan.elsize e.msg (slice_get H e.from)) (λ (e : Element). IsSendOf c chan.elsize e.msg (slice_get (H ++ more) e.from))
    (λ e s. sent_later c chan.elsize e.msg H more e.from s) chan.elements h

-- the history goes on
pub kept_longer : (H more : List Entry) (n : ℕ) (ms : List Move) (chans : List Channel) (waits : List Party) → Kept H n ms chans waits → Kept (H ++ more) n ms chans waits
kept_longer H more n ms chans waits k =
    record {
      rises = k.rises;
      once = k.once;
      moved = All-weaker (MovedRightly H chans) (MovedRightly (H ++ more) chans)
          (λ m r. record { chan = r.chan; there = r.there; sent = sent_later m.chan r.chan.elsize m.bytes H more m.from r.sent }) ms k.moved;
      held = λ c. held_longer H more c (by_id chans c) (k.held c);
      asked = All-weaker (IsAsked H) (IsAsked (H ++ more)) (λ w a. asks_later w.entries H more w.at a) waits k.asked;
    }

-- some of the threads no longer wait
pub kept_less : (q : Party → Bool) (H : List Entry) (n : ℕ) (ms : List Move) (chans : List Channel) (waits : List Party) → Kept H n ms chans waits → Kept H n ms chans (filter q waits)
kept_less q H n ms chans waits k =
    record {
      rises = λ c. subst (λ ws. Rises n (front c ms (by_id chans c)) ws) (filters_swap q (sends_on c) waits) (rises_less q n (front c ms (by_id chans c)) (filter (sends_on c) waits) (k.rises c));
      once = once_less n (times_seen ms chans waits) (times_seen ms chans (filter q waits)) (λ p. let t = times_filter (λ (w : Party). eqb w.at p) q waits in omega (arith, t)) k.once;
      moved = k.moved;
      held = k.held;
      asked = All-filter q (IsAsked H) waits k.asked;
    }

wait_step : (n : ℕ) (ns : List ℕ) (ws : List Party) (w : Party) (b : Bool) → w.at ≡ n → Rises n ns ws → Rises (n + 1) ns (ws ++ cond b (w ∷ []) [])
wait_step n ns ws w true at r = rises_wait n ns ws w at r
wait_step n ns ws w false at r = rw append-nil (rises_later n ns ws r)

-- one more waits, in an alt that it asked for just now
pub kept_waits : (H : List Entry) (n : ℕ) (ms : List Move) (chans : List Channel) (waits : List Party) (w : Party) → w.at ≡ n → IsAsked H w → Kept H n ms chans waits → Kept H (n + 1) ms chans (waits ++ w ∷ [])
kept_waits H n ms chans waits w at asked k =
    record {
      rises = λ c. rw (filter-append (sends_on c) waits (w ∷ [])) (wait_step n (front c ms (by_id chans c)) (filter (sends_on c) waits) w (sends_on c w) at (k.rises c));
      once = once_more n (times_seen ms chans waits) (times_seen ms chans (waits ++ w ∷ []))
          (λ p. let e : eqb w.at p ≡ eqb n p = rw at refl in let t = times-push (λ (u : Party). eqb u.at p) (eqb n p) waits w e in omega (arith, t)) k.once;
      moved = k.moved;
      held = k.held;
      asked = All-push (IsAsked H) waits w k.asked asked;
    }

-- the channels that there are stay, and so do the sizes of their elements
abbrev pub Sized : List Channel → List Channel → Type 0
Sized chans later = (d : ℕ) (chan : Channel) → by_id chans d ≡ Some chan → (new : Channel) × (by_id later d ≡ Some new) × (new.elsize ≡ chan.elsize)

move_later : (H : List Entry) (chans later : List Channel) (m : Move) (chan new : Channel) → by_id later m.chan ≡ Some new → new.elsize ≡ chan.elsize → IsSendOf m.chan chan.elsize m.bytes (slice_get H m.from) → MovedRightly H later m
move_later H chans later m chan new there same sent =
    record { chan = new; there = there; sent = subst (λ size. IsSendOf m.chan size m.bytes (slice_get H m.from)) (sym same) sent }

pub moved_later : (H : List Entry) (chans later : List Channel) (ms : List Move) → Sized chans later → All (MovedRightly H chans) ms → All (MovedRightly H later) ms
moved_later H chans later ms sized h =
    All-weaker (MovedRightly H chans) (MovedRightly H later)
    (λ m r. let s = sized m.chan r.chan r.there in move_later H chans later m r.chan s.0 s.1 s.2 r.sent) ms h

-- what is known of each channel after one was changed
pub each_channel : (P : ℕ → Option Channel → Type 0) (f : Channel → Channel) (chans : List Channel) (c : ℕ) (chan : Channel) → by_id chans c ≡ Some chan → P c (Some (f chan)) → ((d : ℕ) → d ≢ c → P d (by_id chans d)) → (d : ℕ) → P d (by_id (changed f chans (c - 1)) d)
each_channel P f chans c chan at here others d =
    elim (cases_eq d c) [
      | inl e ↦ subst (λ (k : ℕ). P k (by_id (changed f chans (c - 1)) k)) (sym e) (subst (λ (o : Option Channel). P c o) (sym (by_id-changed_same f chans c chan at)) here)
      | inr ne ↦ subst (λ (o : Option Channel). P d o) (sym (by_id-changed_other f chans c d chan at ne)) (others d ne)
    ]

abbrev SizedAt : List Channel → ℕ → Option Channel → Type 0
SizedAt chans d o = (chan : Channel) → by_id chans d ≡ Some chan → (new : Channel) × (o ≡ Some new) × (new.elsize ≡ chan.elsize)

size_step : (x y z : Channel) (o : Option Channel) → z.elsize ≡ x.elsize → o ≡ Some x → o ≡ Some y → z.elsize ≡ y.elsize
size_step x y z o h e f = let same : x ≡ y = cc in rw h (rw same refl)

pub sized_changed : (f : Channel → Channel) → ((x : Channel) → (f x).elsize ≡ x.elsize) → (chans : List Channel) (c : ℕ) (chan : Channel) → by_id chans c ≡ Some chan → Sized chans (changed f chans (c - 1))
sized_changed f same chans c chan at =
    each_channel (SizedAt chans) f chans c chan at
    (λ old there. (f chan, refl, size_step chan old (f chan) (by_id chans c) (same chan) at there))
    (λ d ne old there. (old, there, refl))

-- a channel is closed or freed: its elements and their size stay
pub kept_changed : (f : Channel → Channel) → ((x : Channel) → (f x).elements ≡ x.elements) → ((x : Channel) → (f x).elsize ≡ x.elsize) → (H : List Entry) (n : ℕ) (ms : List Move) (chans : List Channel) (waits : List Party) (c : ℕ) (chan : Channel) → by_id chans c ≡ Some chan → Kept H n ms chans waits → Kept H n ms (changed f chans (c - 1)) waits
kept_changed f elements elsize H n ms chans waits c chan at k =
    let rises : Rises n (front c ms (Some chan)) (filter (sends_on c) waits) = subst (λ (o : Option Channel). Rises n (front c ms o) (filter (sends_on c) waits)) at (k.rises c) in
    let held : HeldRightly H c (Some chan) = subst (λ (o : Option Channel). HeldRightly H c o) at (k.held c) in
    record {
      rises = each_channel (λ d o. Rises n (front d ms o) (filter (sends_on d) waits)) f chans c chan at (rw (elements chan) rises) (λ d ne. k.rises d);
      once = once_less n (times_seen ms chans waits) (times_seen ms (changed f chans (c - 1)) waits) (λ p. let t = times_same (λ (e : Element). eqb e.from p) f elements chans (c - 1) in omega (arith, t)) k.once;
      moved = moved_later H chans (changed f chans (c - 1)) ms (sized_changed f elsize chans c chan at) k.moved;
      held = each_channel (HeldRightly H) f chans c chan at (rw (elements chan, elsize chan) held) (λ d ne. k.held d);
      asked = k.asked;
    }

-- what is known of each channel after one without elements was made
made_channel : (P : Option Channel → Type 0) (chans : List Channel) (y : Channel) → (P None → P (Some y)) → (d : ℕ) → P (by_id chans d) → P (by_id (chans ++ y ∷ []) d)
made_channel P chans y new d h =
    elim (cases_eq d (length chans + 1)) [
      | inl e ↦ subst P (sym (ap (by_id (chans ++ y ∷ [])) e ∙ by_id-push_same y chans)) (new (subst P (ap (by_id chans) e ∙ by_id-past chans) h))
      | inr ne ↦ subst P (sym (by_id-push_other y chans d ne)) h
    ]

sized_created : (chans : List Channel) (y : Channel) → Sized chans (chans ++ y ∷ [])
sized_created chans y d chan at =
    made_channel (λ (o : Option Channel). (new : Channel) × (o ≡ Some new) × (new.elsize ≡ chan.elsize)) chans y (λ gone. cc (gone.1)) d (chan, at, refl)

pub kept_created : (y : Channel) → y.elements ≡ [] → (H : List Entry) (n : ℕ) (ms : List Move) (chans : List Channel) (waits : List Party) → Kept H n ms chans waits → Kept H n ms (chans ++ y ∷ []) waits
kept_created y none H n ms chans waits k =
    record {
      rises = λ c. made_channel (λ (o : Option Channel). Rises n (front c ms o) (filter (sends_on c) waits)) chans y (λ h. rw none h) c (k.rises c);
      once = once_less n (times_seen ms chans waits) (times_seen ms (chans ++ y ∷ []) waits) (λ p. let t = times_created (λ (e : Element). eqb e.from p) y none chans in omega (arith, t)) k.once;
      moved = moved_later H chans (chans ++ y ∷ []) ms (sized_created chans y) k.moved;
      held = λ c. made_channel (HeldRightly H c) chans y (λ h. rw none (All-nil (λ (e : Element). IsSendOf c y.elsize e.msg (slice_get H e.from)))) c (k.held c);
      asked = k.asked;
    }
