-- An element that comes to a channel, of the caller or of a thread that waits to send, and one that leaves.
use Rattle.std.proofs.Common.{◌≡◌, ◌≢◌, ℕ, zero, suc, ◌+◌, ◌-◌, Bool, true, false, cond, eqb, List, [], ◌∷◌, ◌++◌, map, Option, Some, refl, ap, subst, ◌∙◌, arith, rules, tests, append_assoc}
use Rattle.std.specs.Prelude.{slice_get, All}
use Rattle.std.specs.List.{filter, find}
use Rattle.std.proofs.lemmas.List.{append-nil}
use Rattle.std.proofs.lemmas.List.Elements.{All-head, All-tail, All-push, All-filter}
use Rattle.p9_word.specs.declared.trail.Entry.{Entry}
use Rattle.p9_manual.specs.declared.state.Channel.{Channel}
use Rattle.p9_manual.specs.declared.state.Element.{Element}
use Rattle.p9_manual.specs.declared.state.Party.{Party}
use Rattle.p9_manual.specs.AltEntries.{sends_on}
use Rattle.p9_manual.specs.Commit.{holding, with_elements}
use Rattle.p9_laws.specs.Senders.{IsSendOf}
use Rattle.p9_manual.specs.State.{Move, by_id, changed}
use Rattle.p9_manual.specs.Standing.{times}
use Rattle.p9_laws.proofs.Sound.Counts.{times-push}
use Rattle.p9_laws.proofs.Sound.Places.{by_id-changed_same, get_from_by_id}
use Rattle.p9_laws.proofs.Moves.Rising.{Rises, rises_later, rises_less, rises_put, rises_take}
use Rattle.p9_laws.proofs.Moves.Counted.{once_less, once_more, times_seen, times_holding, times_found}
use Rattle.p9_laws.proofs.Moves.Senders.{filters_swap, found_first, not_of, is_itself}
use Rattle.p9_laws.proofs.Moves.Kept.{Kept, HeldRightly, MovedRightly, IsAsked, moved_positions, front, each_channel, sized_changed, moved_later}

positions_push : (x : Element) → (xs : List Element) → map (λ (e : Element). e.from) (xs ++ x ∷ []) ≡ map (λ (e : Element). e.from) xs ++ x.from ∷ []
positions_push x [] = refl
positions_push x (y ∷ ys) = rw (positions_push x ys) refl

front_push : (c : ℕ) (ms : List Move) (chan : Channel) (x : Element) → front c ms (Some (holding (chan.elements ++ x ∷ []) chan)) ≡ front c ms (Some chan) ++ x.from ∷ []
front_push c ms chan x = rw (positions_push x chan.elements, append_assoc) refl

rises_at : (H : List Entry) (n : ℕ) (ms : List Move) (chans : List Channel) (waits : List Party) (c : ℕ) (chan : Channel) → by_id chans c ≡ Some chan → Kept H n ms chans waits → Rises n (front c ms (Some chan)) (filter (sends_on c) waits)
rises_at H n ms chans waits c chan at k = subst (λ (o : Option Channel). Rises n (front c ms o) (filter (sends_on c) waits)) at (k.rises c)

held_at : (H : List Entry) (n : ℕ) (ms : List Move) (chans : List Channel) (waits : List Party) (c : ℕ) (chan : Channel) → by_id chans c ≡ Some chan → Kept H n ms chans waits → HeldRightly H c (Some chan)
held_at H n ms chans waits c chan at k = subst (λ (o : Option Channel). HeldRightly H c o) at (k.held c)

moved_at : (H : List Entry) (elements : List Element) (ms : List Move) (chans : List Channel) (c : ℕ) (chan : Channel) → by_id chans c ≡ Some chan → All (MovedRightly H chans) ms → All (MovedRightly H (with_elements c elements chans)) ms
moved_at H elements ms chans c chan at h = moved_later H chans (with_elements c elements chans) ms (sized_changed (holding elements) (λ x. refl) chans c chan at) h

held_push : (H : List Entry) (c : ℕ) (chan : Channel) (x : Element) → IsSendOf c chan.elsize x.msg (slice_get H x.from) → HeldRightly H c (Some chan) → HeldRightly H c (Some (holding (chan.elements ++ x ∷ []) chan))
held_push H c chan x sent h = All-push (λ (e : Element). IsSendOf c chan.elsize e.msg (slice_get H e.from)) chan.elements x h sent

-- the caller's value comes last, where nobody waits to send
pub kept_put : (H : List Entry) (n : ℕ) (ms : List Move) (chans : List Channel) (waits : List Party) (c : ℕ) (chan : Channel) (x : Element) → by_id chans c ≡ Some chan → filter (sends_on c) waits ≡ [] → x.from ≡ n → IsSendOf c chan.elsize x.msg (slice_get H x.from) → Kept H n ms chans waits → Kept H (n + 1) ms (with_elements c (chan.elements ++ x ∷ []) chans) waits
kept_put H n ms chans waits c chan x at none from sent k =
    let before : Rises n (front c ms (Some chan)) [] = subst (λ ws. Rises n (front c ms (Some chan)) ws) none (rises_at H n ms chans waits c chan at k) in
    let more : List Element = chan.elements ++ x ∷ [] in
    record {
      rises = each_channel (λ d o. Rises (n + 1) (front d ms o) (filter (sends_on d) waits)) (holding more) chans c chan at
          (rw (none, front_push c ms chan x, from) (rises_put n (front c ms (Some chan)) before))
          (λ d ne. rises_later n (front d ms (by_id chans d)) (filter (sends_on d) waits) (k.rises d));
      once = once_more n (times_seen ms chans waits) (times_seen ms (with_elements c more chans) waits)
          (λ p. let e : eqb x.from p ≡ eqb n p = rw from refl in
          let t = times_holding (λ (y : Element). eqb y.from p) more chans c chan at in
          let u = times-push (λ (y : Element). eqb y.from p) (eqb n p) chan.elements x e in
          omega (arith, t, u)) k.once;
      moved = moved_at H more ms chans c chan at k.moved;
      held = each_channel (HeldRightly H) (holding more) chans c chan at (held_push H c chan x sent (held_at H n ms chans waits c chan at k)) (λ d ne. k.held d);
      asked = k.asked;
    }

rest_kept : (w : Party) (rest : List Party) → filter (not_of w.tid) (w ∷ rest) ≡ filter (not_of w.tid) rest
rest_kept w rest = rw (is_itself w.tid) refl

-- the value of the first thread that waits to send comes last, and that thread waits no longer
pub kept_refill : (H : List Entry) (n : ℕ) (ms : List Move) (chans : List Channel) (waits : List Party) (c : ℕ) (chan : Channel) (w : Party) (x : Element) → by_id chans c ≡ Some chan → find (sends_on c) waits ≡ Some w → x.from ≡ w.at → IsSendOf c chan.elsize x.msg (slice_get H x.from) → Kept H n ms chans waits → Kept H n ms (with_elements c (chan.elements ++ x ∷ []) chans) (filter (not_of w.tid) waits)
kept_refill H n ms chans waits c chan w x at found from sent k =
    let more : List Element = chan.elements ++ x ∷ [] in
    let first = found_first (sends_on c) w waits found in
    let before : Rises n (front c ms (Some chan)) (w ∷ first.0) = subst (λ ws. Rises n (front c ms (Some chan)) ws) first.1 (rises_at H n ms chans waits c chan at k) in
    let taken : Rises n (front c ms (Some chan) ++ w.at ∷ []) (filter (not_of w.tid) first.0) =
    rises_less (not_of w.tid) n (front c ms (Some chan) ++ w.at ∷ []) first.0 (rises_take n (front c ms (Some chan)) w first.0 before) in
    let left : filter (sends_on c) (filter (not_of w.tid) waits) ≡ filter (not_of w.tid) first.0 =
    filters_swap (sends_on c) (not_of w.tid) waits ∙ ap (filter (not_of w.tid)) first.1 ∙ rest_kept w first.0 in
    record {
      rises = each_channel (λ d o. Rises n (front d ms o) (filter (sends_on d) (filter (not_of w.tid) waits))) (holding more) chans c chan at
          (rw (left, front_push c ms chan x, from) taken)
          (λ d ne. subst (λ ws. Rises n (front d ms (by_id chans d)) ws) (filters_swap (not_of w.tid) (sends_on d) waits) (rises_less (not_of w.tid) n (front d ms (by_id chans d)) (filter (sends_on d) waits) (k.rises d)));
      once = once_less n (times_seen ms chans waits) (times_seen ms (with_elements c more chans) (filter (not_of w.tid) waits))
          (λ p. let e : eqb x.from p ≡ eqb w.at p = rw from refl in
          let t = times_holding (λ (y : Element). eqb y.from p) more chans c chan at in
          let u = times-push (λ (y : Element). eqb y.from p) (eqb w.at p) chan.elements x e in
          let v = times_found (sends_on c) (λ (y : Party). eqb y.at p) (λ (y : Party). eqb y.tid w.tid) w (is_itself w.tid) waits found in
          omega (arith, t, u, v)) k.once;
      moved = moved_at H more ms chans c chan at k.moved;
      held = each_channel (HeldRightly H) (holding more) chans c chan at (held_push H c chan x sent (held_at H n ms chans waits c chan at k)) (λ d ne. k.held d);
      asked = All-filter (not_of w.tid) (IsAsked H) waits k.asked;
    }

moved_more : (c : ℕ) (ms : List Move) (m : Move) (b : Bool) → eqb m.chan c ≡ b → moved_positions c (ms ++ m ∷ []) ≡ moved_positions c ms ++ cond b (m.from ∷ []) []
moved_more c [] m true e = rw e refl
moved_more c [] m false e = rw e refl
moved_more c (x ∷ ms) m b e = step (eqb x.chan c) x.from (filter (λ y. eqb y.chan c) ms) (filter (λ y. eqb y.chan c) (ms ++ m ∷ [])) x (moved_more c ms m b e)
  where
    step : (a : Bool) (n : ℕ) (xs ys : List Move) (y : Move) → map (λ (z : Move). z.from) ys ≡ map (λ (z : Move). z.from) xs ++ cond b (m.from ∷ []) [] → map (λ (z : Move). z.from) (cond a (y ∷ ys) ys) ≡ map (λ (z : Move). z.from) (cond a (y ∷ xs) xs) ++ cond b (m.from ∷ []) []
    step true n xs ys y h = ap (λ ns. y.from ∷ ns) h
    step false n xs ys y h = h

other_chan : (c d : ℕ) → d ≢ c → eqb c d ≡ false
other_chan c d ne = search (rules, tests)

-- the front element leaves
pub kept_leave : (H : List Entry) (n : ℕ) (ms : List Move) (chans : List Channel) (waits : List Party) (c : ℕ) (chan : Channel) (x : Element) (rest : List Element) (to : ℕ) → by_id chans c ≡ Some chan → chan.elements ≡ x ∷ rest → Kept H n ms chans waits → Kept H n (ms ++ record { chan = c; from = x.from; to = to; bytes = x.msg } ∷ []) (with_elements c rest chans) waits
kept_leave H n ms chans waits c chan x rest to at is k =
    let m : Move = record { chan = c; from = x.from; to = to; bytes = x.msg } in
    let later : List Channel = with_elements c rest chans in
    let held : HeldRightly H c (Some chan) = held_at H n ms chans waits c chan at k in
    let sent : All (λ (e : Element). IsSendOf c chan.elsize e.msg (slice_get H e.from)) (x ∷ rest) = subst (λ es. All (λ (e : Element). IsSendOf c chan.elsize e.msg (slice_get H e.from)) es) is held in
    let same : front c (ms ++ m ∷ []) (Some (holding rest chan)) ≡ front c ms (Some chan) = rw (moved_more c ms m true (is_itself c), is, append_assoc) refl in
    record {
      rises = each_channel (λ d o. Rises n (front d (ms ++ m ∷ []) o) (filter (sends_on d) waits)) (holding rest) chans c chan at
          (rw same (rises_at H n ms chans waits c chan at k))
          (λ d ne. rw (moved_more d ms m false (other_chan c d ne), append-nil) (k.rises d));
      once = once_less n (times_seen ms chans waits) (times_seen (ms ++ m ∷ []) later waits)
          (λ p. let t = times_holding (λ (y : Element). eqb y.from p) rest chans c chan at in
          let u = ap (times (λ (y : Element). eqb y.from p)) is in
          let v = times-push (λ (y : Move). eqb y.from p) (eqb x.from p) ms m refl in
          omega (arith, t, u, v)) k.once;
      moved = All-push (MovedRightly H later) ms m (moved_at H rest ms chans c chan at k.moved)
          (record { chan = holding rest chan; there = by_id-changed_same (holding rest) chans c chan at; sent = All-head (λ (e : Element). IsSendOf c chan.elsize e.msg (slice_get H e.from)) x rest sent });
      held = each_channel (HeldRightly H) (holding rest) chans c chan at (All-tail (λ (e : Element). IsSendOf c chan.elsize e.msg (slice_get H e.from)) x rest sent) (λ d ne. k.held d);
      asked = k.asked;
    }

changed_twice : (es fs : List Element) → (chans : List Channel) (i : ℕ) → changed (holding es) (changed (holding fs) chans i) i ≡ changed (holding es) chans i
changed_twice es fs [] i = refl
changed_twice es fs (x ∷ xs) zero = refl
changed_twice es fs (x ∷ xs) (suc i) = ap (λ ys. x ∷ ys) (changed_twice es fs xs i)

-- of two changes of a channel's elements the second counts
pub elements_twice : (c : ℕ) (es fs : List Element) (chans : List Channel) → with_elements c es (with_elements c fs chans) ≡ with_elements c es chans
elements_twice c es fs chans = changed_twice es fs chans (c - 1)

changed_back : (chans : List Channel) (i : ℕ) (chan : Channel) → slice_get chans i ≡ Some chan → changed (holding chan.elements) chans i ≡ chans
changed_back [] i chan e = refl
changed_back (x ∷ xs) zero chan e = let same : x ≡ chan = cc in rw same refl
changed_back (x ∷ xs) (suc i) chan e = ap (λ ys. x ∷ ys) (changed_back xs i chan e)

-- the channels are as they were once a channel has its own elements
pub elements_back : (c : ℕ) (chans : List Channel) (chan : Channel) → by_id chans c ≡ Some chan → with_elements c chan.elements chans ≡ chans
elements_back c chans chan e = changed_back chans (c - 1) chan (get_from_by_id chans c chan e)
