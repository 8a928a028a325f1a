-- What a request that closes a channel comes to.
use Rattle.std.proofs.Common.{◌≡◌, ℕ, ◌-◌, ◌≤◌, Bool, true, false, not, cond, List, [], ◌∷◌, map, refl, ap, sym, ◌∙◌, subst, arith}
use Rattle.std.specs.Prelude.{All, ◌==◌}
use Rattle.std.specs.List.{filter}
use Rattle.std.proofs.lemmas.List.Elements.{All-nil, All-cons, All-head, All-tail}
use Rattle.rand_pcg.specs.Lcg.{Lcg}
use Rattle.p9_word.specs.declared.answer.Answer.{Answer}
use Rattle.p9_word.specs.declared.answer.Answer.TheVariants.{Number, Bad}
use Rattle.p9_word.specs.declared.setup.Setup.{Setup}
use Rattle.p9_word.specs.declared.trail.Reply.TheVariants.{Now}
use Rattle.p9_manual.specs.declared.state.Party.{Party}
use Rattle.p9_manual.specs.Close.{closed_chan, failed_on, all_failed, close_channel, close}
use Rattle.p9_manual.specs.AltEntries.{waits_on, first_number, is_on}
use Rattle.p9_manual.specs.Offers.{parties}
use Rattle.p9_manual.specs.ReadyEntries.{unfreed}
use Rattle.p9_manual.specs.Standing.{times, place_of}
use Rattle.p9_manual.specs.State.{State, Outcome, by_id, changed, now}
use Rattle.p9_manual.specs.Draws.{generator_after}
use Rattle.p9_chan.specs.Channels.{is_live_in, is_closed_in}
use Rattle.p9_alt.specs.declared.offer.Wake.{Wake}
use Rattle.p9_alt.specs.Exchange.{Exchange, pair_of, closed_on}
use Rattle.p9_alt.specs.For.{AltsFor}
use Rattle.p9_sched.specs.Schedule.{Schedule}
use Rattle.p9_chan_calls.specs.For.{IsAt, PartsFor}
use Rattle.p9_chan_calls.specs.Serves.{Serves, Leaves, is_in_call}
use Rattle.p9_sched.specs.Stands.{SchedFor, Tracks}
use Rattle.p9_chan_calls.specs.Wakes.{pairs_of, all_readied, AreWaiting, IsFailure}
use Rattle.p9_chan_calls.proofs.Alike.{alike_close}
use Rattle.p9_chan_calls.proofs.Closing.{all_left, WaitOnce, failed_counts, closed_parties}
use Rattle.p9_chan_calls.proofs.Frames.{all_readied_moves, same_by}
use Rattle.p9_chan_calls.proofs.InCalls.{WaitIn, calls_left}
use Rattle.p9_chan_calls.proofs.InLocks.{held_stays, locks_by_calls, woken_readied}
use Rattle.p9_chan_calls.proofs.Offering.{counted}
use Rattle.p9_chan_calls.proofs.OnChannels.{none_there, some_there, serves_now}
use Rattle.p9_chan_calls.proofs.Parties.{is_tid, times_parties}
use Rattle.p9_chan_calls.proofs.Waken.{at_most_one}

failure : (c : ℕ) (p : Party) → IsFailure (failed_on c p).1
failure c p = (p.single, first_number (is_on c) p.entries, refl)

all_failures : (c : ℕ) → (ps : List Party) → All (λ w. IsFailure w.1) (map (failed_on c) ps)
all_failures c [] = All-nil (λ (w : ℕ × Answer). IsFailure w.1)
all_failures c (p ∷ ps) = All-cons (λ (w : ℕ × Answer). IsFailure w.1) (failed_on c p) (map (failed_on c) ps) (failure c p) (all_failures c ps)

wakes_fail : (wakes : List Wake) → All (λ w. IsFailure w.1) (pairs_of wakes) → All (λ w. IsFailure w.answer) wakes
wakes_fail [] h = All-nil (λ (w : Wake). IsFailure w.answer)
wakes_fail (w ∷ ws) h =
    All-cons (λ (x : Wake). IsFailure x.answer) w ws (All-head (λ (x : ℕ × Answer). IsFailure x.1) (pair_of w) (pairs_of ws) h) (wakes_fail ws (All-tail (λ (x : ℕ × Answer). IsFailure x.1) (pair_of w) (pairs_of ws) h))

-- each of those that are woken is told that the channel is closed
pub told_closed : (c : ℕ) (ps : List Party) (wakes : List Wake) → pairs_of wakes ≡ all_failed c ps → All (λ w. IsFailure w.answer) wakes
told_closed c ps wakes e =
    wakes_fail wakes (subst (λ (ws : List (ℕ × Answer)). All (λ w. IsFailure w.1) ws) (sym e) (all_failures c (filter (waits_on c) ps)))

open_if : (b : Bool) (c : ℕ) (s : State) → b ≡ false → cond b (now (Number 0) s) (close_channel c s) ≡ close_channel c s
open_if b c s e = rw e refl

closed_if : (b : Bool) (c : ℕ) (s : State) → b ≡ true → cond b (now (Number 0) s) (close_channel c s) ≡ now (Number 0) s
closed_if b c s e = rw e refl

-- whether the channel was closed before
pub was_closed : (first closed : Bool) → first ≡ not closed → first ≡ false → closed ≡ true
was_closed first true e f = refl
was_closed first false e f = absurd (cc (e, f))

pub was_open : (first closed : Bool) → first ≡ not closed → first ≡ true → closed ≡ false
was_open first true e f = absurd (cc (e, f))
was_open first false e f = refl

module _ (setup : Setup) (at : ℕ) (sched : Schedule) (old : Exchange) (generator : Lcg) (s : State) (c : ℕ) (h : IsAt setup at sched old generator s) where
  -- no such channel is there
  pub close_none : is_live_in (by_id old.channels.chans c) ≡ false → Serves setup s (close c s (unfreed (by_id s.chans c))) (Now Bad) sched old generator
  close_none dead = serves_now Bad setup sched old generator s _ (ap (close c s) (none_there old s c dead h.parts.channels)) h.parts

  -- it was closed before
  pub close_again : is_live_in (by_id old.channels.chans c) ≡ true → is_closed_in (by_id old.channels.chans c) ≡ true → Serves setup s (close c s (unfreed (by_id s.chans c))) (Now (Number 0)) sched old generator
  close_again live k =
      let there = some_there old s c live h.parts.channels in
      let shut : there.chan.closed ≡ true = sym (ap is_closed_in there.here) ∙ k in
      serves_now (Number 0) setup sched old generator s _ (ap (close c s) there.named ∙ closed_if there.chan.closed c s shut) h.parts

  -- each thread waits once at most
  pub once : (t : ℕ) → times (λ w. w.tid == t) s.waits ≤ 1
  once t = let n = counted setup at sched old generator s h t in let one = at_most_one (place_of sched.threads t) in omega arith

  once_each : WaitOnce (parties s.waits)
  once_each t = let few = times_parties t s.waits in let one = once t in omega arith

  -- those that wait on the channel wait, each once
  pub failed_wait : (ws : List (ℕ × Answer)) → ws ≡ all_failed c old.waits → AreWaiting sched.threads ws
  failed_wait ws e = record {
    wait = λ t.
        let fails = failed_counts (waits_on c) c t old.waits in
        let same : times (is_tid t) old.waits ≡ times (is_tid t) (parties s.waits) = ap (times (is_tid t)) h.parts.channels.waits in
        let few = times_parties t s.waits in
        let stands = counted setup at sched old generator s h t in
        rw e (omega arith);
  }

  all_wait_in : WaitIn (all_failed c (parties s.waits)) s.waits
  all_wait_in = record { once = once; stand = λ t. failed_counts (waits_on c) c t (parties s.waits) }

  -- the state before anybody is told
  abbrev closed_state : State
  closed_state =
      record s { waits = all_left (all_failed c (parties s.waits)) s.waits; chans = changed closed_chan s.chans (c - 1) }

  closed_alts : AltsFor (closed_on c old) closed_state
  closed_alts = record {
    waits = ap (filter (λ w. not (waits_on c w))) h.parts.channels.waits ∙ sym (closed_parties c s.waits once_each);
    chans = alike_close old.channels.chans s.chans c h.parts.channels.chans;
  }

  closed_serves : (woken : Schedule) → Tracks (all_readied (all_failed c (parties s.waits))) sched woken → Serves setup s (close_channel c s) (Now (Number 1)) woken (closed_on c old) generator
  closed_serves woken wakes =
      let ws = all_failed c (parties s.waits) in
      let n = all_readied ws closed_state in
      let moves = all_readied_moves ws closed_state in
      let p = h.parts in
      let left = all_left ws s.waits in
      let calls = calls_left ws s.waits all_wait_in in
      let k = held_stays setup.places sched s left (locks_by_calls left s.waits calls) p.threads in
      let start : SchedFor setup.places sched closed_state = record { threads = k.threads; lines = k.lines; words = k.words; opened = k.opened; count = k.count; held = record { held = k.held.held } } in
      let is : (close_channel c s).state ≡ n = woken_readied ws (record s { chans = changed closed_chan s.chans (c - 1) }) all_wait_in in
      record {
        reply_is = refl;
        parts = subst (λ (x : State). PartsFor setup woken (closed_on c old) generator x) (sym is) (record {
          threads = wakes setup.places closed_state start;
          channels = subst (λ (x : State). AltsFor (closed_on c old) x) (sym moves) (record { waits = closed_alts.waits; chans = closed_alts.chans });
          drawn = p.drawn ∙ ap (λ (x : State). generator_after setup.start x.draws) (sym moves);
        });
        leaves = subst (λ (x : State). Leaves s x) (sym is) (record {
          same = same_by s n _ _ _ _ _ moves;
          calls = ap (λ (x : State). filter is_in_call x.waits) moves ∙ calls;
        });
        entry = refl;
      }

  -- it is closed, and each thread that waited on it is ready
  pub close_serves : (woken : Schedule) (new : Exchange) (ws : List (ℕ × Answer)) → is_live_in (by_id old.channels.chans c) ≡ true → is_closed_in (by_id old.channels.chans c) ≡ false → new ≡ closed_on c old → ws ≡ all_failed c old.waits → Tracks (all_readied ws) sched woken → Serves setup s (close c s (unfreed (by_id s.chans c))) (Now (Number 1)) woken new generator
  close_serves woken new ws live k e f wakes =
      let there = some_there old s c live h.parts.channels in
      let still : there.chan.closed ≡ false = sym (ap is_closed_in there.here) ∙ k in
      let outcome : close c s (unfreed (by_id s.chans c)) ≡ close_channel c s = ap (close c s) there.named ∙ open_if there.chan.closed c s still in
      let fails : ws ≡ all_failed c (parties s.waits) = f ∙ ap (all_failed c) h.parts.channels.waits in
      let tracks = subst (λ (vs : List (ℕ × Answer)). Tracks (all_readied vs) sched woken) fails wakes in
      subst (λ (o : Outcome). Serves setup s o (Now (Number 1)) woken new generator) (sym outcome) (subst (λ (x : Exchange). Serves setup s (close_channel c s) (Now (Number 1)) woken x generator) (sym e) (closed_serves woken tracks))
