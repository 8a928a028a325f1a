-- What the requests that make, free and close channels come to.
use Rattle.std.proofs.Common.{◌≡◌, ℕ, ◌-◌, ◌+◌, Bool, true, false, cond, List, [], ◌∷◌, ◌++◌, length, Option, Some, None, refl, ap, sym, ◌∙◌}
use Rattle.std.specs.Prelude.{nat_le}
use Rattle.rand_pcg.specs.Lcg.{Lcg}
use Rattle.p9_word.specs.declared.limits.TheConstants.{MOST_CHANNELS}
use Rattle.p9_word.specs.declared.answer.Answer.{Answer}
use Rattle.p9_word.specs.declared.answer.Answer.TheVariants.{Bad, Done, Number, Minus}
use Rattle.p9_word.specs.declared.setup.Setup.{Setup}
use Rattle.p9_word.specs.declared.trail.Reply.TheVariants.{Now}
use Rattle.p9_manual.specs.declared.state.Channel.{Channel}
use Rattle.p9_manual.specs.Chans.{is_no_size, empty_channel, create_channel}
use Rattle.p9_manual.specs.Close.{freed_chan, free, closing}
use Rattle.p9_manual.specs.ReadyEntries.{unfreed}
use Rattle.p9_manual.specs.State.{State, Outcome, by_id, changed, now}
use Rattle.p9_chan.specs.Channels.{is_live_in, left_in, with_new, emptied, freed}
use Rattle.p9_alt.specs.Exchange.{Exchange}
use Rattle.p9_alt.specs.For.{AltsFor, AreAlike}
use Rattle.p9_sched.specs.Schedule.{Schedule}
use Rattle.p9_chan_calls.specs.For.{PartsFor}
use Rattle.p9_chan_calls.specs.Serves.{Serves, ServesAlone}
use Rattle.p9_chan_calls.proofs.Alike.{alike_length, alike_unfreed, alike_live, alike_free, alike_emptied, alike_push}

-- an answer at once that changes nothing
pub serves_now : (a : Answer) (setup : Setup) (sched : Schedule) (alts : Exchange) (generator : Lcg) (s : State) (o : Outcome) → o ≡ now a s → PartsFor setup sched alts generator s → Serves setup s o (Now a) sched alts generator
serves_now a setup sched alts generator s o e p = rw e (record {
  reply_is = refl;
  parts = p;
  leaves = record { same = refl; calls = refl };
  entry = refl;
})

-- one after which the channels are these
pub serves_chans : (a : Answer) (chans : List Channel) (setup : Setup) (sched : Schedule) (old new : Exchange) (generator : Lcg) (s : State) (o : Outcome) → o ≡ now a (record s { chans = chans }) → new.waits ≡ old.waits → AreAlike new.channels.chans chans → PartsFor setup sched old generator s → Serves setup s o (Now a) sched new generator
serves_chans a chans setup sched old new generator s o e w c p = rw e (record {
  reply_is = refl;
  parts = record {
    threads = record { threads = p.threads.threads; lines = p.threads.lines; words = p.threads.words; opened = p.threads.opened; count = p.threads.count; held = record { held = p.threads.held.held } };
    channels = record { waits = w ∙ p.channels.waits; chans = c };
    drawn = p.drawn;
  };
  leaves = record { same = refl; calls = refl };
  entry = refl;
})

not_live_if : (b : Bool) (chan : Channel) → cond b false true ≡ false → cond b None (Some chan) ≡ None
not_live_if true chan h = refl
not_live_if false chan h = absurd (cc h)

-- a channel that isn't live may not be named
not_live : (o : Option Channel) → is_live_in o ≡ false → unfreed o ≡ None
not_live None h = refl
not_live (Some chan) h = not_live_if chan.freed chan h

live_if : (b : Bool) (chan : Channel) → cond b false true ≡ true → cond b None (Some chan) ≡ Some chan
live_if true chan h = absurd (cc h)
live_if false chan h = refl

live : (o : Option Channel) → is_live_in o ≡ true → (chan : Channel) × (unfreed o ≡ Some chan)
live None h = absurd (cc h)
live (Some chan) h = (chan, live_if chan.freed chan h)

-- a request that names a channel that isn't live
pub none_there : (alts : Exchange) (s : State) (c : ℕ) → is_live_in (by_id alts.channels.chans c) ≡ false → AltsFor alts s → unfreed (by_id s.chans c) ≡ None
none_there alts s c h f = sym (alike_unfreed alts.channels.chans s.chans c f.chans) ∙ not_live (by_id alts.channels.chans c) h

-- one that names a channel that is
pub record IsThere (alts : Exchange) (s : State) (c : ℕ) : Type 0 where
  pub chan : Channel
  pub named : unfreed (by_id s.chans c) ≡ Some chan
  pub here : by_id alts.channels.chans c ≡ Some chan

pub some_there : (alts : Exchange) (s : State) (c : ℕ) → is_live_in (by_id alts.channels.chans c) ≡ true → AltsFor alts s → IsThere alts s c
some_there alts s c h f =
    let l = live (by_id alts.channels.chans c) h in
    let same = alike_live alts.channels.chans s.chans c l.0 f.chans l.1 in
    record { chan = l.0; named = sym (alike_unfreed alts.channels.chans s.chans c f.chans) ∙ l.1; here = same.0 }

size_if : (b c : Bool) (o p q : Outcome) → b ≡ false → cond b o (cond c p q) ≡ cond c p q
size_if b c o p q e = rw e refl

no_size_if : (b : Bool) (o p : Outcome) → b ≡ true → cond b o p ≡ o
no_size_if b o p e = rw e refl

-- a channel can't have these sizes
pub create_bad : (cap elsize : ℕ) (old : Exchange) → is_no_size cap elsize ≡ true → ServesAlone (create_channel cap elsize) (Now Bad) old old
create_bad cap elsize old h setup sched generator s p =
    serves_now Bad setup sched old generator s _ (no_size_if (is_no_size cap elsize) _ _ h) p

full_if : (b : Bool) (o p : Outcome) → b ≡ true → cond b o p ≡ o
full_if b o p e = rw e refl

room_if : (b : Bool) (o p : Outcome) → b ≡ false → cond b o p ≡ p
room_if b o p e = rw e refl

-- no more may be made
pub create_full : (cap elsize : ℕ) (old : Exchange) → is_no_size cap elsize ≡ false → nat_le MOST_CHANNELS (length old.channels.chans) ≡ true → ServesAlone (create_channel cap elsize) (Now Minus) old old
create_full cap elsize old h full setup sched generator s p =
    let long = alike_length old.channels.chans s.chans p.channels.chans in
    let f : nat_le MOST_CHANNELS (length s.chans) ≡ true = ap (nat_le MOST_CHANNELS) (sym long) ∙ full in
    serves_now Minus setup sched old generator s _ (room_if (is_no_size cap elsize) _ _ h ∙ full_if (nat_le MOST_CHANNELS (length s.chans)) _ _ f) p

-- it is made
pub create_made : (cap elsize id : ℕ) (old new : Exchange) → is_no_size cap elsize ≡ false → nat_le MOST_CHANNELS (length old.channels.chans) ≡ false → id ≡ length old.channels.chans + 1 → new ≡ record old { channels = with_new cap elsize old.channels } → ServesAlone (create_channel cap elsize) (Now (Number id)) old new
create_made cap elsize id old new h few e n setup sched generator s p =
    let long = alike_length old.channels.chans s.chans p.channels.chans in
    let f : nat_le MOST_CHANNELS (length s.chans) ≡ false = ap (nat_le MOST_CHANNELS) (sym long) ∙ few in
    let i : id ≡ length s.chans + 1 = e ∙ ap (λ (k : ℕ). k + 1) long in
    let o = room_if (is_no_size cap elsize) _ _ h ∙ room_if (nat_le MOST_CHANNELS (length s.chans)) _ _ f in
    rw (n, i) (serves_chans (Number (length s.chans + 1)) (s.chans ++ empty_channel cap elsize ∷ []) setup sched old (record old { channels = with_new cap elsize old.channels }) generator s _ o refl (alike_push old.channels.chans s.chans (empty_channel cap elsize) p.channels.chans) p)

-- no such channel is there to be freed
pub free_none : (old : Exchange) (c : ℕ) → is_live_in (by_id old.channels.chans c) ≡ false → ServesAlone (λ s. free c s (unfreed (by_id s.chans c))) (Now Bad) old old
free_none old c h setup sched generator s p =
    serves_now Bad setup sched old generator s _ (ap (free c s) (none_there old s c h p.channels)) p

-- it is freed, and its elements go
pub free_gone : (old new : Exchange) (c : ℕ) → is_live_in (by_id old.channels.chans c) ≡ true → new ≡ record old { channels = emptied c (freed c old.channels) } → ServesAlone (λ s. free c s (unfreed (by_id s.chans c))) (Now Done) old new
free_gone old new c h n setup sched generator s p =
    let there = some_there old s c h p.channels in
    let chans = changed freed_chan old.channels.chans (c - 1) in
    rw n (serves_chans Done (changed freed_chan s.chans (c - 1)) setup sched old (record old { channels = emptied c (freed c old.channels) }) generator s _ (ap (free c s) there.named) refl (alike_emptied chans (changed freed_chan s.chans (c - 1)) c (alike_free old.channels.chans s.chans c p.channels.chans)) p)

-- no such channel is there to be asked about
pub closing_none : (alts : Exchange) (c : ℕ) → is_live_in (by_id alts.channels.chans c) ≡ false → ServesAlone (λ s. closing s (unfreed (by_id s.chans c))) (Now Bad) alts alts
closing_none alts c h setup sched generator s p =
    serves_now Bad setup sched alts generator s _ (ap (closing s) (none_there alts s c h p.channels)) p

left_if : (b : Bool) (s : State) (chan : Channel) (n : ℕ) → Some n ≡ cond b (Some (length chan.elements)) None → cond b (now (Number (length chan.elements)) s) (now Minus s) ≡ now (Number n) s
left_if true s chan n e = let k : length chan.elements ≡ n = cc in ap (λ (m : ℕ). now (Number m) s) k
left_if false s chan n e = absurd (cc e)

open_if : (b : Bool) (s : State) (chan : Channel) → None ≡ cond b (Some (length chan.elements)) None → cond b (now (Number (length chan.elements)) s) (now Minus s) ≡ now Minus s
open_if true s chan e = absurd (cc e)
open_if false s chan e = refl

-- a channel is closed, with so many elements left
pub closing_left : (alts : Exchange) (c n : ℕ) → is_live_in (by_id alts.channels.chans c) ≡ true → Some n ≡ left_in (by_id alts.channels.chans c) → ServesAlone (λ s. closing s (unfreed (by_id s.chans c))) (Now (Number n)) alts alts
closing_left alts c n h e setup sched generator s p =
    let there = some_there alts s c h p.channels in
    let k : Some n ≡ cond there.chan.closed (Some (length there.chan.elements)) None = e ∙ ap left_in there.here in
    serves_now (Number n) setup sched alts generator s _ (ap (closing s) there.named ∙ left_if there.chan.closed s there.chan n k) p

-- it is open
pub closing_open : (alts : Exchange) (c : ℕ) → is_live_in (by_id alts.channels.chans c) ≡ true → None ≡ left_in (by_id alts.channels.chans c) → ServesAlone (λ s. closing s (unfreed (by_id s.chans c))) (Now Minus) alts alts
closing_open alts c h e setup sched generator s p =
    let there = some_there alts s c h p.channels in
    let k : None ≡ cond there.chan.closed (Some (length there.chan.elements)) None = e ∙ ap left_in there.here in
    serves_now Minus setup sched alts generator s _ (ap (closing s) there.named ∙ open_if there.chan.closed s there.chan k) p
