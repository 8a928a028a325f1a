-- What a request on channels that is no alt does to a state. A new one is a case here, and in no law, unless it does what none of
-- them does.
use Rattle.std.proofs.Common.{◌≡◌, ℕ, ◌+◌, Bool, true, false, cond, [], ◌∷◌, ◌++◌, length, Option, Some, None, ◌-◌, refl}
use Rattle.std.specs.Prelude.{nat_le}
use Rattle.p9_word.specs.declared.limits.TheConstants.{MOST_CHANNELS}
use Rattle.p9_word.specs.declared.answer.Answer.{Answer}
use Rattle.p9_word.specs.declared.answer.Answer.TheVariants.{Done, Number}
use Rattle.p9_word.specs.declared.request.ChanReq.{ChanReq}
use Rattle.p9_word.specs.declared.request.ChanReq.TheVariants as ask
use Rattle.p9_manual.specs.declared.state.Channel.{Channel}
use Rattle.p9_manual.specs.State.{State, Outcome, by_id, changed, now}
use Rattle.p9_manual.specs.ReadyEntries.{unfreed}
use Rattle.p9_manual.specs.Close.{freed_chan, close_channel, close, free, closing}
use Rattle.p9_manual.specs.Chans.{is_no_size, empty_channel, create_channel, on_channel}

-- all that such a request may come to: an answer that changes nothing, a new channel, and a channel that is freed or closed
pub data DoesToChans (s : State) : Outcome → Type 0 where
  Tells : (a : Answer) → DoesToChans s (now a s)
  MakesChannel : (cap elsize : ℕ) → DoesToChans s (now (Number (length s.chans + 1)) (record s { chans = s.chans ++ empty_channel cap elsize ∷ [] }))
  FreesChannel : (c : ℕ) (chan : Channel) → by_id s.chans c ≡ Some chan → DoesToChans s (now Done (record s { chans = changed freed_chan s.chans (c - 1) }))
  ClosesChannel : (c : ℕ) (chan : Channel) → by_id s.chans c ≡ Some chan → DoesToChans s (close_channel c s)

if_does : (s : State) (b : Bool) (o p : Outcome) → DoesToChans s o → DoesToChans s p → DoesToChans s (cond b o p)
if_does s true o p f g = f
if_does s false o p f g = g

unfreed_step : (b : Bool) (x y : Channel) → cond b None (Some x) ≡ Some y → Some x ≡ Some y
unfreed_step true x y e = cc
unfreed_step false x y e = e

-- the channel that is named is there
unfreed_is : (o : Option Channel) (chan : Channel) → unfreed o ≡ Some chan → o ≡ Some chan
unfreed_is None chan e = cc
unfreed_is (Some x) chan e = unfreed_step x.freed x chan e

create_channel_does : (cap elsize : ℕ) (s : State) → DoesToChans s (create_channel cap elsize s)
create_channel_does cap elsize s =
    if_does s (is_no_size cap elsize) _ _ (Tells _) (if_does s (nat_le MOST_CHANNELS (length s.chans)) _ _ (Tells _) (MakesChannel cap elsize))

free_does : (c : ℕ) (s : State) (o : Option Channel) → ((chan : Channel) → o ≡ Some chan → by_id s.chans c ≡ Some chan) → DoesToChans s (free c s o)
free_does c s None there = Tells _
free_does c s (Some chan) there = FreesChannel c chan (there chan refl)

close_does : (c : ℕ) (s : State) (o : Option Channel) → ((chan : Channel) → o ≡ Some chan → by_id s.chans c ≡ Some chan) → DoesToChans s (close c s o)
close_does c s None there = Tells _
close_does c s (Some chan) there = if_does s chan.closed _ _ (Tells _) (ClosesChannel c chan (there chan refl))

closing_does : (s : State) (o : Option Channel) → DoesToChans s (closing s o)
closing_does s None = Tells _
closing_does s (Some chan) = if_does s chan.closed _ _ (Tells _) (Tells _)

pub on_channel_does : (r : ChanReq) (s : State) → DoesToChans s (on_channel r s)
on_channel_does (ask.ChanCreate cap elsize) s = create_channel_does cap elsize s
on_channel_does (ask.ChanFree c) s = free_does c s (unfreed (by_id s.chans c)) (unfreed_is (by_id s.chans c))
on_channel_does (ask.ChanClose c) s = close_does c s (unfreed (by_id s.chans c)) (unfreed_is (by_id s.chans c))
on_channel_does (ask.ChanClosing c) s = closing_does s (unfreed (by_id s.chans c))
on_channel_does r s = Tells _
