-- What the alts stand for of a state.
use Rattle.std.specs.Prelude.{◌≡◌, List, map}
use Rattle.p9_manual.specs.declared.state.Channel.{Channel}
use Rattle.p9_manual.specs.Offers.{parties}
use Rattle.p9_manual.specs.State.{State}
use Rattle.p9_chan.specs.Channels.{emptied_chan}
use Rattle.p9_alt.specs.Exchange.{Exchange}

-- they differ at most in the elements of freed channels, which no request can reach
abbrev pub AreAlike : List Channel → List Channel → Type 0
AreAlike a b = map emptied_chan a ≡ map emptied_chan b

-- the alts that wait are those among the waits, and the channels are the state's, but for the elements of freed ones
pub record AltsFor (alts : Exchange) (s : State) : Type 0 where
  pub waits : alts.waits ≡ parties s.waits
  pub chans : AreAlike alts.channels.chans s.chans

-- whatever state the old alts stand for, the new ones stand for what f makes of it
abbrev pub Tracks : (State → State) → Exchange → Exchange → Type 0
Tracks f old new = (s : State) → AltsFor old s → AltsFor new (f s)
