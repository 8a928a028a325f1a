-- what an exchange ends as, once a `&mut` to its channels has ended
use Rattle.std.specs.Borrow.{Lends, Fml, MutBor}
use Rattle.p9_chan.specs.Channels.{Channels}
use Rattle.p9_chan.specs.contracts.chans.Chans.{the_row as chans_row}
use Rattle.p9_alt.specs.contracts.alts.Alts.{the_row}
use Rattle.p9_alt.specs.Exchange.{Exchange}

-- its channels are the last ones written through r, and all else stays
abbrev pub lends_channels : MutBor Exchange → MutBor Channels → Fml
lends_channels s r = Lends the_row chans_row s r (λ (v : Channels). record s.now { channels = v })
