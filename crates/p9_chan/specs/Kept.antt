-- What the fields of the channels keep.
use Rattle.std.specs.Prelude.{◌≡◌, ◌+◌, ◌<◌, ◌≤◌, IfSome, length, option_map}
use Rattle.std.specs.Vec.{vec_len, vec_capacity}
use Rattle.p9_word.specs.declared.limits.TheConstants.{MOST_CHANNELS}
use Rattle.p9_manual.specs.Chans.{empty_channel}
use Rattle.p9_chan.specs.Channels.{Channels}
use Rattle.p9_chan.specs.declared.chans.Chans.TheInside.{Inside}

-- what callers see
abbrev pub shown : Inside → Channels
shown s = record { chans = s.stored.items; room = option_map (λ chan. chan.cap) s.next }

-- not too many channels were made; the next one is new, and there is room for it, unless it would be one too many
pub record IsKept (s : Inside) : Type 0 where
  pub few : length s.stored.items ≤ MOST_CHANNELS
  pub next : IfSome s.next (λ chan. chan ≡ empty_channel chan.cap 0)
  pub room : IfSome s.next (λ chan. length s.stored.items < MOST_CHANNELS → vec_len s.stored + 1 ≤ vec_capacity s.stored)
