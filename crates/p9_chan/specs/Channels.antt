-- What callers see of the channels: the channels by their ids, and the capacity of the one that there is memory for.
-- thread(2).
use Rattle.std.specs.Prelude.{ℕ, ◌≤◌, ◌-◌, Bool, true, false, List, [], ◌∷◌, ◌++◌, Option, Some, None, if◌then◌else◌, length}
use Rattle.p9_manual.specs.declared.state.Channel.{Channel}
use Rattle.p9_manual.specs.declared.state.Element.{Element}
use Rattle.p9_manual.specs.ReadyEntries.{has_room}
use Rattle.p9_manual.specs.Commit.{with_elements}
use Rattle.p9_manual.specs.Close.{closed_chan, freed_chan}
use Rattle.p9_manual.specs.Chans.{empty_channel}
use Rattle.p9_manual.specs.State.{by_id, changed}

-- channels stand by their ids, from 1 on; room is the capacity of the channel that a reserve took memory for, until it is made
pub record Channels : Type 0 where
  pub chans : List Channel
  pub room : Option ℕ

-- channel c was made
pub record IsMade (c : ℕ) (x : Channels) : Type 0 where
  pub from : 1 ≤ c
  pub to : c ≤ length x.chans

-- the channel with this id, for one that was made
abbrev pub chan_of : ℕ → Channels → Option Channel
chan_of c x = by_id x.chans c

abbrev pub elements_in : Option Channel → List Element
elements_in None = []
elements_in (Some chan) = chan.elements

abbrev pub cap_in : Option Channel → ℕ
cap_in None = 0
cap_in (Some chan) = chan.cap

abbrev pub elsize_in : Option Channel → ℕ
elsize_in None = 0
elsize_in (Some chan) = chan.elsize

abbrev pub is_closed_in : Option Channel → Bool
is_closed_in None = false
is_closed_in (Some chan) = chan.closed

abbrev pub has_room_in : Option Channel → Bool
has_room_in None = false
has_room_in (Some chan) = has_room chan

-- made and not freed
abbrev pub is_live_in : Option Channel → Bool
is_live_in None = false
is_live_in (Some chan) = if chan.freed then false else true

-- how many elements are left on a closed channel
abbrev pub left_in : Option Channel → Option ℕ
left_in None = None
left_in (Some chan) = if chan.closed then Some (length chan.elements) else None

-- with these elements on channel c
abbrev pub refilled : ℕ → List Element → Channels → Channels
refilled c elements x = record x { chans = with_elements c elements x.chans }

-- with channel c closed
abbrev pub closed : ℕ → Channels → Channels
closed c x = record x { chans = changed closed_chan x.chans (c - 1) }

-- with channel c freed
abbrev pub freed : ℕ → Channels → Channels
freed c x = record x { chans = changed freed_chan x.chans (c - 1) }

-- a freed channel without its elements
abbrev pub emptied_chan : Channel → Channel
emptied_chan chan = if chan.freed then record chan { elements = [] } else chan

-- channel c without its elements, if it is freed
abbrev pub emptied : ℕ → Channels → Channels
emptied c x = record x { chans = changed emptied_chan x.chans (c - 1) }

-- with one more channel, made in the room that was taken for it
abbrev pub with_new : ℕ → ℕ → Channels → Channels
with_new cap elsize x = record { chans = x.chans ++ empty_channel cap elsize ∷ []; room = None }
