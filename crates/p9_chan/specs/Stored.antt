-- What the fields of a stored channel keep.
use Rattle.std.specs.Prelude.{◌≡◌, ◌<◌, ◌≤◌, ℕ, List, [], Option, None, Some, length}
use Rattle.circular_buffer.specs.Buffer.{Buffer}
use Rattle.p9_manual.specs.declared.state.Channel.{Channel}
use Rattle.p9_manual.specs.declared.state.Element.{Element}
use Rattle.p9_chan.specs.declared.stored.Stored.TheInside.{Inside}

-- the elements of a ring; a channel without one has none
abbrev pub elements_of : Option (Buffer Element) → List Element
elements_of None = []
elements_of (Some ring) = ring.items

-- what callers see
abbrev pub channel_of : Inside → Channel
channel_of s =
    record { cap = s.cap; elsize = s.elsize; closed = s.closed; freed = s.freed; elements = elements_of s.ring }

-- a channel of this capacity has this ring, of just that capacity and with no more elements; one of capacity 0 has none
abbrev pub IsRingFor : ℕ → Option (Buffer Element) → Type 0
IsRingFor cap None = cap ≡ 0
IsRingFor cap (Some ring) = (0 < cap) × ((ring.capacity ≡ cap) × (length ring.items ≤ cap))

-- the ring of a new channel of this capacity
abbrev pub IsNewRing : ℕ → Option (Buffer Element) → Type 0
IsNewRing cap ring = IsRingFor cap ring × (elements_of ring ≡ [])

abbrev pub HasItsRing : Inside → Type 0
HasItsRing s = IsRingFor s.cap s.ring
