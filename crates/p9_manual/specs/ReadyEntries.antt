-- Which entries of an alt can go on at once, and which alts may be asked for. alt in thread(2).
use Rattle.std.specs.Prelude.{ℕ, suc, ◌==◌, ◌&&◌, ◌||◌, Bool, true, false, not, List, [], ◌∷◌, Option, Some, None, if◌then◌else◌, nat_lt, nat_le, length}
use Rattle.std.specs.List.{list_any, list_all}
use Rattle.p9_word.specs.declared.limits.TheConstants.{MOST_ENTRIES}
use Rattle.p9_word.specs.declared.alt.AltOp.{AltOp}
use Rattle.p9_word.specs.declared.alt.AltOp.TheVariants.{Snd, Rcv, Nop}
use Rattle.p9_word.specs.declared.alt.Slot.{Slot}
use Rattle.p9_word.specs.declared.alt.Slot.TheVariants.{Null, Give, Keep}
use Rattle.p9_word.specs.declared.alt.AltEntry.{AltEntry}
use Rattle.p9_manual.specs.declared.state.Channel.{Channel}
use Rattle.p9_manual.specs.declared.state.Party.{Party}
use Rattle.p9_manual.specs.AltEntries.{is_nop, sends_on, receives_on}
use Rattle.p9_manual.specs.State.{by_id}

-- a channel has room for one more element; one of capacity 0 never has
abbrev pub has_room : Channel → Bool
has_room chan = nat_lt (length chan.elements) chan.cap

-- a channel has an element
abbrev pub has_element : Channel → Bool
has_element chan = nat_lt 0 (length chan.elements)

-- it hands each value over: its capacity is 0
abbrev pub is_unbuffered : Channel → Bool
is_unbuffered chan = chan.cap == 0

-- a send on a channel can go on: the channel is closed, has room, or hands each value over and a thread waits to receive.
-- Of the threads that wait none is the caller, which runs
abbrev pub can_send : ℕ → Channel → List Party → Bool
can_send c chan waits = chan.closed || (has_room chan || (is_unbuffered chan && list_any (receives_on c) waits))

-- a receive can: the channel has an element, is closed, or hands each value over and a thread waits to send
abbrev pub can_receive : ℕ → Channel → List Party → Bool
can_receive c chan waits = has_element chan || (chan.closed || (is_unbuffered chan && list_any (sends_on c) waits))

-- an entry with this op on this channel can go on. A no-op never does
abbrev pub can_go_on : AltOp → ℕ → Option Channel → List Party → Bool
can_go_on Snd c (Some chan) waits = can_send c chan waits
can_go_on Rcv c (Some chan) waits = can_receive c chan waits
can_go_on Nop c (Some chan) waits = false
can_go_on op c None waits = false

-- an entry is ready; a no-op never is, nor is an entry whose err is set
abbrev pub is_ready : List Channel → List Party → AltEntry → Bool
is_ready chans waits e = not e.err && can_go_on e.op e.chan (by_id chans e.chan) waits

-- the numbers of the entries that pass, counted on from i
abbrev pub numbers_of : (AltEntry → Bool) → ℕ → List AltEntry → List ℕ
numbers_of p i [] = []
numbers_of p i (e ∷ es) = if p e then i ∷ numbers_of p (suc i) es else numbers_of p (suc i) es

-- the numbers of the ready entries, in their order
abbrev pub ready_entries : List Channel → List Party → List AltEntry → List ℕ
ready_entries chans waits entries = numbers_of (is_ready chans waits) 0 entries

-- a channel that a request may name: it was made and wasn't freed
abbrev pub unfreed : Option Channel → Option Channel
unfreed None = None
unfreed (Some chan) = if chan.freed then None else Some chan

-- a send gives a value or zeros, a receive keeps its value or discards it, and a no-op has nothing
abbrev pub goes_with : AltOp → Slot → Bool
goes_with Snd Null = true
goes_with Snd (Give m) = true
goes_with Snd Keep = false
goes_with Rcv Null = true
goes_with Rcv (Give m) = false
goes_with Rcv Keep = true
goes_with Nop Null = true
goes_with Nop (Give m) = false
goes_with Nop Keep = false

-- what is given is longer than an element may be
abbrev pub is_too_long : ℕ → Slot → Bool
is_too_long elsize (Give m) = nat_lt elsize (length m)
is_too_long elsize Null = false
is_too_long elsize Keep = false

-- what is given is no longer than an element of this channel, which may be named
abbrev pub fits_channel : Slot → Option Channel → Bool
fits_channel slot None = false
fits_channel slot (Some chan) = not (is_too_long chan.elsize slot)

-- the slot goes with the op; and an entry in use names a channel that may be named, and gives no more than an element has
abbrev pub fits_entry : List Channel → AltEntry → Bool
fits_entry chans e = goes_with e.op e.slot && (is_nop e.op || (e.err || fits_channel e.slot (unfreed (by_id chans e.chan))))

-- the entries may be asked for: there aren't too many, and each fits
abbrev pub fits : List Channel → List AltEntry → Bool
fits chans entries = nat_le (length entries) MOST_ENTRIES && list_all (fits_entry chans) entries
