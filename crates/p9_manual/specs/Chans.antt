-- The requests on channels. thread(2).
use Rattle.std.specs.Prelude.{ℕ, ◌+◌, ◌||◌, ◌==◌, Bool, false, [], ◌∷◌, ◌++◌, Option, Some, None, if◌then◌else◌, nat_lt, nat_le, length}
use Rattle.p9_word.specs.declared.limits.TheConstants.{MOST_CHANNELS, MOST_ELEMENTS, MOST_ELEMENT_BYTES}
use Rattle.p9_word.specs.declared.answer.Answer.TheVariants.{Number, Minus}
use Rattle.p9_word.specs.declared.request.Request.TheVariants.{Chan as ChanRequest}
use Rattle.p9_word.specs.declared.request.ChanReq.{ChanReq}
use Rattle.p9_word.specs.declared.request.ChanReq.TheVariants as ask
use Rattle.p9_word.specs.declared.setup.Setup.{Setup}
use Rattle.p9_manual.specs.declared.state.Channel.{Channel}
use Rattle.p9_manual.specs.Offers.{Alternation, alternation}
use Rattle.p9_manual.specs.ReadyEntries.{unfreed}
use Rattle.p9_manual.specs.Alt.{alt}
use Rattle.p9_manual.specs.Close.{close, free, closing}
use Rattle.p9_manual.specs.State.{State, Outcome, by_id, bad, now}

-- a channel can't have this capacity, or elements of so many bytes at most: there must be one byte or more
abbrev pub is_no_size : ℕ → ℕ → Bool
is_no_size cap elsize = nat_lt MOST_ELEMENTS cap || (elsize == 0 || nat_lt MOST_ELEMENT_BYTES elsize)

-- an open channel without elements
abbrev pub empty_channel : ℕ → ℕ → Channel
empty_channel cap elsize = record { cap = cap; elsize = elsize; closed = false; freed = false; elements = [] }

-- a channel is made, with the next id, unless as many were made as there can be
abbrev pub create_channel : ℕ → ℕ → State → Outcome
create_channel cap elsize s =
    if is_no_size cap elsize then bad s
    else if nat_le MOST_CHANNELS (length s.chans) then now Minus s
    else now (Number (length s.chans + 1)) (record s { chans = s.chans ++ empty_channel cap elsize ∷ [] })

-- the requests that make channels, free and close them
abbrev pub on_channel : ChanReq → State → Outcome
on_channel (ask.ChanCreate cap elsize) s = create_channel cap elsize s
on_channel (ask.ChanFree c) s = free c s (unfreed (by_id s.chans c))
on_channel (ask.ChanClose c) s = close c s (unfreed (by_id s.chans c))
on_channel (ask.ChanClosing c) s = closing s (unfreed (by_id s.chans c))
-- the others are alts, and never come here
on_channel (ask.Alt ending entries) s = bad s
on_channel (ask.Send c value) s = bad s
on_channel (ask.Recv keep c) s = bad s
on_channel (ask.NbSend c value) s = bad s
on_channel (ask.NbRecv keep c) s = bad s
on_channel (ask.SendUl c n) s = bad s
on_channel (ask.RecvUl c) s = bad s
on_channel (ask.NbSendUl c n) s = bad s
on_channel (ask.NbRecvUl c) s = bad s
on_channel (ask.ChanPrint c text) s = bad s

-- the other requests are alts
abbrev pub by_alternation : Setup → ℕ → ChanReq → State → Option Alternation → Outcome
by_alternation setup t r s None = on_channel r s
by_alternation setup t r s (Some a) = alt setup t (ChanRequest r) a s

-- a request of thread t on channels
unfoldable pub chan_call : Setup → ℕ → ChanReq → State → Outcome
chan_call setup t r s = by_alternation setup t r s (alternation r)
