-- What callers see of the alts that wait, and of their channels. alt in thread(2).
use Rattle.std.specs.Prelude.{ℕ, ◌≡◌, ◌≤◌, ◌+◌, Bool, true, not, ◌==◌, List, [], ◌∷◌, ◌++◌, Option, Some, None, All}
use Rattle.std.specs.List.{filter, find}
use Rattle.p9_word.specs.declared.alt.AltOp.{AltOp}
use Rattle.p9_word.specs.declared.alt.AltOp.TheVariants.{Snd, Rcv, Nop}
use Rattle.p9_word.specs.declared.alt.Slot.{Slot}
use Rattle.p9_word.specs.declared.alt.Slot.TheVariants.{Null, Give, Keep}
use Rattle.p9_word.specs.declared.alt.AltEntry.{AltEntry}
use Rattle.p9_word.specs.declared.answer.Answer.{Answer}
use Rattle.p9_manual.specs.declared.state.Channel.{Channel}
use Rattle.p9_manual.specs.declared.state.Party.{Party}
use Rattle.p9_manual.specs.Alt.{Verdict, AllClosed, Commits, NoneReady, MustWait, parties_without}
use Rattle.p9_manual.specs.AltEntries.{sends_to, sends_on, waits_on, first_slot}
use Rattle.p9_manual.specs.ReadyEntries.{unfreed}
use Rattle.p9_manual.specs.Standing.{times}
use Rattle.p9_manual.specs.State.{by_id}
use Rattle.p9_chan.specs.Channels.{Channels, is_closed_in, elsize_in, closed}
use Rattle.p9_alt.specs.declared.offer.Offer.{Offer}
use Rattle.p9_alt.specs.declared.offer.Offer.TheVariants as offer
use Rattle.p9_alt.specs.declared.offer.Wake.{Wake}

-- the memory that was taken for an offer: for one more alt that waits, for a list of one entry, and for so many zeros
pub record Spare : Type 0 where
  pub waiter : Bool
  pub one : Bool
  pub zeros : ℕ

-- the channels, and the alts that wait in the order in which they came
pub record Exchange : Type 0 where
  pub channels : Channels
  pub waits : List Party
  pub spare : Spare

-- where a slot has no value, as many zeros are needed as an element has
abbrev pub zeros_in : ℕ → Slot → ℕ
zeros_in elsize Null = elsize
zeros_in elsize (Give m) = 0
zeros_in elsize Keep = 0

-- for the thread that waits longest to send on channel c
abbrev pub zeros_of : ℕ → ℕ → Option Party → ℕ
zeros_of c elsize None = 0
zeros_of c elsize (Some w) = zeros_in elsize (first_slot (sends_to c) w.entries)

-- for an entry that goes on on channel c: one that sends may give no value, and one that receives may take that of a
-- thread that gave none
abbrev pub zeros_by : AltOp → Slot → ℕ → ℕ → List Party → ℕ
zeros_by Snd slot c elsize waits = zeros_in elsize slot
zeros_by Rcv slot c elsize waits = zeros_of c elsize (find (sends_on c) waits)
zeros_by Nop slot c elsize waits = 0

abbrev pub zeros_for : List Channel → List Party → AltEntry → ℕ
zeros_for chans waits e = zeros_by e.op e.slot e.chan (elsize_in (unfreed (by_id chans e.chan))) waits

-- there is memory for an offer of these entries
pub record HasMemory (entries : List AltEntry) (x : Exchange) : Type 0 where
  pub waiter : x.spare.waiter ≡ true
  pub zeros : All (λ e. zeros_for x.channels.chans x.waits e ≤ x.spare.zeros) entries

-- the alts that wait, but for those of thread t
abbrev pub others : ℕ → List Party → List Party
others t waits = filter (λ w. not (w.tid == t)) waits

-- nobody waits to send on a closed channel
abbrev pub NoSendOnClosed : Exchange → Type 0
NoSendOnClosed x = (c : ℕ) → is_closed_in (by_id x.channels.chans c) ≡ true → times (sends_on c) x.waits ≡ 0

-- thread t doesn't wait
abbrev pub IsIdle : ℕ → Exchange → Type 0
IsIdle t x = times (λ w. w.tid == t) x.waits ≡ 0

-- each thread that waits made its call before this position
abbrev pub AreBefore : ℕ → Exchange → Type 0
AreBefore at x = All (λ w. w.at + 1 ≤ at) x.waits

-- what the caller is told
abbrev pub offer_of : Verdict → Offer
offer_of AllClosed = offer.Closed
offer_of (Commits d) = offer.Done d.answer
offer_of NoneReady = offer.NoBlock
offer_of MustWait = offer.Waits

abbrev pub wake_with : Option (ℕ × Answer) → Option Wake
wake_with None = None
wake_with (Some w) = Some (record { tid = w.0; answer = w.1 })

-- who is woken
abbrev pub wake_of : Verdict → Option Wake
wake_of (Commits d) = wake_with d.woken
wake_of AllClosed = None
wake_of NoneReady = None
wake_of MustWait = None

-- the channels after it
abbrev pub chans_after : Verdict → List Channel → List Channel
chans_after (Commits d) chans = d.chans
chans_after AllClosed chans = chans
chans_after NoneReady chans = chans
chans_after MustWait chans = chans

-- the alts that wait after it: the one that is woken waits no more, and the caller may wait from now on
abbrev pub waits_after : Verdict → Party → List Party → List Party
waits_after (Commits d) me waits = parties_without d.woken waits
waits_after AllClosed me waits = waits
waits_after NoneReady me waits = waits
waits_after MustWait me waits = waits ++ me ∷ []

-- who is woken, with its answer
abbrev pub pair_of : Wake → ℕ × Answer
pair_of w = (w.tid, w.answer)

-- the exchange with channel c closed: nobody waits there any more
abbrev pub closed_on : ℕ → Exchange → Exchange
closed_on c x = record x { channels = closed c x.channels; waits = filter (λ w. not (waits_on c w)) x.waits }

-- the thread's alt: its entries, and the form of its answers
abbrev pub shown_alt : Option Party → Option (List AltEntry × Bool)
shown_alt None = None
shown_alt (Some w) = Some (w.entries, w.single)
