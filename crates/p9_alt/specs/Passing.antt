-- How a value passes from a thread to another, in the steps that the code takes.
use Rattle.std.specs.Prelude.{ℕ, Bool, ◌==◌, ◌≡◌, ◌≤◌, ◌||◌, false, not, drop, List, [], ◌∷◌, Option, Some, None, Vec, slice_index, vec_len, vec_capacity}
use Rattle.std.specs.declared.alloc.Global.{Global}
use Rattle.std.specs.List.{filter, find}
use Rattle.p9_word.specs.declared.alt.AltOp.{AltOp}
use Rattle.p9_word.specs.declared.alt.AltOp.TheVariants.{Snd, Rcv, Nop}
use Rattle.p9_word.specs.declared.alt.Slot.{Slot}
use Rattle.p9_word.specs.declared.alt.AltEntry.{AltEntry}
use Rattle.p9_word.specs.declared.answer.Answer.{Answer}
use Rattle.p9_manual.specs.declared.state.Channel.{Channel}
use Rattle.p9_manual.specs.declared.state.Element.{Element}
use Rattle.p9_manual.specs.declared.state.Party.{Party}
use Rattle.p9_manual.specs.Commit.{Deal, commit, commit_op, element}
use Rattle.p9_manual.specs.Told.{failed_answer, sent_answer, got_answer, kept_bytes, receiver_answer, sender_answer, sender_bytes}
use Rattle.p9_manual.specs.AltEntries.{is_nop, sends_on, receives_on}
use Rattle.p9_manual.specs.ReadyEntries.{ready_entries}
use Rattle.p9_manual.specs.Alt.{parties_without}
use Rattle.p9_manual.specs.State.{by_id}
use Rattle.p9_chan.specs.Channels.{Channels, IsMade}
use Rattle.p9_alt.specs.Exchange.{Exchange, wake_with}
use Rattle.p9_alt.specs.Kept.{IsQueue}
use Rattle.p9_alt.specs.declared.commit.Done.{Done}
use Rattle.p9_alt.specs.declared.commit.Turn.{Turn}
use Rattle.p9_alt.specs.declared.offer.Wake.{Wake}

-- an entry is out of use, or names a channel that was made
abbrev pub IsUsable : Channels → AltEntry → Type 0
IsUsable x e = (is_nop e.op || e.err) ≡ false → IsMade e.chan x

-- the alts that wait without this one
abbrev pub without : Option Party → List Party → List Party
without None waits = waits
without (Some w) waits = filter (λ u. not (u.tid == w.tid)) waits

-- nobody before this place among those that wait passes the test
abbrev pub AreUnmet : (Party → Bool) → ℕ → List Party → Type 0
AreUnmet p from waits = find p waits ≡ find p (drop from waits)

-- the test of those that an entry with this op may meet on channel c
abbrev pub meets : AltOp → ℕ → Party → Bool
meets Snd c w = receives_on c w
meets Rcv c w = sends_on c w
meets Nop c w = false

-- the caller, as far as what comes of its entry depends on it
abbrev pub caller : Turn → Party
caller turn = record { tid = 0; at = turn.at; single = turn.single; entries = [] }

-- what comes of an entry of the caller
abbrev pub deal_of : Turn → AltOp → Slot → ℕ → List Channel → List Party → Deal
deal_of turn op slot c chans waits = commit_op (caller turn) turn.i op slot c chans waits (by_id chans c)

-- a thread that waited to receive on channel c is woken with a value
abbrev pub receiver_wake : ℕ → ℕ → List ℕ → Party → Wake
receiver_wake c from bytes w = record { tid = w.tid; answer = receiver_answer c from bytes w }

abbrev pub receiver_woken : ℕ → ℕ → List ℕ → Option Party → Option Wake
receiver_woken c from bytes None = None
receiver_woken c from bytes (Some w) = Some (receiver_wake c from bytes w)

-- the caller's value was sent where a thread waited to receive it
abbrev pub handed_answer : Turn → Option Party → Answer
handed_answer turn None = failed_answer turn.single turn.i
handed_answer turn (Some w) = sent_answer turn.single turn.i

-- a thread that waited to send on channel c is woken, and gives its value
abbrev pub sender_gives : ℕ → ℕ → Option Party → Option (Wake × Element)
sender_gives c elsize None = None
sender_gives c elsize (Some w) = Some (record { tid = w.tid; answer = sender_answer c w }, element w.at (sender_bytes c elsize w))

-- the caller takes that value over
abbrev pub taken_answer : Turn → ℕ → ℕ → Slot → Option Party → Answer
taken_answer turn c elsize slot None = failed_answer turn.single turn.i
taken_answer turn c elsize slot (Some w) = got_answer turn.single turn.i w.at (kept_bytes slot (sender_bytes c elsize w))

-- the front of these elements is passed on, if a thread waits to receive it
abbrev pub passed_wake : ℕ → Option Party → List Element → Option Wake
passed_wake c None elements = None
passed_wake c (Some w) [] = None
passed_wake c (Some w) (x ∷ rest) = Some (receiver_wake c x.from x.msg w)

-- the elements that are left
abbrev pub passed_rest : Option Party → List Element → List Element
passed_rest None elements = elements
passed_rest (Some w) [] = []
passed_rest (Some w) (x ∷ rest) = rest

-- what came of an alt is what the deal says
pub record IsDealt (d : Deal) (done : Done) : Type 0 where
  pub answer : done.answer ≡ d.answer
  pub woken : done.woken ≡ wake_with d.woken

-- and so are the channels, and the alts that wait
pub record IsLeft (d : Deal) (waits_old : List Party) (chans_new : List Channel) (waits_new : List Party) : Type 0 where
  pub chans : chans_new ≡ d.chans
  pub waits : waits_new ≡ parties_without d.woken waits_old

-- the alts that wait are fewer or the same, in the same memory
pub record IsLess (old new : Vec Party Global) : Type 0 where
  pub queue : IsQueue new.items
  pub shorter : vec_len new ≤ vec_len old
  pub capacity : vec_capacity new ≡ vec_capacity old

-- what comes of the caller's ready entry with this number
abbrev pub nth_deal : Party → ℕ → Exchange → Deal
nth_deal me n x = commit me (slice_index (ready_entries x.channels.chans x.waits me.entries) n) x.channels.chans x.waits
