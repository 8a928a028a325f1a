-- What comes of an entry that goes on: the value that moves, and the answers on both sides. thread(2).
use Rattle.std.specs.Prelude.{ℕ, ◌-◌, List, [], ◌∷◌, ◌++◌, Option, Some, None, if◌then◌else◌, slice_get}
use Rattle.std.specs.List.{find}
use Rattle.p9_word.specs.declared.alt.AltOp.{AltOp}
use Rattle.p9_word.specs.declared.alt.AltOp.TheVariants.{Snd, Rcv, Nop}
use Rattle.p9_word.specs.declared.alt.Slot.{Slot}
use Rattle.p9_word.specs.declared.alt.AltEntry.{AltEntry}
use Rattle.p9_word.specs.declared.answer.Answer.{Answer}
use Rattle.p9_manual.specs.declared.state.Channel.{Channel}
use Rattle.p9_manual.specs.declared.state.Element.{Element}
use Rattle.p9_manual.specs.declared.state.Party.{Party}
use Rattle.p9_manual.specs.AltEntries.{sends_on, receives_on}
use Rattle.p9_manual.specs.ReadyEntries.{is_unbuffered}
use Rattle.p9_manual.specs.State.{Move, by_id, changed}
use Rattle.p9_manual.specs.Told.{sent_bytes, kept_bytes, sent_answer, got_answer, failed_answer, receiver_answer, sender_answer, sender_bytes}

-- what an alt came to: the answers of the caller and of who is woken, the value that left a channel, and the channels after it
pub record Deal : Type 0 where
  pub answer : Answer
  pub woken : Option (ℕ × Answer)
  pub moved : Option Move
  pub chans : List Channel

-- the channel, with these elements
abbrev pub holding : List Element → Channel → Channel
holding elements chan = record chan { elements = elements }

-- the channels, with these elements on channel c
abbrev pub with_elements : ℕ → List Element → List Channel → List Channel
with_elements c elements chans = changed (holding elements) chans (c - 1)

-- an element, from the call of this number
abbrev pub element : ℕ → List ℕ → Element
element from bytes = record { from = from; msg = bytes }

-- entry i of me fails: nothing moves
abbrev pub failed : Party → ℕ → List Channel → Deal
failed me i chans = record { answer = failed_answer me.single i; woken = None; moved = None; chans = chans }

-- the bytes are handed over to the thread that waits longest to receive
abbrev pub hand_over : Party → ℕ → List ℕ → ℕ → List Channel → Option Party → Deal
hand_over me i bytes c chans None = failed me i chans
hand_over me i bytes c chans (Some w) =
    record {
      answer = sent_answer me.single i;
      woken = Some (w.tid, receiver_answer c me.at bytes w);
      moved = Some (record { chan = c; from = me.at; to = w.tid; bytes = bytes });
      chans = chans;
    }

-- the front of these elements goes to the thread that waits longest to receive, if one does
abbrev pub pass_on : Party → ℕ → ℕ → List Channel → Option Party → List Element → Deal
pass_on me i c chans None elements =
    record { answer = sent_answer me.single i; woken = None; moved = None; chans = with_elements c elements chans }
pass_on me i c chans (Some w) [] = failed me i chans
pass_on me i c chans (Some w) (x ∷ rest) =
    record {
      answer = sent_answer me.single i;
      woken = Some (w.tid, receiver_answer c x.from x.msg w);
      moved = Some (record { chan = c; from = x.from; to = w.tid; bytes = x.msg });
      chans = with_elements c rest chans;
    }

-- a send of these bytes goes on: it fails on a closed channel; they are handed over where the channel does that; else
-- they come last among its elements
abbrev pub commit_send : Party → ℕ → List ℕ → ℕ → List Channel → List Party → Channel → Deal
commit_send me i bytes c chans waits chan =
    if chan.closed then failed me i chans
    else if is_unbuffered chan then hand_over me i bytes c chans (find (receives_on c) waits)
    else pass_on me i c chans (find (receives_on c) waits) (chan.elements ++ element me.at bytes ∷ [])

-- the value of the thread that waits longest to send is taken over
abbrev pub take_over : Party → ℕ → Slot → ℕ → ℕ → List Channel → Option Party → Deal
take_over me i slot c elsize chans None = failed me i chans
take_over me i slot c elsize chans (Some w) =
    record {
      answer = got_answer me.single i w.at (kept_bytes slot (sender_bytes c elsize w));
      woken = Some (w.tid, sender_answer c w);
      moved = Some (record { chan = c; from = w.at; to = me.tid; bytes = sender_bytes c elsize w });
      chans = chans;
    }

-- the elements that are left, with that of the thread that waits longest to send, if one does
abbrev pub refilled : ℕ → ℕ → List Element → Option Party → List Element
refilled c elsize rest None = rest
refilled c elsize rest (Some w) = rest ++ element w.at (sender_bytes c elsize w) ∷ []

-- who waits to send is woken, if anyone does
abbrev pub sender_woken : ℕ → Option Party → Option (ℕ × Answer)
sender_woken c None = None
sender_woken c (Some w) = Some (w.tid, sender_answer c w)

-- a receive goes on: it takes the front element, and the thread that waits longest to send puts its own; where there is no
-- element it fails on a closed channel, and else takes a value over
abbrev pub receive_from : Party → ℕ → Slot → ℕ → List Channel → List Party → Channel → List Element → Deal
receive_from me i slot c chans waits chan [] =
    if chan.closed then failed me i chans else take_over me i slot c chan.elsize chans (find (sends_on c) waits)
receive_from me i slot c chans waits chan (x ∷ rest) =
    record {
      answer = got_answer me.single i x.from (kept_bytes slot x.msg);
      woken = sender_woken c (find (sends_on c) waits);
      moved = Some (record { chan = c; from = x.from; to = me.tid; bytes = x.msg });
      chans = with_elements c (refilled c chan.elsize rest (find (sends_on c) waits)) chans;
    }

-- an entry with this op and slot goes on. A channel that isn't there, and a no-op, are never ready
abbrev pub commit_op : Party → ℕ → AltOp → Slot → ℕ → List Channel → List Party → Option Channel → Deal
commit_op me i op slot c chans waits None = failed me i chans
commit_op me i Snd slot c chans waits (Some chan) = commit_send me i (sent_bytes chan.elsize slot) c chans waits chan
commit_op me i Rcv slot c chans waits (Some chan) = receive_from me i slot c chans waits chan chan.elements
commit_op me i Nop slot c chans waits (Some chan) = failed me i chans

-- an entry goes on. An alt has each entry that is ready
abbrev pub commit_entry : Party → ℕ → List Channel → List Party → Option AltEntry → Deal
commit_entry me i chans waits None = failed me i chans
commit_entry me i chans waits (Some e) = commit_op me i e.op e.slot e.chan chans waits (by_id chans e.chan)

-- entry i of me, which is ready, goes on
abbrev pub commit : Party → ℕ → List Channel → List Party → Deal
commit me i chans waits = commit_entry me i chans waits (slice_get me.entries i)
