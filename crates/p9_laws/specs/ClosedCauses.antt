-- Which steps give threads the answer Closed. This project's own.
use Rattle.std.specs.Prelude.{ℕ, ◌≡◌, ◌↔◌, ◌||◌, not, true, false, List, [], ◌∷◌, Some, slice_get}
use Rattle.p9_word.specs.declared.alt.AltEntry.{AltEntry}
use Rattle.p9_word.specs.declared.answer.Answer.TheVariants.{Closed}
use Rattle.p9_word.specs.declared.request.ChanReq.TheVariants.{ChanClose}
use Rattle.p9_word.specs.declared.request.Request.TheVariants.{Chan as ChanRequest}
use Rattle.p9_word.specs.declared.setup.Setup.{Setup}
use Rattle.p9_word.specs.declared.trail.Entry.{Entry}
use Rattle.p9_word.specs.declared.trail.Event.{Event}
use Rattle.p9_word.specs.declared.trail.Event.TheVariants.{Call}
use Rattle.p9_word.specs.declared.trail.Reply.TheVariants.{Turn}
use Rattle.p9_word.specs.declared.trail.Seat.{Seat}
use Rattle.p9_word.specs.declared.trail.Seat.TheVariants.{Proc}
use Rattle.p9_manual.specs.declared.state.Channel.{Channel}
use Rattle.p9_manual.specs.declared.state.Party.{Party}
use Rattle.p9_manual.specs.declared.state.Waiter.{Waiter}
use Rattle.p9_manual.specs.Alt.{is_closed_list}
use Rattle.p9_manual.specs.AltEntries.{is_snd, waits_on}
use Rattle.p9_manual.specs.Offers.{Alternation, parties}
use Rattle.p9_manual.specs.Places.{runs_there}
use Rattle.p9_manual.specs.ReadyEntries.{has_element, unfreed}
use Rattle.p9_manual.specs.State.{State, by_id}
use Rattle.p9_laws.specs.AltCauses.{AsksFor, Gives}
use Rattle.p9_laws.specs.Given.{IsGivenAt, state_before}

-- the channel of an entry is closed, so that the entry fails: a send does, and a receive where no element is left
pub record IsClosedTo (chans : List Channel) (e : AltEntry) : Type 0 where
  pub chan : Channel
  pub is_chan : by_id chans e.chan ≡ Some chan
  pub is_closed : chan.closed ≡ true
  pub fails : (is_snd e.op || not (has_element chan)) ≡ true

-- the event is a request to close channel c, which is there and open, of a thread that runs in the proc that tells it
pub record ClosesNow (seat : Seat) (event : Event) (s : State) (c : ℕ) : Type 0 where
  pub proc_no : ℕ
  pub caller : ℕ
  pub chan : Channel
  pub is_seat : seat ≡ Proc proc_no
  pub is_call : event ≡ Call caller (ChanRequest (ChanClose c))
  pub runs : runs_there proc_no (by_id s.threads caller) ≡ true
  pub is_chan : unfreed (by_id s.chans c) ≡ Some chan
  pub was_open : chan.closed ≡ false

-- thread t waits on channel c in a send or a receive, or in one of their kin
pub record WaitsSingly (waits : List Waiter) (c t : ℕ) : Type 0 where
  pub index : ℕ
  pub party : Party
  pub is_there : slice_get (parties waits) index ≡ Some party
  pub is_thread : party.tid ≡ t
  pub is_single : party.single ≡ true
  pub is_on_it : waits_on c party ≡ true

-- what gives thread t Closed: its own alt, whose entries all have err set; its own send or receive on a closed channel; or a
-- close of the channel on which it waits in a send or a receive
pub data GivesClosed (setup : Setup) (seat : Seat) (event : Event) (s : State) (t : ℕ) : Type 0 where
  OfList : (alt : Alternation) → AsksFor setup seat event s t alt → is_closed_list alt.entries ≡ true → GivesClosed setup seat event s t
  OfEntry : (alt : Alternation) (e : AltEntry) → AsksFor setup seat event s t alt → alt.single ≡ true → alt.entries ≡ e ∷ [] → IsClosedTo s.chans e
      → GivesClosed setup seat event s t
  OfClose : (c : ℕ) → ClosesNow seat event s c → WaitsSingly s.waits c t → GivesClosed setup seat event s t

-- just these events give a thread Closed
abbrev pub ClosedExactly : Setup → State → Type 0
ClosedExactly setup s = (seat : Seat) (event : Event) (t : ℕ) → Gives setup seat event s t Closed ↔ GivesClosed setup seat event s t

-- before position n an entry gave thread t Closed so
pub record WasClosedAt (setup : Setup) (history : List Entry) (n t : ℕ) : Type 0 where
  pub told : IsGivenAt setup history n t Closed
  pub cause : GivesClosed setup told.entry.seat told.entry.event (state_before setup history told.at) t

-- each thread that is told Closed at its turn was given it so
abbrev pub ClosedTold : Setup → List Entry → Type 0
ClosedTold setup history =
    (i t : ℕ) (e : Entry) → slice_get history i ≡ Some e → e.reply ≡ Turn t Closed → WasClosedAt setup history i t
