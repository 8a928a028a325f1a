-- Which steps give threads the answers NoBlock and Closed. This project's own.
use Rattle.std.specs.Prelude.{ℕ, ◌≡◌, ◌↔◌, Bool, true, false, List, [], Some, slice_get}
use Rattle.p9_word.specs.declared.alt.Ending.TheVariants.{NoBlk}
use Rattle.p9_word.specs.declared.answer.Answer.{Answer}
use Rattle.p9_word.specs.declared.answer.Answer.TheVariants.{NoBlock}
use Rattle.p9_word.specs.declared.request.Request.{Request}
use Rattle.p9_word.specs.declared.setup.Setup.{Setup}
use Rattle.p9_word.specs.declared.trail.Entry.{Entry}
use Rattle.p9_word.specs.declared.trail.Event.{Event}
use Rattle.p9_word.specs.declared.trail.Event.TheVariants.{Call}
use Rattle.p9_word.specs.declared.trail.Reply.TheVariants.{Turn}
use Rattle.p9_word.specs.declared.trail.Seat.{Seat}
use Rattle.p9_word.specs.declared.trail.Seat.TheVariants.{Proc}
use Rattle.p9_manual.specs.declared.state.Place.{Place}
use Rattle.p9_manual.specs.declared.state.Place.TheVariants.{Running, New, Ready, Waiting, Ended}
use Rattle.p9_manual.specs.Alt.{is_closed_list}
use Rattle.p9_manual.specs.Offers.{Alternation, alternation_of, parties}
use Rattle.p9_manual.specs.Places.{runs_there}
use Rattle.p9_manual.specs.ReadyEntries.{fits, ready_entries}
use Rattle.p9_manual.specs.Standing.{place_of}
use Rattle.p9_manual.specs.State.{State, by_id}
use Rattle.p9_manual.specs.Step.{is_doomed, step}
use Rattle.p9_laws.specs.Given.{IsGivenAt, state_before}

-- a thread at this place stands ready with an answer
abbrev pub is_answered : Place → Bool
is_answered (Ready a) = true
is_answered Running = false
is_answered New = false
is_answered Waiting = false
is_answered Ended = false

-- an event gives thread t this answer: it had none before it, and stands ready with this one after it
pub record Gives (setup : Setup) (seat : Seat) (event : Event) (s : State) (t : ℕ) (a : Answer) : Type 0 where
  pub before : is_answered (place_of s.threads t) ≡ false
  pub after : place_of (step setup seat event s).state.threads t ≡ Ready a

-- the event is a request of thread t for this alt, which is served: t runs in the proc that tells it and doesn't end by its
-- mark, and the alt may be asked for
pub record AsksFor (setup : Setup) (seat : Seat) (event : Event) (s : State) (t : ℕ) (alt : Alternation) : Type 0 where
  pub proc_no : ℕ
  pub request : Request
  pub is_seat : seat ≡ Proc proc_no
  pub is_call : event ≡ Call t request
  pub runs : runs_there proc_no (by_id s.threads t) ≡ true
  pub spared : is_doomed t request s ≡ false
  pub is_alt : alternation_of request ≡ Some alt
  pub fits_it : fits s.chans alt.entries ≡ true

-- an alt of thread t finds no entry ready, and doesn't block. Its list isn't one whose entries all have err set
pub record FindsNone (setup : Setup) (seat : Seat) (event : Event) (s : State) (t : ℕ) : Type 0 where
  pub alt : Alternation
  pub asks : AsksFor setup seat event s t alt
  pub ending : alt.ending ≡ NoBlk
  pub some_open : is_closed_list alt.entries ≡ false
  pub none_ready : ready_entries s.chans (parties s.waits) alt.entries ≡ []

-- just these events give a thread NoBlock
abbrev pub NoBlocksExactly : Setup → State → Type 0
NoBlocksExactly setup s = (seat : Seat) (event : Event) (t : ℕ) → Gives setup seat event s t NoBlock ↔ FindsNone setup seat event s t

-- before position n a call of thread t found no entry ready, and gave it NoBlock
pub record FoundNoneAt (setup : Setup) (history : List Entry) (n t : ℕ) : Type 0 where
  pub told : IsGivenAt setup history n t NoBlock
  pub own : told.at ≡ told.call
  pub cause : FindsNone setup told.entry.seat told.entry.event (state_before setup history told.at) t

-- each thread that is told NoBlock at its turn is told so by its last call
abbrev pub NoBlocksCaused : Setup → List Entry → Type 0
NoBlocksCaused setup history =
    (i t : ℕ) (e : Entry) → slice_get history i ≡ Some e → e.reply ≡ Turn t NoBlock → FoundNoneAt setup history i t
