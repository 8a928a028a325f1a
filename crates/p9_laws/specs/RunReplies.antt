-- What the one who runs the threads of a machine rests on: the replies to a proc's turns and calls, in each legal history.
-- All of this is this project's own.
use Rattle.std.specs.Prelude.{ℕ, ◌≡◌, ◌≤◌, true, List, ◌++◌, ◌∷◌, []}
use Rattle.p9_word.specs.declared.answer.Answer.{Answer}
use Rattle.p9_word.specs.declared.request.Request.{Request}
use Rattle.p9_word.specs.declared.setup.Setup.{Setup}
use Rattle.p9_word.specs.declared.trail.Event.{Event}
use Rattle.p9_word.specs.declared.trail.Event.TheVariants.{Call, Next}
use Rattle.p9_word.specs.declared.trail.Reply.{Reply}
use Rattle.p9_word.specs.declared.trail.Reply.TheVariants.{Now, Waits, Ended, Begin, Turn, Caught, Died, Idle, Over, Stuck, Stray}
use Rattle.p9_word.specs.declared.trail.Seat.{Seat}
use Rattle.p9_word.specs.declared.trail.Seat.TheVariants.{Proc}
use Rattle.p9_word.specs.declared.trail.Entry.{Entry}
use Rattle.p9_word.specs.Setup.{IsValid}
use Rattle.p9_manual.specs.State.{by_id}
use Rattle.p9_manual.specs.Places.{runs_there}
use Rattle.p9_manual.specs.Step.{step}
use Rattle.p9_manual.specs.History.{state_after, with_entry, IsLegal}
use Rattle.p9_manual.specs.Programs.{Life, Unborn, Lives, Dead, life, life_after, Asks, IsAsked, RunsPrograms}

-- the reply to an event after a history
abbrev pub reply_at : Setup → List Entry → Seat → Event → Reply
reply_at setup entries seat event = (step setup seat event (state_after setup entries)).reply

-- the history after that event
abbrev pub grown : Setup → List Entry → Seat → Event → List Entry
grown setup entries seat event = with_entry entries seat event (reply_at setup entries seat event)

-- the replies to a call of a thread that runs
abbrev pub IsCallReply : Reply → Type 0
IsCallReply (Now a) = Unit {0}
IsCallReply Waits = Unit {0}
IsCallReply Ended = Unit {0}
IsCallReply reply = ⊥

abbrev pub IsLiving : Life → Type 0
IsLiving (Lives program arg answers) = Unit {0}
IsLiving Unborn = ⊥
IsLiving Dead = ⊥

-- the replies to a turn: only a new thread begins, with one of the programs, and only one that lives goes on; or a note is delivered
abbrev pub IsNextReply : (ℕ → Life) → ℕ → Reply → Type 0
IsNextReply lives programs (Begin t program arg) = (lives t ≡ Unborn) × (1 ≤ program) × (program ≤ programs)
IsNextReply lives programs (Turn t a) = IsLiving (lives t)
IsNextReply lives programs (Caught id) = Unit {0}
IsNextReply lives programs (Died note) = Unit {0}
IsNextReply lives programs Idle = Unit {0}
IsNextReply lives programs Over = Unit {0}
IsNextReply lives programs Stuck = Unit {0}
IsNextReply lives programs Stray = Unit {0}
IsNextReply lives programs reply = ⊥

-- what is to hold of the thread that has the turn, if one has it
abbrev pub IsGiven : (ℕ → Type 0) → Reply → Type 0
IsGiven holds (Begin t program arg) = holds t
IsGiven holds (Turn t a) = holds t
IsGiven holds reply = Unit {0}

-- thread t runs in proc p after a history
abbrev pub RunsAfter : Setup → List Entry → ℕ → ℕ → Type 0
RunsAfter setup entries p t = runs_there p (by_id (state_after setup entries).threads t) ≡ true

-- a thread that runs lives
abbrev pub RunningLive : Setup → List Entry → Type 0
RunningLive setup entries = (p t : ℕ) → IsLegal setup entries → RunsAfter setup entries p t → IsLiving (life t entries)

-- the replies to a proc that asks for a turn
abbrev pub TurnReplies : Setup → List Entry → Type 0
TurnReplies setup entries =
    (p : ℕ) → IsValid setup → IsLegal setup entries
    → IsNextReply (λ t. life t entries) setup.programs (reply_at setup entries (Proc p) Next)

-- the thread that has the turn runs
abbrev pub TurnsRun : Setup → List Entry → Type 0
TurnsRun setup entries =
    (p : ℕ) → IsGiven (RunsAfter setup (grown setup entries (Proc p) Next) p) (reply_at setup entries (Proc p) Next)

-- the replies to a call of a thread that runs
abbrev pub CallReplies : Setup → List Entry → Type 0
CallReplies setup entries =
    (p t : ℕ) (request : Request) → IsLegal setup entries → RunsAfter setup entries p t
    → IsCallReply (reply_at setup entries (Proc p) (Call t request))

-- a thread that is answered at once runs on
abbrev pub AnsweredRunOn : Setup → List Entry → Type 0
AnsweredRunOn setup entries =
    (p t : ℕ) (request : Request) (a : Answer) → IsLegal setup entries → RunsAfter setup entries p t
    → reply_at setup entries (Proc p) (Call t request) ≡ Now a → RunsAfter setup (grown setup entries (Proc p) (Call t request)) p t

-- a proc whose turns are over stays so, whatever event comes
abbrev pub OverStays : Setup → List Entry → Type 0
OverStays setup entries =
    (q : ℕ) (seat : Seat) (event : Event) → IsLegal setup entries → reply_at setup entries (Proc q) Next ≡ Over
    → reply_at setup (grown setup entries seat event) (Proc q) Next ≡ Over

-- one more event keeps a history legal
abbrev pub GrownLegal : Setup → List Entry → Type 0
GrownLegal setup entries = (seat : Seat) (event : Event) → IsLegal setup entries → IsLegal setup (grown setup entries seat event)

-- a life goes on by one more entry
abbrev pub LivesGo : List Entry → Type 0
LivesGo entries = (t : ℕ) (e : Entry) → life t (entries ++ e ∷ []) ≡ life_after t (life t entries) e

-- a history that runs the programs does so with one more entry, if that is asked for
abbrev pub ProgramsGo : List Entry → Type 0
ProgramsGo entries =
    (asks : Asks) (e : Entry) → RunsPrograms asks entries → IsAsked asks (λ t. life t entries) e.event
    → RunsPrograms asks (entries ++ e ∷ [])
