-- What a history says of each thread, and when it runs the programs: each thread's calls are those that its program
-- asks for, given its answers so far. This project's own.
use Rattle.std.specs.Prelude.{ℕ, ◌≡◌, ◌==◌, ◌||◌, Bool, true, false, List, [], ◌∷◌, ◌++◌, if◌then◌else◌}
use Rattle.std.specs.List.{fold}
use Rattle.p9_word.specs.declared.answer.Answer.{Answer}
use Rattle.p9_word.specs.declared.answer.Answer.TheVariants.{Done}
use Rattle.p9_word.specs.declared.request.Request.{Request}
use Rattle.p9_word.specs.declared.request.Request.TheVariants.{Thread as ThreadRequest}
use Rattle.p9_word.specs.declared.request.ThreadReq.TheVariants.{ThreadExitsAll}
use Rattle.p9_word.specs.declared.trail.Event.{Event}
use Rattle.p9_word.specs.declared.trail.Event.TheVariants.{Call, Next, IoTake, IoDid}
use Rattle.p9_word.specs.declared.trail.Reply.{Reply}
use Rattle.p9_word.specs.declared.trail.Reply.TheVariants.{Now, Ended, Begin, Turn}
use Rattle.p9_word.specs.declared.trail.Entry.{Entry}

-- a thread, by its program, its argument and the answers that it was given; the first answer of a thread is Done
pub data Life : Type 0 where
  Unborn : Life
  Lives : ℕ → ℕ → List Answer → Life
  Dead : Life

-- a thread that lives is given one more answer
abbrev pub given_answer : Answer → Life → Life
given_answer a Unborn = Unborn
given_answer a (Lives program arg answers) = Lives program arg (answers ++ a ∷ [])
given_answer a Dead = Dead

-- no thread lives on
abbrev pub laid_down : Life → Life
laid_down Unborn = Unborn
laid_down (Lives program arg answers) = Dead
laid_down Dead = Dead

-- the request ends all threads
abbrev pub ends_all : Request → Bool
ends_all (ThreadRequest (ThreadExitsAll text)) = true
ends_all request = false

-- what a reply to a call of u does to thread t
abbrev pub after_call : ℕ → ℕ → Request → Reply → Life → Life
after_call t u request (Now a) life = if t == u then given_answer a life else life
after_call t u request Ended life = if t == u || ends_all request then laid_down life else life
after_call t u request reply life = life

-- what a reply to a turn of a proc does to thread t. One that ends by a note is asked for nothing more, whatever is said of it here
abbrev pub after_next : ℕ → Reply → Life → Life
after_next t (Begin u program arg) life = if t == u then Lives program arg (Done ∷ []) else life
after_next t (Turn u a) life = if t == u then given_answer a life else life
after_next t reply life = life

-- what an event with this reply does to thread t
abbrev pub after_event : ℕ → Event → Reply → Life → Life
after_event t (Call u request) reply life = after_call t u request reply life
after_event t Next reply life = after_next t reply life
after_event t IoTake reply life = life
after_event t (IoDid effect) reply life = life

-- thread t after one more entry
abbrev pub life_after : ℕ → Life → Entry → Life
life_after t life e = after_event t e.event e.reply life

-- thread t after a history
unfoldable pub life : ℕ → List Entry → Life
life t history = fold (life_after t) Unborn history

-- what programs ask: by program, argument and answers
abbrev pub Asks : Type 0
Asks = ℕ → ℕ → List Answer → Request

-- a request is the one that the thread's program makes now
abbrev pub IsAskedBy : Asks → Request → Life → Type 0
IsAskedBy asks request (Lives program arg answers) = request ≡ asks program arg answers
IsAskedBy asks request Unborn = ⊥
IsAskedBy asks request Dead = ⊥

-- a call is the one that its thread's program makes now
abbrev pub IsAsked : Asks → (ℕ → Life) → Event → Type 0
IsAsked asks lives (Call t request) = IsAskedBy asks request (lives t)
IsAsked asks lives Next = Unit {0}
IsAsked asks lives IoTake = Unit {0}
IsAsked asks lives (IoDid effect) = Unit {0}

-- each call is the one that its thread's program makes after the answers before it
abbrev pub RunsFrom : Asks → (ℕ → Life) → List Entry → Type 0
RunsFrom asks lives [] = Unit {0}
RunsFrom asks lives (e ∷ es) = IsAsked asks lives e.event × RunsFrom asks (λ t. life_after t (lives t) e) es

-- the history runs the programs
unfoldable pub RunsPrograms : Asks → List Entry → Type 0
RunsPrograms asks history = RunsFrom asks (λ t. Unborn) history
