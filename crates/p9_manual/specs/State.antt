-- What a machine holds, as plain lists, and the operations that the groups of requests share.
-- thread(2), lock(2), rendezvous(2), ioproc(2), notify(2).
use Rattle.std.specs.Prelude.{ℕ, zero, suc, ◌-◌, ◌==◌, Bool, not, cond, List, [], ◌∷◌, ◌++◌, Option, Some, None, if◌then◌else◌, nat_lt, slice_get}
use Rattle.std.specs.List.{filter}
use Rattle.p9_word.specs.declared.answer.Answer.{Answer}
use Rattle.p9_word.specs.declared.answer.Answer.TheVariants.{Bad}
use Rattle.p9_word.specs.declared.trail.Reply.{Reply}
use Rattle.p9_word.specs.declared.trail.Reply.TheVariants.{Waits, Now}
use Rattle.p9_word.specs.declared.request.Request.{Request}
use Rattle.p9_manual.specs.declared.state.Place.{Place}
use Rattle.p9_manual.specs.declared.state.Place.TheVariants.{Ready, Waiting}
use Rattle.p9_manual.specs.declared.state.Thread.{Thread}
use Rattle.p9_manual.specs.declared.state.Waiter.{Waiter}
use Rattle.p9_manual.specs.declared.state.Channel.{Channel}
use Rattle.p9_manual.specs.declared.state.Ioproc.{Ioproc}
use Rattle.p9_manual.specs.Holds.{Holds}
use Rattle.p9_manual.specs.LockWaits.{is_holding, lined, lock_waiters}

-- a proc place: its word, the handlers of notes (id and prefix) and the pending notes. notify(2)
pub record Proc : Type 0 where
  pub word : ℕ
  pub handlers : List (ℕ × List ℕ)
  pub pending : List (List ℕ)

-- threads, chans, procs and ioprocs stand by their ids, from 1 on; line has the ids of all ready threads in order, and
-- waits the waiting threads in the order in which they came. opened counts the procs that are open, draws the draws
-- that were made; position is that of the next entry of the trail; over says that the run is at its end
pub record State : Type 0 where
  pub threads : List Thread
  pub line : List ℕ
  pub waits : List Waiter
  pub chans : List Channel
  pub holds : Holds
  pub procs : List Proc
  pub opened : ℕ
  pub ioprocs : List Ioproc
  pub draws : ℕ
  pub position : ℕ
  pub over : Bool

-- a value that left a channel: the channel, the number of the call that sent it, the thread that received it, and its bytes
pub record Move : Type 0 where
  pub chan : ℕ
  pub from : ℕ
  pub to : ℕ
  pub bytes : List ℕ

-- what an event comes to: the reply, the value that left a channel, if one did, and the state after it
pub record Outcome : Type 0 where
  pub reply : Reply
  pub moved : Option Move
  pub state : State

-- the item with this id, counted from 1
abbrev pub by_id : {A : Type 0} → List A → ℕ → Option A
by_id xs id = if nat_lt 0 id then slice_get xs (id - 1) else None

-- the list with f of the item at this index
abbrev pub changed : {A : Type 0} → (A → A) → List A → ℕ → List A
changed f [] i = []
changed f (x ∷ xs) zero = f x ∷ xs
changed f (x ∷ xs) (suc i) = x ∷ changed f xs i

-- the list with f of each item and its id, where the first one has id n
abbrev pub each_from : {A : Type 0} → (ℕ → A → A) → ℕ → List A → List A
each_from f n [] = []
each_from f n (x ∷ xs) = f n x ∷ each_from f (suc n) xs

-- what was picked behind an item that wasn't
abbrev pub behind : {A : Type 0} → A → Option (A × List A) → Option (A × List A)
behind x None = None
behind x (Some found) = Some (found.0, x ∷ found.1)

-- the first item that passes, and the others in their order
abbrev pub pick : {A : Type 0} → (A → Bool) → List A → Option (A × List A)
pick p [] = None
pick p (x ∷ xs) = cond (p x) (Some (x, xs)) (behind x (pick p xs))

-- the thread, at this place
abbrev pub at_place : Place → Thread → Thread
at_place place thread = record thread { place = place }

-- the threads with this place for thread t
abbrev pub placed : ℕ → Place → List Thread → List Thread
placed t place threads = changed (at_place place) threads (t - 1)

-- the waits of all threads but t
abbrev pub waits_without : ℕ → List Waiter → List Waiter
waits_without t waits = filter (λ w. not (w.tid == t)) waits

-- t is ready with an answer, last in the line
abbrev pub readied : ℕ → Answer → State → State
readied t a s = record s { threads = placed t (Ready a) s.threads; line = s.line ++ t ∷ [] }

-- a reply with the state after it, where no value leaves a channel
abbrev pub replied : Reply → State → Outcome
replied r s = record { reply = r; moved = None; state = s }

-- a reply that changes nothing
abbrev pub same : Reply → State → Outcome
same r s = replied r s

-- an answer at once: the caller runs on
abbrev pub now : Answer → State → Outcome
now a s = replied (Now a) s

-- a request that names what isn't there, or asks for what can't be: nothing changes
abbrev pub bad : State → Outcome
bad s = now Bad s

-- a relinquishing request that is done at once: the caller stands last in the line with its answer
abbrev pub done : ℕ → Answer → State → Outcome
done t a s = replied Waits (readied t a s)

-- the caller waits with its whole request and the position of its call
abbrev pub waiting : ℕ → Request → State → Outcome
waiting t r s =
    replied Waits (record s {
      threads = placed t Waiting s.threads;
      waits = s.waits ++ record { tid = t; request = r; at = s.position } ∷ [];
    })

-- a thread that waits goes on: it leaves the waits, and is ready with an answer. Alts, closed channels, ioprocs, locks and
-- rendezvous all wake by this; so the threads that an event makes ready stand in the line as woken, then new, then the caller
abbrev pub wake : ℕ → Answer → State → State
wake t a s =
    record s {
      threads = placed t (Ready a) s.threads;
      line = lined (is_holding t (lock_waiters s.waits)) t s.line;
      waits = waits_without t s.waits;
    }
