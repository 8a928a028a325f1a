-- Which bodies go with a history.
use Rattle.std.specs.Prelude.{ℕ, ◌≡◌, ◌≢◌, List, [], ◌∷◌, ◌++◌, Option, Some, None}
use Rattle.p9_word.specs.declared.answer.Answer.{Answer}
use Rattle.p9_word.specs.declared.request.Request.{Request}
use Rattle.p9_word.specs.declared.trail.Entry.{Entry}
use Rattle.p9_manual.specs.Programs.{Life, Unborn, Lives, Dead, life, Asks, RunsPrograms}
use Rattle.p9_run.specs.declared.bodies.Bodies.{Bodies}
use Rattle.p9_run.specs.declared.bodies.Running.{Running}
use Rattle.p9_run.specs.ByNumber.{value_at}

-- a request that is to be made next, if there is one, is this one
abbrev pub MayAsk : Option Request → Request → Type 0
MayAsk None asked = Unit {0}
MayAsk (Some request) asked = request ≡ asked

-- a thread's body stands for the answers that the history gives it, and what it is to ask next is what its program asks
abbrev pub Stands : {B : Type 0} → Asks → (B → List Answer → Request) → (B → List Answer → Type 0) → Life → Option B → Option Request → Type 0
Stands asks plan stands (Lives program arg answers) (Some b) next = (plan b ≡ asks program arg) × stands b answers × MayAsk next (asks program arg answers)
Stands asks plan stands (Lives program arg answers) None next = ⊥
Stands asks plan stands Unborn o next = Unit {0}
Stands asks plan stands Dead o next = Unit {0}

-- a body stands for all of these answers but the last
pub record Pending {B : Type 0} (asked : List Answer → Request) (plan : B → List Answer → Request) (stands : B → List Answer → Type 0) (answers : List Answer) (last : Answer) (b : B) : Type 0 where
  pub plan_is : plan b ≡ asked
  pub before : List Answer
  pub answers_are : answers ≡ before ++ last ∷ []
  pub stands_for : stands b before

-- the body of a running thread, which hasn't yet had the last answer
abbrev pub IsReady : {B : Type 0} → Asks → (B → List Answer → Request) → (B → List Answer → Type 0) → Life → Answer → B → Type 0
IsReady asks plan stands (Lives program arg answers) last b = Pending (asks program arg) plan stands answers last b
IsReady asks plan stands Unborn last b = ⊥
IsReady asks plan stands Dead last b = ⊥

-- between two events: each living thread's body is here, with the request that it is to make next, if it runs
pub record Between {B : Type 0} (asks : Asks) (plan : B → List Answer → Request) (stands : B → List Answer → Type 0) (history : List Entry) (bodies : List (Option B)) (requests : List (Option Request)) : Type 0 where
  pub runs : RunsPrograms asks history
  pub each : (u : ℕ) → Stands asks plan stands (life u history) (value_at bodies u) (value_at requests u)

-- thread t is answered: its body is out, and the others are here
pub record InTurn {B : Type 0} (asks : Asks) (plan : B → List Answer → Request) (stands : B → List Answer → Type 0) (history : List Entry) (bodies : List (Option B)) (requests : List (Option Request)) (t : ℕ) (last : Answer) (b : B) : Type 0 where
  pub runs : RunsPrograms asks history
  pub others : (u : ℕ) → u ≢ t → Stands asks plan stands (life u history) (value_at bodies u) (value_at requests u)
  pub ready : IsReady asks plan stands (life t history) last b

-- the same of the bodies of a run
abbrev pub IsBetween : {B : Type 0} → Asks → (B → List Answer → Request) → (B → List Answer → Type 0) → List Entry → Bodies B → Type 0
IsBetween asks plan stands history kept = Between asks plan stands history kept.by_thread.values.items kept.requests.values.items

-- the same of a thread that is taken out for its turn
abbrev pub HasTurn : {B : Type 0} → Asks → (B → List Answer → Request) → (B → List Answer → Type 0) → List Entry → Bodies B → Running B → Type 0
HasTurn asks plan stands history kept thread =
    InTurn asks plan stands history kept.by_thread.values.items kept.requests.values.items thread.tid thread.last thread.body
