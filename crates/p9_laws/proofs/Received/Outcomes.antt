-- What the outcome of a thread's request owes, and the outcomes in which most requests end.
use Rattle.std.proofs.Common.{◌≡◌, ℕ, ◌≤◌, Bool, true, false, cond, List, [], ◌++◌, Option, Some, refl, sym, subst, append-nil}
use Rattle.p9_word.specs.declared.answer.Answer.{Answer}
use Rattle.p9_word.specs.declared.request.Request.{Request}
use Rattle.std.specs.Prelude.{All}
use Rattle.p9_word.specs.declared.trail.Entry.{Entry}
use Rattle.p9_word.specs.declared.trail.Event.TheVariants.{Call}
use Rattle.p9_word.specs.declared.trail.Seat.{Seat}
use Rattle.p9_manual.specs.Offers.{parties}
use Rattle.p9_laws.proofs.Moves.Kept.{IsAsked}
use Rattle.p9_laws.proofs.Moves.Steps.{IsHere}
use Rattle.p9_word.specs.declared.trail.Reply.{Reply}
use Rattle.p9_word.specs.declared.trail.Reply.TheVariants.{Turn}
use Rattle.p9_manual.specs.declared.state.Place.TheVariants.{Ready, Waiting}
use Rattle.p9_laws.specs.Receipts.{Receipt}
use Rattle.p9_manual.specs.State.{Move, State, Outcome, now, bad, done, waiting}
use Rattle.p9_laws.proofs.Received.Places.{IsQuiet}
use Rattle.p9_laws.proofs.Received.Agrees.{Agrees, put_quietly, more_waits}
use Rattle.p9_laws.proofs.Received.Grows.{Grows, grows_same}

-- the reply is a turn of a thread with an answer
abbrev pub is_turn : Reply → Bool
is_turn (Turn t a) = true
is_turn reply = false

-- what holds of a state goes on in another one
abbrev pub GoesOn : List Entry → State → State → (ℕ → Option ℕ) → List Move → List Receipt → List Move → Type 0
GoesOn H s after last ms rs mv = Agrees H ms rs last s.threads s.waits s.chans → Agrees H (ms ++ mv) rs last after.threads after.waits after.chans

-- the threads that wait asked for their alts
abbrev pub AreAsked : List Entry → State → Type 0
AreAsked H s = All (IsAsked H) (parties s.waits)

-- the outcome of this request that thread t just made, where these values move by it
pub record Keeps (t : ℕ) (r : Request) (s : State) (mv : List Move) (o : Outcome) : Type 0 where
  pub silent : is_turn o.reply ≡ false
  pub grows : Grows mv s.chans o.state.chans
  pub agrees : (H : List Entry) (seat : Seat) → IsHere H s.position seat (Call t r) o → AreAsked H s → (ms : List Move) (rs : List Receipt) (last : ℕ → Option ℕ) → last t ≡ Some s.position → GoesOn H s o.state last ms rs mv

-- nothing moves
pub record Stays (t : ℕ) (s : State) (o : Outcome) : Type 0 where
  pub silent : is_turn o.reply ≡ false
  pub grows : Grows [] s.chans o.state.chans
  pub agrees : (H : List Entry) (ms : List Move) (rs : List Receipt) (last : ℕ → Option ℕ) → last t ≡ Some s.position → Agrees H ms rs last s.threads s.waits s.chans → Agrees H ms rs last o.state.threads o.state.waits o.state.chans

pub stays_keeps : (t : ℕ) (r : Request) (s : State) (o : Outcome) → Stays t s o → Keeps t r s [] o
stays_keeps t r s o k =
    record {
      silent = k.silent;
      grows = k.grows;
      agrees = λ H seat here asked ms rs last e a. subst (λ (x : List Move). Agrees H x rs last o.state.threads o.state.waits o.state.chans) (sym (append-nil ms)) (k.agrees H ms rs last e a);
    }

pub if_keeps : (t : ℕ) (r : Request) (s : State) (b : Bool) (mv mw : List Move) (o p : Outcome) → Keeps t r s mv o → Keeps t r s mw p → Keeps t r s (cond b mv mw) (cond b o p)
if_keeps t r s true mv mw o p f g = f
if_keeps t r s false mv mw o p f g = g

pub if_stays : (t : ℕ) (s : State) (b : Bool) (o p : Outcome) → Stays t s o → Stays t s p → Stays t s (cond b o p)
if_stays t s true o p f g = f
if_stays t s false o p f g = g

pub now_stays : (t : ℕ) (s : State) (x : Answer) → Stays t s (now x s)
now_stays t s x = record { silent = refl; grows = grows_same [] s.chans; agrees = λ H ms rs last e a. a }

pub bad_stays : (t : ℕ) (s : State) → Stays t s (bad s)
bad_stays t s = record { silent = refl; grows = grows_same [] s.chans; agrees = λ H ms rs last e a. a }

pub done_stays : (t : ℕ) (s : State) (x : Answer) → IsQuiet (Ready x) → Stays t s (done t x s)
done_stays t s x q = record { silent = refl; grows = grows_same [] s.chans; agrees = λ H ms rs last e a. put_quietly a t (Ready x) q }

pub waiting_stays : (t : ℕ) (s : State) (r : Request) → 1 ≤ t → Stays t s (waiting t r s)
waiting_stays t s r made =
    record {
      silent = refl;
      grows = grows_same [] s.chans;
      agrees = λ H ms rs last e a.
          more_waits (put_quietly a t Waiting (record { nothing = λ u. refl; unsent = refl })) (record { tid = t; request = r; at = s.position }) (record { made = made; is_last = e });
    }
