-- What each event that makes an entry keeps.
use Rattle.std.proofs.Common.{◌≡◌, ℕ, ◌≤◌, Bool, true, false, Some, None, refl, ◌∙◌, arith}
use Rattle.p9_word.specs.declared.request.Request.{Request}
use Rattle.p9_word.specs.declared.setup.Setup.{Setup}
use Rattle.p9_word.specs.declared.trail.Event.{Event}
use Rattle.p9_word.specs.declared.trail.Event.TheVariants.{Call, Next, IoTake, IoDid}
use Rattle.p9_word.specs.declared.trail.Seat.{Seat}
use Rattle.p9_word.specs.declared.trail.Seat.TheVariants.{Proc, Io as IoSeat}
use Rattle.p9_manual.specs.declared.state.Thread.{Thread}
use Rattle.p9_manual.specs.State.{State, Outcome, by_id}
use Rattle.p9_manual.specs.Places.{runs_there}
use Rattle.p9_manual.specs.Step.{step, outcome, called, makes_entry, counted}
use Rattle.p9_laws.proofs.Tallies.{tally}
use Rattle.p9_laws.proofs.RunMoves.{IsUpright, IsFading}
use Rattle.p9_laws.proofs.RunAsked.{IsShut, IsCalled, running_called, elsewhere_called}
use Rattle.p9_laws.proofs.RunTurns.{IsIoServed, io_served, IsTurned, next_turned}

-- what one more entry keeps
pub record IsStepped (setup : Setup) (s : State) (o : Outcome) : Type 0 where
  pub tallies : (q : Thread → Bool) → IsShut setup s o.state.opened q → tally q o.state.threads ≤ tally q s.threads
  pub upright : IsUpright o.state
  pub over : s.over ≡ true → o.state.over ≡ true
  pub grows : s.opened ≤ o.state.opened
  pub within : s.opened ≤ setup.places → o.state.opened ≤ setup.places

called_on : (setup : Setup) (t : ℕ) (s : State) (o : Outcome) → IsCalled setup t s o → IsStepped setup s o
called_on setup t s o is = record { tallies = is.tallies; upright = is.upright; over = is.over; grows = is.grows; within = is.within }

-- a step that makes no thread
quiet_on : (setup : Setup) (s : State) (o : Outcome) → ((q : Thread → Bool) → IsFading q → tally q o.state.threads ≤ tally q s.threads) → IsUpright o.state → (s.over ≡ true → o.state.over ≡ true) → o.state.opened ≡ s.opened → IsStepped setup s o
quiet_on setup s o fades upright over same =
    record { tallies = λ q h. fades q h.fading; upright = upright; over = over; grows = omega (arith, same); within = λ h. omega (arith, same) }

io_on : (setup : Setup) (s : State) (o : Outcome) → IsIoServed s o → IsStepped setup s o
io_on setup s o is = quiet_on setup s o is.moved.fades is.upright (λ h. is.over ∙ h) is.opened

turned_on : (setup : Setup) (s : State) (o : Outcome) → IsTurned s o → IsStepped setup s o
turned_on setup s o is = quiet_on setup s o is.fades is.upright is.over is.opened

called_stepped : (setup : Setup) (b : Bool) (p t : ℕ) (r : Request) (s : State) → runs_there p (by_id s.threads t) ≡ b → IsUpright s → makes_entry (called setup p t r s).reply ≡ true → IsStepped setup s (called setup p t r s)
called_stepped setup true p t r s e upright makes = called_on setup t s _ (running_called setup p t r s upright e)
called_stepped setup false p t r s e upright makes = absurd (cc (rw (elsewhere_called setup p t r s e) at makes))

outcome_stepped : (setup : Setup) (seat : Seat) (event : Event) (s : State) → IsUpright s → makes_entry (outcome setup seat event s).reply ≡ true → IsStepped setup s (outcome setup seat event s)
unfolding outcome
outcome_stepped setup (Proc p) (Call t r) s upright makes = called_stepped setup _ p t r s refl upright makes
outcome_stepped setup (Proc p) Next s upright makes = turned_on setup s _ (next_turned setup p s upright makes)
outcome_stepped setup (Proc p) IoTake s upright makes = cc
outcome_stepped setup (Proc p) (IoDid effect) s upright makes = cc
outcome_stepped setup (IoSeat k) IoTake s upright makes = io_on setup s _ (io_served k s None upright)
outcome_stepped setup (IoSeat k) (IoDid effect) s upright makes = io_on setup s _ (io_served k s (Some effect) upright)
outcome_stepped setup (IoSeat k) (Call t r) s upright makes = cc
outcome_stepped setup (IoSeat k) Next s upright makes = cc

-- the entry is counted, and nothing else
counted_stepped : (setup : Setup) (s : State) (o : Outcome) → makes_entry o.reply ≡ true → IsStepped setup s o → IsStepped setup s (counted s o)
counted_stepped setup s o makes r =
    rw makes (record { tallies = r.tallies; upright = r.upright; over = r.over; grows = r.grows; within = r.within })

pub step_stepped : (setup : Setup) (seat : Seat) (event : Event) (s : State) → IsUpright s → makes_entry (step setup seat event s).reply ≡ true → IsStepped setup s (step setup seat event s)
unfolding step
step_stepped setup seat event s upright makes =
    counted_stepped setup s (outcome setup seat event s) makes (outcome_stepped setup seat event s upright makes)
