-- What a request for an alt that is served comes to, and the events that give a thread an answer.
use Rattle.std.proofs.Common.{◌≡◌, ℕ, Bool, true, false, Option, Some, refl, ap, subst, ◌∙◌, List}
use Rattle.p9_word.specs.declared.answer.Answer.{Answer}
use Rattle.p9_word.specs.declared.request.ChanReq.{ChanReq}
use Rattle.p9_word.specs.declared.request.Request.{Request}
use Rattle.p9_word.specs.declared.request.Request.TheVariants.{Thread as ThreadRequest, Signal as SignalRequest, Chan as ChanRequest, Lock as LockRequest, Io as IoRequest}
use Rattle.p9_word.specs.declared.setup.Setup.{Setup}
use Rattle.p9_word.specs.declared.trail.Event.{Event}
use Rattle.p9_word.specs.declared.trail.Event.TheVariants.{Call}
use Rattle.p9_word.specs.declared.trail.Seat.{Seat}
use Rattle.p9_word.specs.declared.trail.Seat.TheVariants.{Proc}
use Rattle.p9_manual.specs.declared.state.Place.{Place}
use Rattle.p9_manual.specs.declared.state.Thread.{Thread}
use Rattle.p9_manual.specs.declared.state.Place.TheVariants.{Running, Ready, Waiting}
use Rattle.p9_manual.specs.Alt.{decided, verdict_of, with_draw}
use Rattle.p9_manual.specs.Chans.{by_alternation, chan_call}
use Rattle.p9_manual.specs.Offers.{Alternation, alternation, alternation_of}
use Rattle.p9_manual.specs.Places.{runs_there}
use Rattle.p9_manual.specs.ReadyEntries.{fits}
use Rattle.p9_manual.specs.Sound.{IsSound}
use Rattle.p9_manual.specs.Standing.{place_of}
use Rattle.p9_manual.specs.State.{State, Outcome, by_id, placed}
use Rattle.p9_manual.specs.Step.{called, counted, is_doomed, makes_entry, outcome, served, step}
use Rattle.p9_laws.specs.AltCauses.{AsksFor, Gives, is_answered}
use Rattle.p9_laws.proofs.Sound.Histories.{step_quiet}
use Rattle.p9_laws.proofs.Sound.Places.{made_from_place, place_of-placed_same}
use Rattle.p9_laws.proofs.Sound.Running.{place_runs}
use Rattle.p9_laws.proofs.Given.Causes.{ToldBy, WokenAt}
use Rattle.p9_laws.proofs.Given.Goes.{Goes, Leaves, Stays, Wakes, is_apart}
use Rattle.p9_laws.proofs.Given.Ioprocs.{aligned}
use Rattle.p9_laws.proofs.Given.Steps.{Other, Own, Steps, step_steps}

-- the event that gives a thread an answer: its own call, or one that wakes it
pub data IsCause (setup : Setup) (seat : Seat) (event : Event) (s : State) (t : ℕ) (a : Answer) : Type 0 where
  ByItself : (p : ℕ) (r : Request) → seat ≡ Proc p → event ≡ Call t r → runs_there p (by_id s.threads t) ≡ true
      → is_doomed t r s ≡ false → ToldBy setup s t r a → IsCause setup seat event s t a
  ByAnother : place_of s.threads t ≡ Waiting → WokenAt s event t a → IsCause setup seat event s t a

unanswered : (pl : Place) (a : Answer) → is_answered pl ≡ false → pl ≡ Ready a → ⊥
unanswered pl a h e = let z = ap is_answered e in cc (h, z)

goes_cause : (setup : Setup) (seat : Seat) (event : Event) (s : State) (t : ℕ) (a : Answer) (before after : Place) → Goes (WokenAt s event t) before after → place_of s.threads t ≡ before → after ≡ Ready a → is_answered before ≡ false → IsCause setup seat event s t a
goes_cause setup seat event s t a _ _ (Stays pl) b f h = absurd (unanswered pl a h f)
goes_cause setup seat event s t a _ _ (Wakes x woken) b f h =
    let same_answer : x ≡ a = cc in
    ByAnother b (subst (WokenAt s event t) same_answer woken)
goes_cause setup seat event s t a _ _ (Leaves pl after apart) b f h = let z = ap is_apart f in cc (apart, z)

steps_cause : (setup : Setup) (seat : Seat) (event : Event) (s : State) (t : ℕ) (a : Answer) (after : Place) → Steps setup s seat event t after → after ≡ Ready a → is_answered (place_of s.threads t) ≡ false → IsCause setup seat event s t a
steps_cause setup seat event s t a after (Own p r seat_is is runs told) f h = let k = told a f in ByItself p r seat_is is runs k.0 k.1
steps_cause setup seat event s t a after (Other ne goes) f h = goes_cause setup seat event s t a _ after goes refl f h

-- an event that makes no entry gives nothing
quiet_gives : (setup : Setup) (seat : Seat) (event : Event) (s : State) (t : ℕ) (a : Answer) → Gives setup seat event s t a → makes_entry (step setup seat event s).reply ≡ false → ⊥
quiet_gives setup seat event s t a g quiet =
    unanswered (place_of s.threads t) a g.before
    (subst (λ (x : State). place_of x.threads t ≡ Ready a) (step_quiet setup seat event s quiet) g.after)

makes_by : (setup : Setup) (seat : Seat) (event : Event) (s : State) (t : ℕ) (a : Answer) (b : Bool) → makes_entry (step setup seat event s).reply ≡ b → Gives setup seat event s t a → b ≡ true
makes_by setup seat event s t a true e g = refl
makes_by setup seat event s t a false e g = absurd (quiet_gives setup seat event s t a g e)

-- an event that gives an answer makes an entry
pub gives_makes : (setup : Setup) (seat : Seat) (event : Event) (s : State) (t : ℕ) (a : Answer) → Gives setup seat event s t a → makes_entry (step setup seat event s).reply ≡ true
gives_makes setup seat event s t a g = makes_by setup seat event s t a _ refl g

-- whatever gives an answer is a cause of it
pub cause : (setup : Setup) (seat : Seat) (event : Event) (s : State) (t : ℕ) (a : Answer) → IsSound setup s → Gives setup seat event s t a → IsCause setup seat event s t a
cause setup seat event s t a sound g =
    steps_cause setup seat event s t a _ (step_steps setup seat event s (aligned setup s sound) t (gives_makes setup seat event s t a g)) g.after g.before

-- an alt that is served is decided
abbrev IsDecided : Setup → State → ℕ → Alternation → Outcome → Type 0
IsDecided setup s t a o = (r : ChanReq) × (o ≡ decided t (ChanRequest r) (with_draw a.entries s) (verdict_of setup t a s))

alternation_decided : (setup : Setup) (s : State) (t : ℕ) (a : Alternation) (r : ChanReq) (o : Option Alternation) → o ≡ Some a → fits s.chans a.entries ≡ true → by_alternation setup t r s o ≡ decided t (ChanRequest r) (with_draw a.entries s) (verdict_of setup t a s)
alternation_decided setup s t a r o e fit = rw (e, fit) refl

chan_decided : (setup : Setup) (s : State) (t : ℕ) (a : Alternation) (r : ChanReq) → alternation r ≡ Some a → fits s.chans a.entries ≡ true → chan_call setup t r s ≡ decided t (ChanRequest r) (with_draw a.entries s) (verdict_of setup t a s)
unfolding chan_call
chan_decided setup s t a r e fit = alternation_decided setup s t a r (alternation r) e fit

served_decided : (setup : Setup) (s : State) (t : ℕ) (a : Alternation) (r : Request) → alternation_of r ≡ Some a → fits s.chans a.entries ≡ true → IsDecided setup s t a (served setup t r s)
unfolding served
served_decided setup s t a (ChanRequest r) e fit = (r, chan_decided setup s t a r e fit)
served_decided setup s t a (ThreadRequest r) e fit = cc
served_decided setup s t a (SignalRequest r) e fit = cc
served_decided setup s t a (LockRequest r) e fit = cc
served_decided setup s t a (IoRequest r) e fit = cc

called_served : (setup : Setup) (p t : ℕ) (r : Request) (s : State) → runs_there p (by_id s.threads t) ≡ true → is_doomed t r s ≡ false → called setup p t r s ≡ served setup t r s
unfolding called
called_served setup p t r s runs spared = rw (runs, spared) refl

pub step_served : (setup : Setup) (seat : Seat) (event : Event) (p t : ℕ) (r : Request) (s : State) → seat ≡ Proc p → event ≡ Call t r → runs_there p (by_id s.threads t) ≡ true → is_doomed t r s ≡ false → step setup seat event s ≡ counted s (served setup t r s)
unfolding step outcome
step_served setup seat event p t r s seat_is is runs spared = rw (seat_is, is) (ap (counted s) (called_served setup p t r s runs spared))

-- the step of a request for an alt
step_decided : (setup : Setup) (seat : Seat) (event : Event) (s : State) (t : ℕ) (a : Alternation) → AsksFor setup seat event s t a → (r : ChanReq) × (step setup seat event s ≡ counted s (decided t (ChanRequest r) (with_draw a.entries s) (verdict_of setup t a s)))
step_decided setup seat event s t a asks =
    let k = served_decided setup s t a asks.request asks.is_alt asks.fits_it in
    (k.0, step_served setup seat event asks.proc_no t asks.request s asks.is_seat asks.is_call asks.runs asks.spared ∙ ap (counted s) k.1)

running_unanswered : (pl : Place) → pl ≡ Running → is_answered pl ≡ false
running_unanswered pl e = rw e refl

-- an alt whose verdict puts its caller in the line with an answer gives it that answer
pub alt_gives : (setup : Setup) (seat : Seat) (event : Event) (s : State) (t : ℕ) (a : Alternation) (x : Answer) → AsksFor setup seat event s t a → ((r : ChanReq) → (counted s (decided t (ChanRequest r) (with_draw a.entries s) (verdict_of setup t a s))).state.threads ≡ placed t (Ready x) s.threads) → Gives setup seat event s t x
alt_gives setup seat event s t a x asks puts =
    let runs = place_runs asks.proc_no (by_id s.threads t) asks.runs in
    let k = step_decided setup seat event s t a asks in
    let made = made_from_place s.threads t (λ e. cc (e, runs)) in
    record {
      before = running_unanswered (place_of s.threads t) runs;
      after =
          ap (λ (threads : List Thread). place_of threads t) (ap (λ (o : Outcome). o.state.threads) k.1 ∙ puts k.0)
          ∙ place_of-placed_same s.threads t (Ready x) made;
    }
