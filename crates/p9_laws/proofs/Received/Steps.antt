-- Each event: what holds of a sound state and of what was told goes on.
use Rattle.std.proofs.Common.{◌≡◌, ℕ, zero, suc, ◌+◌, ◌≤◌, Bool, true, false, cond, eqb, List, [], ◌∷◌, Option, Some, None, refl, ap, subst, ◌∙◌, arith, rules, tests, append-nil}
use Rattle.std.specs.List.{AllByRecursion}
use Rattle.std.proofs.lemmas.List.Elements.{All-from_recursion, recursion_from_All}
use Rattle.p9_word.specs.declared.request.Request.{Request}
use Rattle.p9_word.specs.declared.request.Request.TheVariants.{Signal as SignalRequest, Chan as ChanRequest, Lock as LockRequest, Io as IoRequest}
use Rattle.p9_word.specs.declared.request.ChanReq.{ChanReq}
use Rattle.p9_word.specs.declared.setup.Setup.{Setup}
use Rattle.p9_word.specs.declared.trail.Entry.{Entry}
use Rattle.p9_word.specs.declared.trail.Seat.{Seat}
use Rattle.p9_word.specs.declared.trail.Seat.TheVariants.{Proc, Io as IoSeat}
use Rattle.p9_word.specs.declared.trail.Event.{Event}
use Rattle.p9_word.specs.declared.trail.Event.TheVariants.{Call, Next, IoTake, IoDid}
use Rattle.p9_word.specs.declared.trail.Reply.TheVariants.{Stray}
use Rattle.p9_manual.specs.declared.state.Place.{Place}
use Rattle.p9_manual.specs.declared.state.Place.TheVariants.{Running}
use Rattle.p9_manual.specs.declared.state.Thread.{Thread}
use Rattle.p9_manual.specs.declared.state.Waiter.{Waiter}
use Rattle.p9_manual.specs.declared.state.Channel.{Channel}
use Rattle.p9_manual.specs.Places.{runs_there}
use Rattle.p9_manual.specs.Offers.{Alternation, alternation, alternation_of}
use Rattle.p9_manual.specs.Chans.{by_alternation, chan_call}
use Rattle.p9_laws.specs.Receipts.{Receipt}
use Rattle.p9_laws.proofs.Moves.Moved.{moved_in, moved_by_call, moved_at}
use Rattle.p9_manual.specs.Sound.{IsSound}
use Rattle.p9_manual.specs.Standing.{times, place_of, times_in_waits}
use Rattle.p9_manual.specs.State.{Move, State, Outcome, by_id}
use Rattle.p9_manual.specs.Step.{makes_entry, outcome, step, counted}
use Rattle.p9_laws.proofs.Sound.Running.{place_runs}
use Rattle.p9_laws.proofs.Groups.{Kind, Plain, OfSignals, OfChans, OfLocks, OfIoprocs, served_kind, CallOf, Strays, Dies, Serves, call_of}
use Rattle.p9_laws.proofs.Received.Agrees.{Agrees, IsCaller, IsRight, right_at, right_quiet}
use Rattle.p9_laws.proofs.Received.Grows.{grows_same}
use Rattle.p9_laws.proofs.Received.Outcomes.{Keeps, stays_keeps}
use Rattle.p9_laws.proofs.Received.Alts.{alt_keeps}
use Rattle.p9_laws.proofs.Received.Requests.{asked_stays, ended_stays, signal_call_stays, io_call_stays, lock_call_stays, on_channel_stays}
use Rattle.p9_laws.proofs.Received.Turns.{GoesRight, stray_right, silent_nothing, silent_no_turn, next_right, io_take_right, io_did_right}

by_alternation_keeps : (setup : Setup) (t : ℕ) (r : ChanReq) (s : State) (o : Option Alternation) → alternation r ≡ o → 1 ≤ t → Keeps t (ChanRequest r) s (moved_in setup t s o) (by_alternation setup t r s o)
by_alternation_keeps setup t r s None is made = stays_keeps t (ChanRequest r) s _ (on_channel_stays t r s)
by_alternation_keeps setup t r s (Some a) is made = alt_keeps setup t (ChanRequest r) a s is made

chan_call_keeps : (setup : Setup) (t : ℕ) (r : ChanReq) (s : State) → 1 ≤ t → Keeps t (ChanRequest r) s (moved_in setup t s (alternation r)) (chan_call setup t r s)
unfolding chan_call
chan_call_keeps setup t r s made = by_alternation_keeps setup t r s (alternation r) refl made

kind_keeps : (setup : Setup) (t : ℕ) (s : State) (r : Request) (o : Outcome) → Kind setup t s r o → 1 ≤ t → Keeps t r s (moved_in setup t s (alternation_of r)) o
kind_keeps setup t s _ _ (Plain r o no_alt does) made = rw no_alt (stays_keeps t r s o (asked_stays setup t s o does))
kind_keeps setup t s _ _ (OfSignals r) made = stays_keeps t (SignalRequest r) s _ (signal_call_stays t r s)
kind_keeps setup t s _ _ (OfChans r) made = chan_call_keeps setup t r s made
kind_keeps setup t s _ _ (OfLocks r) made = stays_keeps t (LockRequest r) s _ (lock_call_stays setup t r s made)
kind_keeps setup t s _ _ (OfIoprocs r) made = stays_keeps t (IoRequest r) s _ (io_call_stays setup t r s made)

no_thread_runs : (p : ℕ) (threads : List Thread) (t : ℕ) → runs_there p (by_id threads t) ≡ true → 1 ≤ t
no_thread_runs p threads zero h = cc
no_thread_runs p threads (suc t) h = omega arith

-- the last calls of threads, where thread t makes one at position n
abbrev with_call : ℕ → ℕ → (ℕ → Option ℕ) → ℕ → Option ℕ
with_call t n last u = cond (eqb t u) (Some n) (last u)

other_call : (t n : ℕ) (last : ℕ → Option ℕ) (w : Waiter) → eqb w.tid t ≡ false → IsCaller last w → IsCaller (with_call t n last) w
other_call t n last w ne c =
    let other : eqb t w.tid ≡ false = search (rules, tests) in
    record { made = c.made; is_last = rw other c.is_last }

none_first : (b : Bool) (n : ℕ) → cond b 1 0 + n ≡ 0 → (b ≡ false) × (n ≡ 0)
none_first true n h = absurd (omega arith)
none_first false n h = (refl, omega arith)

other_calls : (t n : ℕ) (last : ℕ → Option ℕ) → (waits : List Waiter) → times (λ w. eqb w.tid t) waits ≡ 0 → AllByRecursion (IsCaller last) waits → AllByRecursion (IsCaller (with_call t n last)) waits
other_calls t n last [] z h = tt
other_calls t n last (w ∷ ws) z h =
    let k = none_first (eqb w.tid t) (times (λ x. eqb x.tid t) ws) z in
    (other_call t n last w k.0 h.0, other_calls t n last ws k.1 h.1)

right_call : (H : List Entry) (ms : List Move) (chans : List Channel) (last : ℕ → Option ℕ) (t n u : ℕ) (pl : Place) (b : Bool) → eqb t u ≡ b → (t ≡ u → pl ≡ Running) → IsRight H ms chans (last u) u pl → IsRight H ms chans (cond b (Some n) (last u)) u pl
right_call H ms chans last t n u pl true e runs r =
    let same_thread : t ≡ u = search (rules, tests) in
    right_at H ms chans (Some n) u Running pl (runs same_thread) (right_quiet H ms chans (Some n) u Running (record { nothing = λ v. refl; unsent = refl }))
right_call H ms chans last t n u pl false e runs r = r

-- thread t, which runs, makes a call at position n
call_made : (H : List Entry) (ms : List Move) (rs : List Receipt) (last : ℕ → Option ℕ) (s : State) (t n : ℕ) → place_of s.threads t ≡ Running → times (λ w. eqb w.tid t) s.waits ≡ 0 → Agrees H ms rs last s.threads s.waits s.chans → Agrees H ms rs (with_call t n last) s.threads s.waits s.chans
call_made H ms rs last s t n runs none a =
    record {
      counts = a.counts;
      right = λ u. right_call H ms s.chans last t n u (place_of s.threads u) (eqb t u) refl (λ e. subst (λ (x : ℕ). place_of s.threads x ≡ Running) e runs) (a.right u);
      calls = All-from_recursion (IsCaller (with_call t n last)) s.waits (other_calls t n last s.waits none (recursion_from_All (IsCaller last) s.waits a.calls));
    }

own_call : (t n : ℕ) (last : ℕ → Option ℕ) → with_call t n last t ≡ Some n
own_call t n last = let e : eqb t t ≡ true = search (rules, tests) in rw e refl

call_right : (setup : Setup) (p t : ℕ) (r : Request) (s : State) (mv : List Move) (o : Outcome) → IsSound setup s → runs_there p (by_id s.threads t) ≡ true → Keeps t r s mv o → GoesRight s (Call t r) mv o
call_right setup p t r s mv o sound h k =
    let runs = place_runs p (by_id s.threads t) h in
    record {
      grows = k.grows;
      agrees = λ makes H seat here asked ms rs last a.
          let e = silent_nothing o.reply k.silent in
          rw (e, append-nil rs)
          (k.agrees H seat here asked ms rs (with_call t s.position last) (own_call t s.position last)
          (call_made H ms rs last s t s.position runs (sound.stand.in_waits t ∙ ap times_in_waits runs) a));
      turns = λ u a e. absurd (silent_no_turn o.reply u a k.silent e);
    }

call_of_right : (setup : Setup) (p t : ℕ) (r : Request) (s : State) (o : Outcome) → IsSound setup s → CallOf setup p t r s o → GoesRight s (Call t r) (moved_by_call setup p t r s) o
call_of_right setup p t r s _ sound (Strays elsewhere) = rw elsewhere (stray_right s (Call t r) Stray refl)
call_of_right setup p t r s _ sound (Dies there doomed) = rw (there, doomed) (call_right setup p t r s [] _ sound there (stays_keeps t r s _ (ended_stays t s)))
call_of_right setup p t r s _ sound (Serves there undoomed) =
    rw (there, undoomed) (call_right setup p t r s _ _ sound there (kind_keeps setup t s r _ (served_kind setup t r s) (no_thread_runs p s.threads t there)))

outcome_right : (setup : Setup) (seat : Seat) (event : Event) (s : State) → IsSound setup s → GoesRight s event (moved_at setup seat event s) (outcome setup seat event s)
unfolding outcome
outcome_right setup (Proc p) (Call t r) s sound = call_of_right setup p t r s _ sound (call_of setup p t r s)
outcome_right setup (Proc p) Next s sound = next_right setup p s
outcome_right setup (Proc p) IoTake s sound = stray_right s IoTake Stray refl
outcome_right setup (Proc p) (IoDid effect) s sound = stray_right s (IoDid effect) Stray refl
outcome_right setup (IoSeat k) IoTake s sound = io_take_right k s
outcome_right setup (IoSeat k) (IoDid effect) s sound = io_did_right k effect s
outcome_right setup (IoSeat k) (Call t r) s sound = stray_right s (Call t r) Stray refl
outcome_right setup (IoSeat k) Next s sound = stray_right s Next Stray refl

counted_right : (s : State) (event : Event) (mv : List Move) (o : Outcome) (b : Bool) → makes_entry o.reply ≡ b → GoesRight s event mv o → GoesRight s event mv (counted s o)
counted_right s event mv o true e k = rw e (record { grows = k.grows; agrees = k.agrees; turns = k.turns })
counted_right s event mv o false e k =
    rw e (record { grows = grows_same mv s.chans; agrees = λ makes H seat here asked ms rs last a. absurd (cc (e, makes)); turns = k.turns })

pub step_right : (setup : Setup) (seat : Seat) (event : Event) (s : State) → IsSound setup s → GoesRight s event (moved_at setup seat event s) (step setup seat event s)
unfolding step
step_right setup seat event s sound = counted_right s event (moved_at setup seat event s) (outcome setup seat event s) _ refl (outcome_right setup seat event s sound)

counted_position : (s : State) (o : Outcome) → makes_entry o.reply ≡ true → (counted s o).state.position ≡ s.position + 1
counted_position s o h = rw h refl

-- an entry more
pub step_position : (setup : Setup) (seat : Seat) (event : Event) (s : State) → makes_entry (step setup seat event s).reply ≡ true → (step setup seat event s).state.position ≡ s.position + 1
unfolding step
step_position setup seat event s h = counted_position s (outcome setup seat event s) h
