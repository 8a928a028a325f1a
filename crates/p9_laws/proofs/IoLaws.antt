-- The laws that a server of ioprocs rests on.
use Rattle.std.proofs.Common.{◌≡◌, ℕ, ◌-◌, ◌≤◌, Bool, true, false, not, cond, ◌&&◌, ◌||◌, eqb, ltb, List, Option, Some, None, refl, ap, subst, ◌∙◌, arith, rules, tests}
use Rattle.std.specs.List.{list_any}
use Rattle.std.proofs.lemmas.Bool.{ltb-false, eqb-false, le-leb}
use Rattle.p9_word.specs.declared.limits.TheConstants.{MOST_READ_BYTES}
use Rattle.p9_word.specs.declared.io_call.IoCall.{IoCall}
use Rattle.p9_word.specs.declared.io_call.Effect.{Effect}
use Rattle.p9_word.specs.declared.request.Request.{Request}
use Rattle.p9_word.specs.declared.setup.Setup.{Setup}
use Rattle.p9_word.specs.declared.trail.Entry.{Entry}
use Rattle.p9_word.specs.declared.trail.Event.{Event}
use Rattle.p9_word.specs.declared.trail.Event.TheVariants.{Call, Next, IoTake, IoDid}
use Rattle.p9_word.specs.declared.trail.Reply.{Reply}
use Rattle.p9_word.specs.declared.trail.Reply.TheVariants.{Took, Noted, Over}
use Rattle.p9_word.specs.declared.trail.Seat.{Seat}
use Rattle.p9_word.specs.declared.trail.Seat.TheVariants.{Proc, Io}
use Rattle.p9_manual.specs.declared.state.Ioproc.{Ioproc}
use Rattle.p9_manual.specs.declared.state.Ioproc.TheVariants.{Unmade, Idle, Posted, Begun, Closed}
use Rattle.p9_manual.specs.Effects.{Fitting, Never, Always, Reads, Writes, IsFitting, fits, fitting, Fits, is_fitting, message_length}
use Rattle.p9_manual.specs.State.{State, Outcome, by_id, same}
use Rattle.p9_manual.specs.Places.{lives, runs_there}
use Rattle.p9_manual.specs.Ioprocs.{take_call, did_call, io_event}
use Rattle.p9_manual.specs.Step.{step, outcome, called, makes_entry, counted}
use Rattle.p9_manual.specs.History.{IsLegal, state_after}
use Rattle.p9_laws.specs.RunReplies.{reply_at, grown}
use Rattle.p9_laws.specs.IoReplies.{ioproc_after, IsPosted, IsBegun, IsTakeReply, IsDidReply, tells_effect, TakeReplies, DidReplies, TakenBegun, FittingNoted, TakenNoted, BegunStays, IsShortCall, HasShortCalls}
use Rattle.p9_laws.proofs.Tallies.{tally, tally-at}
use Rattle.p9_laws.proofs.Standing.{get_by_id, by_id-changed_same}
use Rattle.p9_laws.proofs.RunMoves.{IsUpright, is_long}
use Rattle.p9_laws.proofs.RunAsked.{running_called, elsewhere_called}
use Rattle.p9_laws.proofs.RunTurns.{next_turned, take_begun, did_begun}
use Rattle.p9_laws.proofs.RunHistory.{kept_after, state_with}

abbrev pub is_over_for_all : State → Bool
is_over_for_all s = s.over || not (list_any lives s.threads)

if_take : (io : Option Ioproc) (b : Bool) (o p : Outcome) → IsTakeReply io o.reply → IsTakeReply io p.reply → IsTakeReply io (cond b o p).reply
if_take io true o p f g = f
if_take io false o p f g = g

take_reply : (k : ℕ) (s : State) (o : Option Ioproc) → IsTakeReply o (take_call k s o).reply
take_reply k s None = tt
take_reply k s (Some Closed) = tt
take_reply k s (Some (Begun t call)) = if_take (Some (Begun t call)) (is_over_for_all s) _ _ tt tt
take_reply k s (Some (Posted t call)) = if_take (Some (Posted t call)) (is_over_for_all s) _ _ tt (t, refl)
take_reply k s (Some Unmade) = if_take (Some Unmade) (is_over_for_all s) _ _ tt tt
take_reply k s (Some Idle) = if_take (Some Idle) (is_over_for_all s) _ _ tt tt

step_take : (setup : Setup) (k : ℕ) (s : State) → IsTakeReply (by_id s.ioprocs k) (step setup (Io k) IoTake s).reply
unfolding step outcome io_event
step_take setup k s = take_reply k s (by_id s.ioprocs k)

pub take_replies : (setup : Setup) (H : List Entry) → TakeReplies setup H
take_replies setup H k = step_take setup k (state_after setup H)

if_did : (b : Bool) (o p : Outcome) → IsDidReply o.reply → IsDidReply p.reply → IsDidReply (cond b o p).reply
if_did true o p f g = f
if_did false o p f g = g

did_reply : (k : ℕ) (effect : Effect) (s : State) (o : Option Ioproc) → IsDidReply (did_call k effect s o).reply
did_reply k effect s None = tt
did_reply k effect s (Some Closed) = tt
did_reply k effect s (Some (Begun t call)) = if_did (fits call effect) _ _ tt tt
did_reply k effect s (Some (Posted t call)) = tt
did_reply k effect s (Some Unmade) = tt
did_reply k effect s (Some Idle) = tt

pub did_replies : (setup : Setup) (H : List Entry) → DidReplies setup H
unfolding step outcome io_event
did_replies setup H k effect = did_reply k effect (state_after setup H) (by_id (state_after setup H).ioprocs k)

if_took : (b : Bool) (s : State) (o : Outcome) (k : ℕ) (call : IoCall) → (cond b (same Over s) o).reply ≡ Took call → (o.reply ≡ Took call → IsBegun call (by_id o.state.ioprocs k)) → IsBegun call (by_id (cond b (same Over s) o).state.ioprocs k)
if_took true s o k call e f = cc
if_took false s o k call e f = f e

take_took : (k : ℕ) (s : State) (o : Option Ioproc) → by_id s.ioprocs k ≡ o → (call : IoCall) → (take_call k s o).reply ≡ Took call → IsBegun call (by_id (take_call k s o).state.ioprocs k)
take_took k s None at call e = cc
take_took k s (Some Closed) at call e = cc
take_took k s (Some (Begun t other)) at call e = if_took (is_over_for_all s) s _ k call e (λ h. cc)
take_took k s (Some (Posted t other)) at call e =
    if_took (is_over_for_all s) s _ k call e (λ h. let same : other ≡ call = cc in (Some t, by_id-changed_same (λ _. Begun (Some t) other) s.ioprocs k (Posted t other) at ∙ ap (λ x. Some (Begun (Some t) x)) same))
take_took k s (Some Unmade) at call e = if_took (is_over_for_all s) s _ k call e (λ h. cc)
take_took k s (Some Idle) at call e = if_took (is_over_for_all s) s _ k call e (λ h. cc)

counted_begun : (s : State) (o : Outcome) (k : ℕ) (call : IoCall) → makes_entry o.reply ≡ true → IsBegun call (by_id o.state.ioprocs k) → IsBegun call (by_id (counted s o).state.ioprocs k)
counted_begun s o k call makes h = rw makes h

step_took : (setup : Setup) (k : ℕ) (s : State) (call : IoCall) → (step setup (Io k) IoTake s).reply ≡ Took call → IsBegun call (by_id (step setup (Io k) IoTake s).state.ioprocs k)
unfolding step outcome io_event
step_took setup k s call e =
    counted_begun s (outcome setup (Io k) IoTake s) k call (rw e refl) (take_took k s (by_id s.ioprocs k) refl call e)

begun_with : (setup : Setup) (H : List Entry) (seat : Seat) (event : Event) (k : ℕ) (call : IoCall) → makes_entry (reply_at setup H seat event) ≡ true → IsBegun call (by_id (step setup seat event (state_after setup H)).state.ioprocs k) → IsBegun call (ioproc_after setup (grown setup H seat event) k)
begun_with setup H seat event k call makes h = rw (state_with setup H seat event (reply_at setup H seat event) makes) h

pub taken_begun : (setup : Setup) (H : List Entry) → TakenBegun setup H
taken_begun setup H k call took =
    begun_with setup H (Io k) IoTake k call (rw took refl) (step_took setup k (state_after setup H) call took)

-- what fits, as a test
both_true : (a b : Bool) → a ≡ true → b ≡ true → (a && b) ≡ true
both_true a b e f = rw (e, f) refl

fits_whole : (failed : Bool) (a b : ℕ) → (failed ≡ false → a ≡ b) → (failed || eqb a b) ≡ true
fits_whole true a b h = refl
fits_whole false a b h = let e = h refl in search (rules, tests)

fitting_true : (x : Fitting) → IsFitting x → is_fitting x ≡ true
fitting_true Never h = absurd h
fitting_true Always h = refl
fitting_true (Reads count most) h = both_true _ _ (le-leb count most h.0) (le-leb count MOST_READ_BYTES h.1)
fitting_true (Writes count whole failed) h = both_true _ _ (le-leb count whole h.0) (fits_whole failed count whole h.1)

fits_true : (call : IoCall) (effect : Effect) → Fits call effect → fits call effect ≡ true
fits_true call effect h = fitting_true (fitting call effect) h

fitting_noted_at : (k : ℕ) (effect : Effect) (s : State) (t : Option ℕ) (call : IoCall) → fits call effect ≡ true → (did_call k effect s (Some (Begun t call))).reply ≡ Noted
fitting_noted_at k effect s t call e = rw e refl

step_noted : (setup : Setup) (k : ℕ) (s : State) (call : IoCall) (effect : Effect) → IsBegun call (by_id s.ioprocs k) → Fits call effect → (step setup (Io k) (IoDid effect) s).reply ≡ Noted
unfolding step outcome io_event
step_noted setup k s call effect begun fit =
    rw (begun.1) (fitting_noted_at k effect s begun.0 call (fits_true call effect fit))

pub fitting_noted : (setup : Setup) (H : List Entry) → FittingNoted setup H
fitting_noted setup H k call effect begun fit = step_noted setup k (state_after setup H) call effect begun fit

pub taken_noted : (setup : Setup) (H : List Entry) → TakenNoted setup H
taken_noted setup H k call effect took fit = fitting_noted setup (grown setup H (Io k) IoTake) k call effect (taken_begun setup H k call took) fit

called_begun : (setup : Setup) (b : Bool) (p t : ℕ) (r : Request) (s : State) → runs_there p (by_id s.threads t) ≡ b → IsUpright s → (k : ℕ) (call : IoCall) → IsBegun call (by_id s.ioprocs k) → IsBegun call (by_id (called setup p t r s).state.ioprocs k)
called_begun setup true p t r s e upright k call h = (running_called setup p t r s upright e).begun k call h
called_begun setup false p t r s e upright k call h = rw (elsewhere_called setup p t r s e) h

outcome_begun : (setup : Setup) (seat : Seat) (event : Event) (s : State) → IsUpright s → makes_entry (outcome setup seat event s).reply ≡ true → (k : ℕ) (call : IoCall) → tells_effect k seat event ≡ false → IsBegun call (by_id s.ioprocs k) → IsBegun call (by_id (outcome setup seat event s).state.ioprocs k)
unfolding outcome io_event
outcome_begun setup (Proc p) (Call t r) s upright makes k call other h = called_begun setup _ p t r s refl upright k call h
outcome_begun setup (Proc p) Next s upright makes k call other h = (next_turned setup p s upright makes).begun k call h
outcome_begun setup (Proc p) IoTake s upright makes k call other h = h
outcome_begun setup (Proc p) (IoDid effect) s upright makes k call other h = h
outcome_begun setup (Io j) IoTake s upright makes k call other h = take_begun j s (by_id s.ioprocs j) refl k call h
outcome_begun setup (Io j) (IoDid effect) s upright makes k call other h = did_begun j effect s (by_id s.ioprocs j) refl k call (eqb-false k j other) h
outcome_begun setup (Io j) (Call t r) s upright makes k call other h = h
outcome_begun setup (Io j) Next s upright makes k call other h = h

step_begun : (setup : Setup) (seat : Seat) (event : Event) (s : State) → IsUpright s → makes_entry (step setup seat event s).reply ≡ true → (k : ℕ) (call : IoCall) → tells_effect k seat event ≡ false → IsBegun call (by_id s.ioprocs k) → IsBegun call (by_id (step setup seat event s).state.ioprocs k)
unfolding step
step_begun setup seat event s upright makes k call other h =
    counted_begun s (outcome setup seat event s) k call makes (outcome_begun setup seat event s upright makes k call other h)

begun_stays_with : (setup : Setup) (H : List Entry) (k : ℕ) (call : IoCall) (seat : Seat) (event : Event) (b : Bool) → makes_entry (reply_at setup H seat event) ≡ b → IsUpright (state_after setup H) → IsBegun call (ioproc_after setup H k) → tells_effect k seat event ≡ false → IsBegun call (ioproc_after setup (grown setup H seat event) k)
begun_stays_with setup H k call seat event true makes upright begun other =
    begun_with setup H seat event k call makes (step_begun setup seat event (state_after setup H) upright makes k call other begun)
begun_stays_with setup H k call seat event false makes upright begun other = rw makes begun

pub begun_stays : (setup : Setup) (H : List Entry) → BegunStays setup H
begun_stays setup H k call seat event legal begun other = begun_stays_with setup H k call seat event _ refl (kept_after setup H legal).upright begun other

short_if : (b : Bool) (n : ℕ) → ltb 4294967295 n ≡ b → (b ≡ true → 1 ≤ 0) → n ≤ 4294967295
short_if true n e h = absurd (let z = h refl in omega (arith, z))
short_if false n e h = ltb-false 4294967295 n e

short_at : (ios : List Ioproc) (k : ℕ) (io : Ioproc) (call : IoCall) → is_long io ≡ ltb 4294967295 (message_length call) → tally is_long ios ≡ 0 → by_id ios k ≡ Some io → IsShortCall call
short_at ios k io call is none at =
    short_if (ltb 4294967295 (message_length call)) (message_length call) refl
    (λ long. let n = tally-at is_long ios (k - 1) io (get_by_id ios k io at) (is ∙ long) in omega (arith, n, none))

posted_short : (ios : List Ioproc) (k : ℕ) (call : IoCall) → tally is_long ios ≡ 0 → IsPosted call (by_id ios k) → IsShortCall call
posted_short ios k call none h = short_at ios k (Posted h.0 call) call refl none (h.1)

pub short_calls : (setup : Setup) (H : List Entry) → IsLegal setup H → HasShortCalls setup H
short_calls setup H legal =
    let none = (kept_after setup H legal).upright.short in
    record {
      posted = λ k call h. posted_short (state_after setup H).ioprocs k call none h;
      begun = λ k call h. short_at (state_after setup H).ioprocs k (Begun h.0 call) call refl none (h.1);
      taken = λ k call took. posted_short (state_after setup H).ioprocs k call none (subst (λ (r : Reply). IsTakeReply (ioproc_after setup H k) r) took (take_replies setup H k));
    }
