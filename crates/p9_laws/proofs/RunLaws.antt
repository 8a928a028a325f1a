-- The laws that a runner of threads rests on.
use Rattle.std.proofs.Common.{◌≡◌, ℕ, ◌-◌, ◌≤◌, Bool, true, false, not, cond, ◌&&◌, ◌||◌, eqb, leb, List, Option, Some, None, refl, subst, inl, inr, arith}
use Rattle.std.specs.Prelude.{option_map}
use Rattle.std.specs.List.{list_any}
use Rattle.std.proofs.lemmas.Bool.{and_parts, leb-true, le-leb, eqb-true}
use Rattle.p9_word.specs.declared.answer.Answer.{Answer}
use Rattle.p9_word.specs.declared.request.Request.{Request}
use Rattle.p9_word.specs.declared.setup.Setup.{Setup}
use Rattle.p9_word.specs.declared.trail.Entry.{Entry}
use Rattle.p9_word.specs.declared.trail.Event.{Event}
use Rattle.p9_word.specs.declared.trail.Event.TheVariants.{Call, Next}
use Rattle.p9_word.specs.declared.trail.Reply.{Reply}
use Rattle.p9_word.specs.declared.trail.Reply.TheVariants.{Now, Begin, Turn, Over, Stray}
use Rattle.p9_word.specs.declared.trail.Seat.{Seat}
use Rattle.p9_word.specs.declared.trail.Seat.TheVariants.{Proc}
use Rattle.p9_manual.specs.declared.state.Place.{Place}
use Rattle.p9_manual.specs.declared.state.Place.TheVariants.{Running, New, Ready, Waiting, Ended}
use Rattle.p9_manual.specs.declared.state.Thread.{Thread}
use Rattle.p9_manual.specs.State.{State, Outcome, by_id, placed, at_place, same}
use Rattle.p9_manual.specs.NoteCalls.{met_by, next_note}
use Rattle.p9_manual.specs.Notes.{Delivery}
use Rattle.p9_manual.specs.Places.{is_of, runs_in, runs_there, lives, lives_in, is_ended}
use Rattle.p9_manual.specs.Stuck.{is_stuck}
use Rattle.p9_manual.specs.Next.{next_event, note_first, first_ready, next_of, turn, turn_reply, started, is_place, is_over}
use Rattle.p9_manual.specs.Step.{step, outcome, makes_entry, counted}
use Rattle.p9_manual.specs.History.{IsLegal, state_after}
use Rattle.p9_manual.specs.Programs.{Life, life}
use Rattle.p9_laws.specs.RunReplies.{reply_at, grown, IsCallReply, IsNextReply, IsGiven, RunsAfter, RunningLive, TurnReplies, TurnsRun, CallReplies, AnsweredRunOn, OverStays, GrownLegal, LivesGo, ProgramsGo}
use Rattle.p9_laws.proofs.Tallies.{tally, tally-at, tally-le, tally_none, none_tally, pick_passes}
use Rattle.p9_laws.proofs.Standing.{IsUp, place_of, place_runs, get_by_id, by_id-changed_same}
use Rattle.p9_laws.proofs.RunMoves.{IsUpright, IsFading}
use Rattle.p9_laws.proofs.FirstReady.{in_proc, first_parts}
use Rattle.p9_laws.proofs.RunAsked.{IsNewIn, IsShut, running_called}
use Rattle.p9_laws.proofs.RunSteps.{IsStepped, step_stepped}
use Rattle.p9_laws.proofs.RunMembers.{program_at, is_foreign}
use Rattle.p9_laws.proofs.RunHistory.{Agrees, AgreesIn, kept_after, life_grown, programs_grown, state_with, legal_grown}

pub running_live : (setup : Setup) (H : List Entry) → RunningLive setup H
running_live setup H p t legal runs =
    let kept = kept_after setup H legal in
    let up : IsUp (place_of (state_after setup H).threads t) = rw (place_runs p (by_id (state_after setup H).threads t) runs) tt in
    (kept.agrees t).living up

turn_lively : (lives : ℕ → Life) (programs t : ℕ) (x : Thread) (pl : Place) → x.place ≡ pl → AgreesIn (Some x) (lives t) → (1 ≤ x.program) × (x.program ≤ programs) → IsNextReply lives programs (turn_reply t (x.program, x.arg, pl))
turn_lively lives programs t x New is h own = (h.unborn (rw is refl), own.0, own.1)
turn_lively lives programs t x (Ready a) is h own = h.living (rw is tt)
turn_lively lives programs t x Running is h own = tt
turn_lively lives programs t x Waiting is h own = tt
turn_lively lives programs t x Ended is h own = tt

turned_lively : (lives : ℕ → Life) (programs t : ℕ) (s more : State) (o : Option Thread) → by_id s.threads t ≡ o → Agrees lives s.threads → tally (is_foreign programs) s.threads ≡ 0 → IsNextReply lives programs (turn t more (option_map started o)).reply
turned_lively lives programs t s more None at before none = tt
turned_lively lives programs t s more (Some x) at before none =
    turn_lively lives programs t x x.place refl (subst (λ (o : Option Thread). AgreesIn o (lives t)) at (before t)) (program_at programs s.threads t x none at)

if_lively : (lives : ℕ → Life) (programs : ℕ) (b : Bool) (o p : Outcome) → IsNextReply lives programs o.reply → IsNextReply lives programs p.reply → IsNextReply lives programs (cond b o p).reply
if_lively lives programs true o p f g = f
if_lively lives programs false o p f g = g

next_of_lively : (lives : ℕ → Life) (programs : ℕ) (s : State) (o : Option (ℕ × List ℕ)) → Agrees lives s.threads → tally (is_foreign programs) s.threads ≡ 0 → IsNextReply lives programs (next_of s o).reply
next_of_lively lives programs s None before none = if_lively lives programs (is_stuck s) _ _ tt tt
next_of_lively lives programs s (Some found) before none = turned_lively lives programs found.0 s _ (by_id s.threads found.0) refl before none

met_lively : (lives : ℕ → Life) (programs p : ℕ) (note : List ℕ) (o : Option ℕ) (s : State) → IsNextReply lives programs (met_by p note o s).reply
met_lively lives programs p note (Some id) s = tt
met_lively lives programs p note None s = tt

note_lively : (lives : ℕ → Life) (programs p : ℕ) (s : State) (o : Option Delivery) → Agrees lives s.threads → tally (is_foreign programs) s.threads ≡ 0 → IsNextReply lives programs (note_first p s o).reply
note_lively lives programs p s None before none = next_of_lively lives programs s (first_ready p s) before none
note_lively lives programs p s (Some d) before none = met_lively lives programs p d.note d.caught_by _

step_lively : (setup : Setup) (p : ℕ) (s : State) (lives : ℕ → Life) → Agrees lives s.threads → tally (is_foreign setup.programs) s.threads ≡ 0 → IsNextReply lives setup.programs (step setup (Proc p) Next s).reply
unfolding step outcome next_event
step_lively setup p s lives before none =
    if_lively lives setup.programs (not (is_place setup p)) _ _ tt
    (if_lively lives setup.programs (is_over p s) _ _ tt
    (if_lively lives setup.programs (list_any (runs_in p) s.threads) _ _ tt
    (note_lively lives setup.programs p s (next_note p s) before none)))

pub turn_replies : (setup : Setup) (H : List Entry) → TurnReplies setup H
turn_replies setup H p valid legal =
    let kept = kept_after setup H legal in
    step_lively setup p (state_after setup H) (λ t. life t H) kept.agrees (kept.members valid).programs

-- the thread that has the turn runs in p
abbrev pub RunsNow : ℕ → Outcome → Type 0
RunsNow p o = IsGiven (λ t. runs_there p (by_id o.state.threads t) ≡ true) o.reply

started_runs : (p t : ℕ) (threads : List Thread) (x : Thread) → by_id threads t ≡ Some x → eqb x.proc_no p ≡ true → runs_there p (by_id (placed t Running threads) t) ≡ true
started_runs p t threads x at of = rw (by_id-changed_same (at_place Running) threads t x at, of) refl

turn_runs : (p t : ℕ) (s : State) (x : Thread) (pl : Place) → by_id s.threads t ≡ Some x → eqb x.proc_no p ≡ true → RunsNow p (turn t s (Some (x.program, x.arg, pl)))
turn_runs p t s x New at of = started_runs p t s.threads x at of
turn_runs p t s x (Ready a) at of = started_runs p t s.threads x at of
turn_runs p t s x Running at of = tt
turn_runs p t s x Waiting at of = tt
turn_runs p t s x Ended at of = tt

turned_runs : (p t : ℕ) (s : State) (o : Option Thread) → by_id s.threads t ≡ o → is_of p o ≡ true → RunsNow p (turn t s (option_map started o))
turned_runs p t s None at of = tt
turned_runs p t s (Some x) at of = turn_runs p t s x x.place at of

if_runs : (p : ℕ) (b : Bool) (o q : Outcome) → RunsNow p o → RunsNow p q → RunsNow p (cond b o q)
if_runs p true o q f g = f
if_runs p false o q f g = g

next_of_runs : (p : ℕ) (s : State) (o : Option (ℕ × List ℕ)) → first_ready p s ≡ o → RunsNow p (next_of s o)
next_of_runs p s None e = if_runs p (is_stuck s) _ _ tt tt
next_of_runs p s (Some found) e =
    turned_runs p found.0 (record s { line = found.1 }) (by_id s.threads found.0) refl (pick_passes (in_proc p s) s.line found.0 found.1 (first_parts p s found e).1)

met_runs : (p : ℕ) (note : List ℕ) (o : Option ℕ) (s : State) → RunsNow p (met_by p note o s)
met_runs p note (Some id) s = tt
met_runs p note None s = tt

note_runs : (p : ℕ) (s : State) (o : Option Delivery) → RunsNow p (note_first p s o)
note_runs p s None = next_of_runs p s (first_ready p s) refl
note_runs p s (Some d) = met_runs p d.note d.caught_by _

given_on : (P Q : ℕ → Type 0) (r : Reply) → (makes_entry r ≡ true → (t : ℕ) → P t → Q t) → IsGiven P r → IsGiven Q r
given_on P Q (Begin t program arg) f h = f refl t h
given_on P Q (Turn t a) f h = f refl t h
given_on P Q r f h = tt

counted_runs : (p : ℕ) (s : State) (o : Outcome) → RunsNow p o → RunsNow p (counted s o)
counted_runs p s o =
    given_on (λ t. runs_there p (by_id o.state.threads t) ≡ true) (λ t. runs_there p (by_id (counted s o).state.threads t) ≡ true) o.reply
    (λ makes t h. rw makes h)

step_runs : (setup : Setup) (p : ℕ) (s : State) → RunsNow p (step setup (Proc p) Next s)
unfolding step outcome next_event
step_runs setup p s =
    counted_runs p s (outcome setup (Proc p) Next s)
    (if_runs p (not (is_place setup p)) _ _ tt
    (if_runs p (is_over p s) _ _ tt
    (if_runs p (list_any (runs_in p) s.threads) _ _ tt (note_runs p s (next_note p s)))))

pub turns_run : (setup : Setup) (H : List Entry) → TurnsRun setup H
turns_run setup H p =
    given_on (λ t. runs_there p (by_id (step setup (Proc p) Next (state_after setup H)).state.threads t) ≡ true) (RunsAfter setup (grown setup H (Proc p) Next) p) (reply_at setup H (Proc p) Next)
    (λ makes t h. rw (state_with setup H (Proc p) Next (reply_at setup H (Proc p) Next) makes) h)
    (step_runs setup p (state_after setup H))

-- what a call of a thread that runs comes to
record IsAnswered (t : ℕ) (s : State) (o : Outcome) : Type 0 where
  reply : IsCallReply o.reply
  stays : (a : Answer) → o.reply ≡ Now a → (p : ℕ) → runs_there p (by_id s.threads t) ≡ true → runs_there p (by_id o.state.threads t) ≡ true

counted_answered : (t : ℕ) (s : State) (o : Outcome) → IsAnswered t s o → IsAnswered t s (counted s o)
counted_answered t s o is =
    record {
      reply = is.reply;
      stays = λ a now p runs. let makes : makes_entry o.reply ≡ true = rw now refl in rw makes (is.stays a now p runs);
    }

step_answered : (setup : Setup) (p t : ℕ) (r : Request) (s : State) → IsUpright s → runs_there p (by_id s.threads t) ≡ true → IsAnswered t s (step setup (Proc p) (Call t r) s)
unfolding step outcome
step_answered setup p t r s upright runs =
    let is = running_called setup p t r s upright runs in
    counted_answered t s (outcome setup (Proc p) (Call t r) s) (record { reply = is.reply; stays = is.stays })

pub call_replies : (setup : Setup) (H : List Entry) → CallReplies setup H
call_replies setup H p t r legal runs = (step_answered setup p t r (state_after setup H) (kept_after setup H legal).upright runs).reply

pub answered_run_on : (setup : Setup) (H : List Entry) → AnsweredRunOn setup H
answered_run_on setup H p t r a legal runs now =
    let is = step_answered setup p t r (state_after setup H) (kept_after setup H legal).upright runs in
    let makes : makes_entry (reply_at setup H (Proc p) (Call t r)) ≡ true = rw now refl in
    rw (state_with setup H (Proc p) (Call t r) (reply_at setup H (Proc p) (Call t r)) makes) (is.stays a now p runs)

-- why a proc's turns are over
over_if : (b : Bool) (o : Outcome) (s : State) → (o.reply ≡ Over → ⊥) → (cond b (same Over s) o).reply ≡ Over → b ≡ true
over_if true o s h e = refl
over_if false o s h e = absurd (h e)

stray_if : (b : Bool) (o : Outcome) (s : State) → (cond (not b) (same Stray s) o).reply ≡ Over → (b ≡ true) × (o.reply ≡ Over)
stray_if true o s e = (refl, e)
stray_if false o s e = cc

unless : (b : Bool) (o p : Outcome) → (o.reply ≡ Over → ⊥) → (p.reply ≡ Over → ⊥) → (cond b o p).reply ≡ Over → ⊥
unless true o p f g = f
unless false o p f g = g

turn_not_over : (t : ℕ) (program arg : ℕ) (pl : Place) → turn_reply t (program, arg, pl) ≡ Over → ⊥
turn_not_over t program arg New e = cc
turn_not_over t program arg (Ready a) e = cc
turn_not_over t program arg Running e = cc
turn_not_over t program arg Waiting e = cc
turn_not_over t program arg Ended e = cc

turned_not_over : (t : ℕ) (s : State) (o : Option Thread) → (turn t s (option_map started o)).reply ≡ Over → ⊥
turned_not_over t s None e = cc
turned_not_over t s (Some x) e = turn_not_over t x.program x.arg x.place e

next_of_not_over : (s : State) (o : Option (ℕ × List ℕ)) → (next_of s o).reply ≡ Over → ⊥
next_of_not_over s None = unless (is_stuck s) _ _ (λ e. cc) (λ e. cc)
next_of_not_over s (Some found) = turned_not_over found.0 _ (by_id s.threads found.0)

met_not_over : (p : ℕ) (note : List ℕ) (o : Option ℕ) (s : State) → (met_by p note o s).reply ≡ Over → ⊥
met_not_over p note (Some id) s e = cc
met_not_over p note None s e = cc

note_not_over : (p : ℕ) (s : State) (o : Option Delivery) → (note_first p s o).reply ≡ Over → ⊥
note_not_over p s None = next_of_not_over s (first_ready p s)
note_not_over p s (Some d) = met_not_over p d.note d.caught_by _

pub over_cause : (setup : Setup) (q : ℕ) (s : State) → (step setup (Proc q) Next s).reply ≡ Over → (is_place setup q ≡ true) × (is_over q s ≡ true)
unfolding step outcome next_event
over_cause setup q s e =
    let there = stray_if (is_place setup q) _ s e in
    (there.0, over_if (is_over q s) _ s (unless (list_any (runs_in q) s.threads) _ _ (λ h. cc) (note_not_over q s (next_note q s))) there.1)

pub over_reply : (setup : Setup) (q : ℕ) (s : State) → is_place setup q ≡ true → is_over q s ≡ true → (step setup (Proc q) Next s).reply ≡ Over
unfolding step outcome next_event
over_reply setup q s place over = rw (place, over) refl

lives_fades : IsFading lives
lives_fades x pl alive h = rw alive refl

lives_in_fades : (q : ℕ) → IsFading (lives_in q)
lives_in_fades q x pl alive h = let parts = and_parts (eqb x.proc_no q) (not (is_ended pl)) h in rw (parts.0, alive) refl

fresh_step : (b : Bool) → (b ≡ true → ⊥) → (b && true) ≡ false
fresh_step true h = absurd (h refl)
fresh_step false h = refl

-- who makes a thread lives, and so does somebody
maker_lives : (setup : Setup) (s : State) (n p program : ℕ) → IsNewIn setup s n p program → 1 ≤ tally lives s.threads
maker_lives setup s n p program is =
    tally-at lives s.threads (is.t - 1) is.caller (get_by_id s.threads is.t is.caller is.there) (let e = is.runs in rw e refl)

-- where nobody lives, nobody comes to live
pub lives_shut : (setup : Setup) (s : State) (n : ℕ) → tally lives s.threads ≡ 0 → IsShut setup s n lives
lives_shut setup s n none =
    record {
      fading = lives_fades;
      kept = λ x y proc program place h. rw place at h;
      fresh = λ p program arg group is. absurd (let k = maker_lives setup s n p program is in omega (arith, k, none));
    }

-- and where nobody lives in an open proc, nobody comes to live there
lives_in_shut : (setup : Setup) (q : ℕ) (s : State) (n : ℕ) → q ≤ s.opened → tally (lives_in q) s.threads ≡ 0 → IsShut setup s n (lives_in q)
lives_in_shut setup q s n open_now none =
    record {
      fading = lives_in_fades q;
      kept = λ x y proc program place h. rw (proc, place) at h;
      fresh = λ p program arg group is. fresh_step (eqb p q) (elsewhere p program is);
    }
  where
    elsewhere : (p program : ℕ) → IsNewIn setup s n p program → eqb p q ≡ true → ⊥
    elsewhere p program is e = elim (is.proc_no) [
      | inl same ↦
          let here : eqb is.caller.proc_no q ≡ true = rw (← same) e in
          let runs = is.runs in
          let k = tally-at (lives_in q) s.threads (is.t - 1) is.caller (get_by_id s.threads is.t is.caller is.there) (rw (here, runs) refl) in
          omega (arith, k, none)
      | inr next ↦ let h = eqb-true p q e in omega (arith, h, next, open_now)
    ]

lives_in_lives : (q : ℕ) (x : Thread) → lives_in q x ≡ true → lives x ≡ true
lives_in_lives q x h = (and_parts (eqb x.proc_no q) (not (is_ended x.place)) h).1

-- nobody comes to live in a proc that nobody lives in, or in any while that isn't open
over_for : (setup : Setup) (q : ℕ) (s : State) (o : Outcome) (b c : Bool) → leb q s.opened ≡ b → leb q o.state.opened ≡ c → IsStepped setup s o → list_any (cond b (lives_in q) lives) s.threads ≡ false → list_any (cond c (lives_in q) lives) o.state.threads ≡ false
over_for setup q s o true true was now is none =
    let z = tally_none (lives_in q) s.threads none in
    let k = is.tallies (lives_in q) (lives_in_shut setup q s o.state.opened (leb-true q s.opened was) z) in
    none_tally (lives_in q) o.state.threads (omega (arith, k, z))
over_for setup q s o true false was now is none =
    absurd (let low = leb-true q s.opened was in let more = is.grows in let e = le-leb q o.state.opened (omega (arith, low, more)) in cc (e, now))
over_for setup q s o false true was now is none =
    let z = tally_none lives s.threads none in
    let k = is.tallies lives (lives_shut setup s o.state.opened z) in
    let fewer = tally-le (lives_in q) lives (lives_in_lives q) o.state.threads in
    none_tally (lives_in q) o.state.threads (omega (arith, k, z, fewer))
over_for setup q s o false false was now is none =
    let z = tally_none lives s.threads none in
    let k = is.tallies lives (lives_shut setup s o.state.opened z) in
    none_tally lives o.state.threads (omega (arith, k, z))

still_over : (a b c d : Bool) → (a ≡ true → c ≡ true) → (b ≡ false → d ≡ false) → (a || not b) ≡ true → (c || not d) ≡ true
still_over true b c d f g h = rw (f refl) refl
still_over false true c d f g h = cc
still_over false false true d f g h = refl
still_over false false false d f g h = rw (g refl) refl

over_on : (setup : Setup) (q : ℕ) (s : State) (o : Outcome) → IsStepped setup s o → is_over q s ≡ true → is_over q o.state ≡ true
over_on setup q s o is h =
    still_over s.over (list_any (cond (leb q s.opened) (lives_in q) lives) s.threads) o.state.over (list_any (cond (leb q o.state.opened) (lives_in q) lives) o.state.threads)
    is.over (over_for setup q s o (leb q s.opened) (leb q o.state.opened) refl refl is) h

over_with : (setup : Setup) (H : List Entry) (q : ℕ) (seat : Seat) (event : Event) (b : Bool) → makes_entry (reply_at setup H seat event) ≡ b → IsUpright (state_after setup H) → reply_at setup H (Proc q) Next ≡ Over → reply_at setup (grown setup H seat event) (Proc q) Next ≡ Over
over_with setup H q seat event true makes upright over =
    let cause = over_cause setup q (state_after setup H) over in
    rw (reply_at, state_with setup H seat event (reply_at setup H seat event) makes)
    (over_reply setup q _ cause.0 (over_on setup q (state_after setup H) _ (step_stepped setup seat event (state_after setup H) upright makes) cause.1))
over_with setup H q seat event false makes upright over = rw makes over

pub over_stays : (setup : Setup) (H : List Entry) → OverStays setup H
over_stays setup H q seat event legal over = over_with setup H q seat event _ refl (kept_after setup H legal).upright over

legal_with : (setup : Setup) (H : List Entry) (seat : Seat) (event : Event) (b : Bool) → makes_entry (reply_at setup H seat event) ≡ b → IsLegal setup H → IsLegal setup (grown setup H seat event)
legal_with setup H seat event true makes legal = rw makes (legal_grown setup H (record { seat = seat; event = event; reply = reply_at setup H seat event }) legal refl makes)
legal_with setup H seat event false makes legal = rw makes legal

pub grown_legal : (setup : Setup) (H : List Entry) → GrownLegal setup H
grown_legal setup H seat event legal = legal_with setup H seat event _ refl legal

pub lives_go : (H : List Entry) → LivesGo H
lives_go H t e = life_grown t H e

pub programs_go : (H : List Entry) → ProgramsGo H
programs_go H asks e runs asked = programs_grown asks H e runs asked
