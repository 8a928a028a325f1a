-- What tells the end of a run: a run whose turns are over ends with Stuck, or none of its threads lives.
use Rattle.std.proofs.Common.{◌≡◌, ◌⊎◌, ℕ, ◌-◌, ◌≤◌, Bool, true, false, not, cond, ◌&&◌, ◌||◌, eqb, leb, List, [], ◌∷◌, length, Option, Some, None, refl, ap, inl, inr, arith}
use Rattle.std.specs.Prelude.{slice_get}
use Rattle.std.specs.List.{list_any, fold}
use Rattle.std.proofs.lemmas.Bool.{le-leb, or_parts}
use Rattle.p9_word.specs.Setup.{IsValid}
use Rattle.p9_word.specs.declared.io_call.Effect.{Effect}
use Rattle.p9_word.specs.declared.request.Request.{Request}
use Rattle.p9_word.specs.declared.setup.Setup.{Setup}
use Rattle.p9_word.specs.declared.trail.Entry.{Entry}
use Rattle.p9_word.specs.declared.trail.Event.{Event}
use Rattle.p9_word.specs.declared.trail.Event.TheVariants.{Call, Next, IoTake, IoDid}
use Rattle.p9_word.specs.declared.trail.Reply.TheVariants.{Idle as IdleReply, Over, Stray}
use Rattle.p9_word.specs.declared.trail.Seat.{Seat}
use Rattle.p9_word.specs.declared.trail.Seat.TheVariants.{Proc, Io as IoSeat}
use Rattle.p9_manual.specs.declared.state.Place.{Place}
use Rattle.p9_manual.specs.declared.state.Thread.{Thread}
use Rattle.p9_manual.specs.declared.state.Ioproc.{Ioproc}
use Rattle.p9_manual.specs.declared.state.Ioproc.TheVariants.{Unmade, Idle, Posted, Begun, Closed}
use Rattle.p9_manual.specs.State.{State, Outcome, by_id, same}
use Rattle.p9_manual.specs.NoteCalls.{met_by, next_note, with_pending, with_proc}
use Rattle.p9_manual.specs.Notes.{Delivery}
use Rattle.p9_manual.specs.Places.{lives, lives_in, runs, runs_in, runs_there, has_call, is_ended, is_running}
use Rattle.p9_manual.specs.Stuck.{is_stuck}
use Rattle.p9_manual.specs.Ioprocs.{take_call, did_call, io_event}
use Rattle.p9_manual.specs.Next.{next_event, note_first, first_ready, next_of, turn, is_place, is_over}
use Rattle.p9_manual.specs.Step.{step, outcome, called, makes_entry, counted}
use Rattle.p9_manual.specs.History.{IsLegal, IsLegalFrom, after_entry, begin_state, state_after}
use Rattle.p9_laws.specs.RunReplies.{reply_at}
use Rattle.p9_laws.specs.Ending.{is_stuck_reply, stuck_at, HasEnded, EndsOver}
use Rattle.p9_laws.proofs.Tallies.{tally, tally-at, tally_none, none_tally, none_first}
use Rattle.p9_laws.proofs.Standing.{get_by_id}
use Rattle.p9_laws.proofs.RunMoves.{IsUpright, same_id}
use Rattle.p9_laws.proofs.RunAsked.{running_called, elsewhere_called}
use Rattle.p9_laws.proofs.RunTurns.{io_served}
use Rattle.p9_laws.proofs.RunSteps.{IsStepped, step_stepped}
use Rattle.p9_laws.proofs.RunMembers.{is_outside, proc_at}
use Rattle.p9_laws.proofs.RunHistory.{kept_after}
use Rattle.p9_laws.proofs.RunLaws.{over_cause, lives_shut}
use Rattle.p9_laws.proofs.StuckLaws.{still}

and_not : (a b : Bool) → (b ≡ true → ⊥) → (a && b) ≡ false
and_not true true h = absurd (h refl)
and_not true false h = refl
and_not false b h = refl

none_there : (p t : ℕ) (threads : List Thread) (o : Option Thread) → by_id threads t ≡ o → tally runs threads ≡ 0 → runs_there p o ≡ false
none_there p t threads None at none = refl
none_there p t threads (Some x) at none =
    and_not (eqb x.proc_no p) (is_running x.place) (λ h. let k = tally-at runs threads (t - 1) x (get_by_id threads t x at) h in omega (arith, k, none))

-- what makes no entry
abbrev pub IsSilent : Outcome → Type 0
IsSilent o = makes_entry o.reply ≡ false

if_silent : (b : Bool) (o p : Outcome) → IsSilent o → IsSilent p → IsSilent (cond b o p)
if_silent true o p f g = f
if_silent false o p f g = g

called_silent : (setup : Setup) (p t : ℕ) (r : Request) (s : State) → is_stuck s ≡ true → IsSilent (called setup p t r s)
called_silent setup p t r s stuck =
    let none = none_there p t s.threads (by_id s.threads t) refl (tally_none runs s.threads (still s stuck).runs) in
    rw (elsewhere_called setup p t r s none) refl

over_at : (p : ℕ) (s : State) → s.over ≡ true → is_over p s ≡ true
over_at p s over = rw over refl

next_silent : (setup : Setup) (p : ℕ) (s : State) → s.over ≡ true → IsSilent (next_event setup p s)
unfolding next_event
next_silent setup p s over = if_silent (not (is_place setup p)) _ _ refl (rw (over_at p s over) refl)

take_silent : (k : ℕ) (s : State) (o : Option Ioproc) → s.over ≡ true → IsSilent (take_call k s o)
take_silent k s None over = refl
take_silent k s (Some Closed) over = refl
take_silent k s (Some (Begun t call)) over = rw over refl
take_silent k s (Some (Posted t call)) over = rw over refl
take_silent k s (Some Unmade) over = rw over refl
take_silent k s (Some Idle) over = rw over refl

did_silent : (k : ℕ) (effect : Effect) (s : State) (o : Option Ioproc) → by_id s.ioprocs k ≡ o → tally has_call s.ioprocs ≡ 0 → IsSilent (did_call k effect s o)
did_silent k effect s None at none = refl
did_silent k effect s (Some Closed) at none = refl
did_silent k effect s (Some (Posted t call)) at none = refl
did_silent k effect s (Some Unmade) at none = refl
did_silent k effect s (Some Idle) at none = refl
did_silent k effect s (Some (Begun t call)) at none =
    absurd (let z = tally-at has_call s.ioprocs (k - 1) (Begun t call) (get_by_id s.ioprocs k (Begun t call) at) refl in omega (arith, z, none))

outcome_silent : (setup : Setup) (seat : Seat) (event : Event) (s : State) → s.over ≡ true → is_stuck s ≡ true → IsSilent (outcome setup seat event s)
unfolding outcome io_event
outcome_silent setup (Proc p) (Call t r) s over stuck = called_silent setup p t r s stuck
outcome_silent setup (Proc p) Next s over stuck = next_silent setup p s over
outcome_silent setup (Proc p) IoTake s over stuck = refl
outcome_silent setup (Proc p) (IoDid effect) s over stuck = refl
outcome_silent setup (IoSeat k) IoTake s over stuck = take_silent k s (by_id s.ioprocs k) over
outcome_silent setup (IoSeat k) (IoDid effect) s over stuck =
    did_silent k effect s (by_id s.ioprocs k) refl (tally_none has_call s.ioprocs (still s stuck).calls)
outcome_silent setup (IoSeat k) (Call t r) s over stuck = refl
outcome_silent setup (IoSeat k) Next s over stuck = refl

-- once a stuck run is at its end, no event makes an entry
step_silent : (setup : Setup) (seat : Seat) (event : Event) (s : State) → s.over ≡ true → is_stuck s ≡ true → IsSilent (step setup seat event s)
unfolding step
step_silent setup seat event s over stuck = outcome_silent setup seat event s over stuck

-- the run is brought to its end by Stuck, in a state that is stuck, or by the end of all threads
record IsEndRight (o : Outcome) : Type 0 where
  cause : o.state.over ≡ true → ((is_stuck o.state ≡ true) × (is_stuck_reply o.reply ≡ true)) ⊎ (tally lives o.state.threads ≡ 0)

goes_on : (s : State) (o : Outcome) → s.over ≡ false → o.state.over ≡ s.over → IsEndRight o
goes_on s o going is = record { cause = λ h. absurd (cc (going, is, h)) }

if_over : (b : Bool) (o p : Outcome) → (b ≡ true → IsEndRight o) → (b ≡ false → IsEndRight p) → IsEndRight (cond b o p)
if_over true o p f g = f refl
if_over false o p f g = g refl

called_over : (setup : Setup) (b : Bool) (p t : ℕ) (r : Request) (s : State) → runs_there p (by_id s.threads t) ≡ b → IsUpright s → s.over ≡ false → IsEndRight (called setup p t r s)
called_over setup true p t r s e upright going = elim ((running_called setup p t r s upright e).ending) [
  | inl same ↦ goes_on s _ going same
  | inr none ↦ record { cause = λ h. inr none }
]
called_over setup false p t r s e upright going = goes_on s _ going (ap (λ o. o.state.over) (elsewhere_called setup p t r s e))

turn_over : (t : ℕ) (s : State) (o : Option (ℕ × ℕ × Place)) → s.over ≡ false → IsEndRight (turn t s o)
turn_over t s None going = goes_on s _ going refl
turn_over t s (Some start) going = goes_on s _ going refl

next_of_over : (s : State) (o : Option (ℕ × List ℕ)) → s.over ≡ false → IsEndRight (next_of s o)
next_of_over s None going = if_over (is_stuck s) _ _ (λ e. record { cause = λ h. inl (e, refl) }) (λ e. goes_on s (same IdleReply s) going refl)
next_of_over s (Some found) going = turn_over found.0 (record s { line = found.1 }) _ going

met_over : (p : ℕ) (note : List ℕ) (pending : List (List ℕ)) (o : Option ℕ) (s : State) → s.over ≡ false → IsEndRight (met_by p note o (with_proc (with_pending pending) p s))
met_over p note pending (Some id) s going = goes_on s _ going refl
met_over p note pending None s going = goes_on s _ going refl

note_over : (p : ℕ) (s : State) (o : Option Delivery) → s.over ≡ false → IsEndRight (note_first p s o)
note_over p s None going = next_of_over s (first_ready p s) going
note_over p s (Some d) going = met_over p d.note d.pending d.caught_by s going

next_over : (setup : Setup) (p : ℕ) (s : State) → s.over ≡ false → IsEndRight (next_event setup p s)
unfolding next_event
next_over setup p s going =
    if_over (not (is_place setup p)) _ _ (λ e. goes_on s (same Stray s) going refl)
    (λ e. if_over (is_over p s) _ _ (λ e. goes_on s (same Over s) going refl)
    (λ e. if_over (list_any (runs_in p) s.threads) _ _ (λ e. goes_on s (same Stray s) going refl)
    (λ e. note_over p s (next_note p s) going)))

outcome_over : (setup : Setup) (seat : Seat) (event : Event) (s : State) → IsUpright s → s.over ≡ false → IsEndRight (outcome setup seat event s)
unfolding outcome
outcome_over setup (Proc p) (Call t r) s upright going = called_over setup _ p t r s refl upright going
outcome_over setup (Proc p) Next s upright going = next_over setup p s going
outcome_over setup (Proc p) IoTake s upright going = goes_on s _ going refl
outcome_over setup (Proc p) (IoDid effect) s upright going = goes_on s _ going refl
outcome_over setup (IoSeat k) IoTake s upright going = goes_on s _ going (io_served k s None upright).over
outcome_over setup (IoSeat k) (IoDid effect) s upright going = goes_on s _ going (io_served k s (Some effect) upright).over
outcome_over setup (IoSeat k) (Call t r) s upright going = goes_on s _ going refl
outcome_over setup (IoSeat k) Next s upright going = goes_on s _ going refl

counted_over : (s : State) (o : Outcome) (b : Bool) → makes_entry o.reply ≡ b → s.over ≡ false → IsEndRight o → IsEndRight (counted s o)
counted_over s o true makes going is = rw makes (record { cause = is.cause })
counted_over s o false makes going is = rw makes (record { cause = λ h. absurd (cc (going, h)) })

step_over : (setup : Setup) (seat : Seat) (event : Event) (s : State) → IsUpright s → s.over ≡ false → IsEndRight (step setup seat event s)
unfolding step
step_over setup seat event s upright going =
    counted_over s (outcome setup seat event s) _ refl going (outcome_over setup seat event s upright going)

-- a run is at its end right after Stuck, or where no thread lives
abbrev HasCause : State → Option Entry → Type 0
HasCause s last = ((is_stuck s ≡ true) × (stuck_at last ≡ true)) ⊎ (tally lives s.threads ≡ 0)

-- what holds of the state after a history, and of its last entry
record IsEnding (s : State) (last : Option Entry) : Type 0 where
  upright : IsUpright s
  cause : s.over ≡ true → HasCause s last

-- where no thread lives, none comes to live
none_still : (setup : Setup) (s : State) (o : Outcome) → IsStepped setup s o → tally lives s.threads ≡ 0 → tally lives o.state.threads ≡ 0
none_still setup s o is none = let k = is.tallies lives (lives_shut setup s o.state.opened none) in omega (arith, k, none)

entry_cause : (setup : Setup) (s : State) (last : Option Entry) (e : Entry) (b : Bool) → s.over ≡ b → e.reply ≡ (step setup e.seat e.event s).reply → makes_entry (step setup e.seat e.event s).reply ≡ true → IsEnding s last → (after_entry setup s e).over ≡ true → HasCause (after_entry setup s e) (Some e)
entry_cause setup s last e true over is makes ending h = elim (ending.cause over) [
  | inl parts ↦ absurd (let silent = step_silent setup e.seat e.event s over parts.0 in cc (silent, makes))
  | inr none ↦ inr (none_still setup s _ (step_stepped setup e.seat e.event s ending.upright makes) none)
]
entry_cause setup s last e false over is makes ending h = elim ((step_over setup e.seat e.event s ending.upright over).cause h) [
  | inl parts ↦ inl (parts.0, rw is parts.1)
  | inr none ↦ inr none
]

entry_ending : (setup : Setup) (s : State) (last : Option Entry) (e : Entry) → e.reply ≡ (step setup e.seat e.event s).reply → makes_entry e.reply ≡ true → IsEnding s last → IsEnding (after_entry setup s e) (Some e)
entry_ending setup s last e is makes ending =
    let now = rw is at makes in
    record { upright = (step_stepped setup e.seat e.event s ending.upright now).upright; cause = λ h. entry_cause setup s last e s.over refl is now ending h }

-- the last of these entries, or the one before them
abbrev last_of : Option Entry → List Entry → Option Entry
last_of last [] = last
last_of last (e ∷ H) = last_of (Some e) H

fold_ending : (setup : Setup) (H : List Entry) (s : State) (last : Option Entry) → IsLegalFrom setup s H → IsEnding s last → IsEnding (fold (after_entry setup) s H) (last_of last H)
fold_ending setup [] s last legal ending = ending
fold_ending setup (e ∷ H) s last legal ending =
    fold_ending setup H (after_entry setup s e) (Some e) legal.2 (entry_ending setup s last e legal.0 legal.1 ending)

history_ending : (setup : Setup) (H : List Entry) → IsLegal setup H → IsEnding (state_after setup H) (last_of None H)
unfolding state_after
history_ending setup H legal =
    fold_ending setup H (begin_state setup) None legal (record { upright = (kept_after setup [] tt).upright; cause = λ h. cc })

last_is : (e : Entry) (H : List Entry) → slice_get (e ∷ H) (length H) ≡ last_of (Some e) H
last_is e [] = refl
last_is e (x ∷ H) = last_is x H

last_entry : (H : List Entry) → slice_get H (length H - 1) ≡ last_of None H
last_entry [] = refl
last_entry (e ∷ H) = let n : length (e ∷ H) - 1 ≡ length H = omega arith in rw n (last_is e H)

not_so : (b : Bool) → not b ≡ true → b ≡ false
not_so true h = cc
not_so false h = refl

-- no thread lives in a proc whose turns are over while the run goes on
quiet_if : (a b : Bool) (q : ℕ) (threads : List Thread) → a ≡ false → b ≡ true → (a || not (list_any (cond b (lives_in q) lives) threads)) ≡ true → list_any (lives_in q) threads ≡ false
quiet_if false true q threads going open_now h = not_so (list_any (lives_in q) threads) h
quiet_if false false q threads going open_now h = cc
quiet_if true b q threads going open_now h = cc

second_not : (a b : Bool) → a ≡ true → (a && b) ≡ false → b ≡ false
second_not true b e h = h
second_not false b e h = cc

none_live : (n : ℕ) → (threads : List Thread) → tally (is_outside n) threads ≡ 0 → ((q : ℕ) → 1 ≤ q → q ≤ n → list_any (lives_in q) threads ≡ false) → list_any lives threads ≡ false
none_live n [] none quiet = refl
none_live n (x ∷ xs) none quiet =
    let here = proc_at n (x ∷ xs) 1 x none refl in
    let there = or_parts (lives_in x.proc_no x) (list_any (lives_in x.proc_no) xs) (quiet x.proc_no here.0 here.1) in
    let gone : lives x ≡ false = second_not (eqb x.proc_no x.proc_no) (not (is_ended x.place)) (same_id x.proc_no) there.0 in
    let rest = none_live n xs (none_first (is_outside n x) (tally (is_outside n) xs) none).1 (λ q low high. (or_parts (lives_in q x) (list_any (lives_in q) xs) (quiet q low high)).1) in
    rw (gone, rest) refl

ended_by : (setup : Setup) (H : List Entry) (b : Bool) → (state_after setup H).over ≡ b → IsValid setup → IsLegal setup H → ((p : ℕ) → 1 ≤ p → p ≤ setup.places → reply_at setup H (Proc p) Next ≡ Over) → HasEnded setup H
ended_by setup H true e valid legal over = elim ((history_ending setup H legal).cause e) [
  | inl parts ↦ inl (rw (last_entry H) (parts.1))
  | inr none ↦ inr (none_tally lives (state_after setup H).threads none)
]
ended_by setup H false e valid legal over =
    let s = state_after setup H in
    let members = (kept_after setup H legal).members valid in
    let placed = members.opened in
    inr (none_live s.opened s.threads members.procs
    (λ q low high. quiet_if s.over (leb q s.opened) q s.threads e (le-leb q s.opened high)
    (over_cause setup q s (over q low (omega (arith, placed, high)))).1))

pub ends_over : (setup : Setup) (H : List Entry) → EndsOver setup H
ends_over setup H valid legal over = ended_by setup H (state_after setup H).over refl valid legal over
