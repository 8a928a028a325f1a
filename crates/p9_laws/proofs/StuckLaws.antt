-- What can happen in a state that is stuck, and where that is told.
use Rattle.std.proofs.Common.{◌≡◌, ℕ, suc, ◌-◌, Bool, true, false, not, cond, ◌&&◌, ◌||◌, eqb, List, [], ◌∷◌, Option, Some, None, refl, ◌∙◌, arith, rules, tests}
use Rattle.std.specs.Prelude.{option_map, slice_get}
use Rattle.std.specs.List.{list_any}
use Rattle.std.specs.Option.{is_some}
use Rattle.std.proofs.lemmas.Bool.{and_parts, eqb-true, true_from_ne_false}
use Rattle.p9_word.specs.declared.io_call.Effect.{Effect}
use Rattle.p9_word.specs.declared.setup.Setup.{Setup}
use Rattle.p9_word.specs.declared.trail.Event.{Event}
use Rattle.p9_word.specs.declared.trail.Event.TheVariants.{Call, Next, IoTake, IoDid}
use Rattle.p9_word.specs.declared.trail.Reply.{Reply}
use Rattle.p9_word.specs.declared.trail.Reply.TheVariants.{Over, Stray, Stuck, Idle as IdleReply}
use Rattle.p9_word.specs.declared.trail.Seat.{Seat}
use Rattle.p9_word.specs.declared.trail.Seat.TheVariants.{Proc, Io}
use Rattle.p9_manual.specs.declared.state.Place.{Place}
use Rattle.p9_manual.specs.declared.state.Place.TheVariants.{Running, New, Ready, Waiting, Ended}
use Rattle.p9_manual.specs.declared.state.Thread.{Thread}
use Rattle.p9_manual.specs.declared.state.Ioproc.{Ioproc}
use Rattle.p9_manual.specs.declared.state.Ioproc.TheVariants.{Unmade, Idle, Posted, Begun, Closed}
use Rattle.p9_manual.specs.State.{State, Outcome, Proc as ProcPlace, by_id, pick, same}
use Rattle.p9_manual.specs.NoteCalls.{has_note, met_by, next_note, note_in}
use Rattle.p9_manual.specs.Notes.{Delivery, delivery}
use Rattle.p9_manual.specs.Places.{is_of, runs, runs_in, runs_there, lives, stands_ready, has_call, is_running, is_ready}
use Rattle.p9_manual.specs.Held.{is_held}
use Rattle.p9_manual.specs.Stuck.{can_run, is_stuck}
use Rattle.p9_manual.specs.Ioprocs.{take_call, did_call, io_event}
use Rattle.p9_manual.specs.Next.{next_event, note_first, first_ready, next_of, turn, turn_reply, started, stuck, is_place, is_over}
use Rattle.p9_manual.specs.Step.{step, outcome, called, makes_entry}
use Rattle.p9_laws.specs.StuckReplies.{is_ready_thread, IsLined, StuckAlone, StuckCause, StuckTold}
use Rattle.p9_laws.proofs.Tallies.{tally-at, tally_none, tally_pick, pick_passes}
use Rattle.p9_laws.proofs.Standing.{get_by_id, by_id-suc}
use Rattle.p9_laws.proofs.FirstReady.{in_proc, first_parts}

-- an item that passes is one of those that pass
pub any_at : {A : Type 0} (q : A → Bool) (xs : List A) (t : ℕ) (x : A) → by_id xs t ≡ Some x → q x ≡ true → list_any q xs ≡ true
any_at q xs t x at h =
    true_from_ne_false (list_any q xs) (λ none. let z = tally_none q xs none in let k = tally-at q xs (t - 1) x (get_by_id xs t x at) h in omega (arith, z, k))

-- where some pass there is one
abbrev pub Found : {A : Type 0} → (A → Bool) → (ℕ → Option A) → Type 0
Found {A} q at = (i : ℕ) × (x : A) × (at i ≡ Some x) × (q x ≡ true)

found_step : {A : Type 0} (q : A → Bool) (b : Bool) (x : A) (xs : List A) → q x ≡ b → (b || list_any q xs) ≡ true → (list_any q xs ≡ true → Found q (slice_get xs)) → Found q (slice_get (x ∷ xs))
found_step q true x xs e h rest = (0, x, refl, e)
found_step q false x xs e h rest = let f = rest h in (suc f.0, f.1, f.2, f.3)

found_in : {A : Type 0} (q : A → Bool) → (xs : List A) → list_any q xs ≡ true → Found q (slice_get xs)
found_in q [] h = cc
found_in q (x ∷ xs) h = found_step q (q x) x xs refl h (found_in q xs)

pub found : {A : Type 0} (q : A → Bool) (xs : List A) → list_any q xs ≡ true → Found q (by_id xs)
found q xs h = let f = found_in q xs h in (suc f.0, f.1, by_id-suc xs f.0 ∙ f.2, f.3)

-- what makes an entry is Stuck
abbrev pub OnlyStuck : Outcome → Type 0
OnlyStuck o = makes_entry o.reply ≡ true → o.reply ≡ Stuck

only_if : (b : Bool) (o p : Outcome) → (b ≡ true → OnlyStuck o) → (b ≡ false → OnlyStuck p) → OnlyStuck (cond b o p)
only_if true o p f g = f refl
only_if false o p f g = g refl

-- the parts of a stuck state
pub record IsStill (s : State) : Type 0 where
  pub lives : list_any lives s.threads ≡ true
  pub runs : list_any runs s.threads ≡ false
  pub ready : list_any (can_run s) s.threads ≡ false
  pub calls : list_any has_call s.ioprocs ≡ false
  pub notes : list_any has_note s.procs ≡ false

parts : (a b c d e : Bool) → (a && not b && not c && not d && not e) ≡ true → (a ≡ true) × (b ≡ false) × (c ≡ false) × (d ≡ false) × (e ≡ false)
parts true false false false false h = (refl, refl, refl, refl, refl)
parts true true c d e h = cc
parts true false true d e h = cc
parts true false false true e h = cc
parts true false false false true h = cc
parts false b c d e h = cc

pub still : (s : State) → is_stuck s ≡ true → IsStill s
still s h =
    let p = parts (list_any lives s.threads) (list_any runs s.threads) (list_any (can_run s) s.threads) (list_any has_call s.ioprocs) (list_any has_note s.procs) h in
    record { lives = p.0; runs = p.1; ready = p.2; calls = p.3; notes = p.4 }

pub clash : (b : Bool) → b ≡ true → b ≡ false → ⊥
clash b e f = cc

runs_from : (p : ℕ) (x : Thread) → runs_in p x ≡ true → runs x ≡ true
runs_from p x h = (and_parts (eqb x.proc_no p) (is_running x.place) h).1

none_there : (p t : ℕ) (threads : List Thread) (o : Option Thread) → by_id threads t ≡ o → list_any runs threads ≡ false → runs_there p o ≡ true → ⊥
none_there p t threads None at none h = cc
none_there p t threads (Some x) at none h = clash (list_any runs threads) (any_at runs threads t x at (runs_from p x h)) none

turn_stray : (t : ℕ) (x : Thread) (pl : Place) → is_ready pl ≡ false → makes_entry (turn_reply t (x.program, x.arg, pl)) ≡ false
turn_stray t x New h = cc
turn_stray t x (Ready a) h = cc
turn_stray t x Running h = refl
turn_stray t x Waiting h = refl
turn_stray t x Ended h = refl

-- a ready thread of a proc that isn't held can run
ready_runs : (p : ℕ) (s : State) (x : Thread) → eqb x.proc_no p ≡ true → is_held p s ≡ false → stands_ready x ≡ true → can_run s x ≡ true
ready_runs p s x of free ready = let same = eqb-true x.proc_no p of in rw (ready, same, free) refl

unready : (p t : ℕ) (s : State) (x : Thread) → by_id s.threads t ≡ Some x → eqb x.proc_no p ≡ true → is_held p s ≡ false → list_any (can_run s) s.threads ≡ false → (b : Bool) → is_ready x.place ≡ b → b ≡ false
unready p t s x at of free none true h = absurd (clash _ (any_at (can_run s) s.threads t x at (ready_runs p s x of free h)) none)
unready p t s x at of free none false h = refl

turn_quiet : (p t : ℕ) (s more : State) (o : Option Thread) → by_id s.threads t ≡ o → is_of p o ≡ true → is_held p s ≡ false → list_any (can_run s) s.threads ≡ false → makes_entry (turn t more (option_map started o)).reply ≡ false
turn_quiet p t s more None at of free none = refl
turn_quiet p t s more (Some x) at of free none = turn_stray t x x.place (unready p t s x at of free none (is_ready x.place) refl)

unplaced : (b : Bool) → not b ≡ false → b ≡ true
unplaced true h = refl
unplaced false h = cc

next_of_stuck : (p : ℕ) (s : State) (o : Option (ℕ × List ℕ)) → first_ready p s ≡ o → is_stuck s ≡ true → OnlyStuck (next_of s o)
next_of_stuck p s None e h = rw h (λ makes. refl)
next_of_stuck p s (Some found) e h = λ makes.
    let at = first_parts p s found e in
    let of = pick_passes (in_proc p s) s.line found.0 found.1 at.1 in
    absurd (clash _ makes (turn_quiet p found.0 s _ (by_id s.threads found.0) refl of at.0 (still s h).ready))

-- no note is delivered where none is pending
pub no_note : (p : ℕ) (s : State) → list_any has_note s.procs ≡ false → next_note p s ≡ None
no_note p s none = at_proc (by_id s.procs p) refl
  where
    no_delivery : (o : Option Delivery) → is_some o ≡ false → o ≡ None
    no_delivery None h = refl
    no_delivery (Some d) h = cc

    none_pending : (b : Bool) → (b ≡ true → list_any has_note s.procs ≡ true) → b ≡ false
    none_pending true h = absurd (clash (list_any has_note s.procs) (h refl) none)
    none_pending false h = refl

    at_proc : (o : Option ProcPlace) → by_id s.procs p ≡ o → note_in o ≡ None
    at_proc None at = refl
    at_proc (Some proc) at =
        no_delivery (delivery proc.handlers proc.pending) (none_pending (has_note proc) (λ h. any_at has_note s.procs p proc at h))

next_stuck : (setup : Setup) (p : ℕ) (s : State) → is_stuck s ≡ true → OnlyStuck (next_event setup p s)
unfolding next_event
next_stuck setup p s h =
    only_if (not (is_place setup p)) _ _ (λ _ m. cc)
    (λ _. only_if (is_over p s) _ _ (λ _ m. cc)
    (λ _. only_if (list_any (runs_in p) s.threads) _ _ (λ _ m. cc) (λ _. rw (no_note p s (still s h).notes) (next_of_stuck p s (first_ready p s) refl h))))

take_stuck : (k : ℕ) (s : State) (o : Option Ioproc) → by_id s.ioprocs k ≡ o → list_any has_call s.ioprocs ≡ false → OnlyStuck (take_call k s o)
take_stuck k s None at none = λ m. cc
take_stuck k s (Some Closed) at none = λ m. cc
take_stuck k s (Some (Begun t call)) at none = absurd (clash _ (any_at has_call s.ioprocs k (Begun t call) at refl) none)
take_stuck k s (Some (Posted t call)) at none = absurd (clash _ (any_at has_call s.ioprocs k (Posted t call) at refl) none)
take_stuck k s (Some Unmade) at none = only_if (s.over || not (list_any lives s.threads)) _ _ (λ _ m. cc) (λ _ m. cc)
take_stuck k s (Some Idle) at none = only_if (s.over || not (list_any lives s.threads)) _ _ (λ _ m. cc) (λ _ m. cc)

did_stuck : (k : ℕ) (effect : Effect) (s : State) (o : Option Ioproc) → by_id s.ioprocs k ≡ o → list_any has_call s.ioprocs ≡ false → OnlyStuck (did_call k effect s o)
did_stuck k effect s None at none = λ m. cc
did_stuck k effect s (Some Closed) at none = λ m. cc
did_stuck k effect s (Some (Begun t call)) at none = absurd (clash _ (any_at has_call s.ioprocs k (Begun t call) at refl) none)
did_stuck k effect s (Some (Posted t call)) at none = λ m. cc
did_stuck k effect s (Some Unmade) at none = λ m. cc
did_stuck k effect s (Some Idle) at none = λ m. cc

outcome_stuck : (setup : Setup) (seat : Seat) (event : Event) (s : State) → is_stuck s ≡ true → OnlyStuck (outcome setup seat event s)
unfolding outcome called io_event
outcome_stuck setup (Proc p) (Call t r) s h =
    only_if (not (runs_there p (by_id s.threads t))) _ _ (λ _ m. cc)
    (λ yes. absurd (none_there p t s.threads (by_id s.threads t) refl (still s h).runs (unplaced (runs_there p (by_id s.threads t)) yes)))
outcome_stuck setup (Proc p) Next s h = next_stuck setup p s h
outcome_stuck setup (Proc p) IoTake s h = λ m. cc
outcome_stuck setup (Proc p) (IoDid effect) s h = λ m. cc
outcome_stuck setup (Io k) IoTake s h = take_stuck k s (by_id s.ioprocs k) refl (still s h).calls
outcome_stuck setup (Io k) (IoDid effect) s h = did_stuck k effect s (by_id s.ioprocs k) refl (still s h).calls
outcome_stuck setup (Io k) (Call t r) s h = λ m. cc
outcome_stuck setup (Io k) Next s h = λ m. cc

pub stuck_alone : (setup : Setup) (s : State) → StuckAlone setup s
unfolding step
stuck_alone setup s h = λ seat event m. outcome_stuck setup seat event s h m

-- why a proc is told Stuck
stuck_step : (b : Bool) (r : Reply) (o : Outcome) (s : State) → (r ≡ Stuck → ⊥) → (cond b (same r s) o).reply ≡ Stuck → (b ≡ false) × (o.reply ≡ Stuck)
stuck_step true r o s h e = absurd (h e)
stuck_step false r o s h e = (refl, e)

turn_not_stuck : (t program arg : ℕ) (pl : Place) → turn_reply t (program, arg, pl) ≡ Stuck → ⊥
turn_not_stuck t program arg New e = cc
turn_not_stuck t program arg (Ready a) e = cc
turn_not_stuck t program arg Running e = cc
turn_not_stuck t program arg Waiting e = cc
turn_not_stuck t program arg Ended e = cc

turned_not_stuck : (t : ℕ) (s : State) (o : Option Thread) → (turn t s (option_map started o)).reply ≡ Stuck → ⊥
turned_not_stuck t s None e = cc
turned_not_stuck t s (Some x) e = turn_not_stuck t x.program x.arg x.place e

told_stuck : (b : Bool) (s : State) → (cond b (stuck s) (same IdleReply s)).reply ≡ Stuck → b ≡ true
told_stuck true s e = refl
told_stuck false s e = cc

next_of_cause : (s : State) (o : Option (ℕ × List ℕ)) → (next_of s o).reply ≡ Stuck → is_stuck s ≡ true
next_of_cause s None e = told_stuck (is_stuck s) s e
next_of_cause s (Some found) e = absurd (turned_not_stuck found.0 _ (by_id s.threads found.0) e)

met_not_stuck : (p : ℕ) (note : List ℕ) (o : Option ℕ) (s : State) → (met_by p note o s).reply ≡ Stuck → ⊥
met_not_stuck p note (Some id) s e = cc
met_not_stuck p note None s e = cc

note_cause : (p : ℕ) (s : State) (o : Option Delivery) → (note_first p s o).reply ≡ Stuck → is_stuck s ≡ true
note_cause p s None e = next_of_cause s (first_ready p s) e
note_cause p s (Some d) e = absurd (met_not_stuck p d.note d.caught_by _ e)

pub stuck_cause : (setup : Setup) (s : State) → StuckCause setup s
unfolding step outcome next_event
stuck_cause setup s p e =
    let a = stuck_step (not (is_place setup p)) Stray _ s (λ h. cc) e in
    let b = stuck_step (is_over p s) Over _ s (λ h. cc) a.1 in
    let c = stuck_step (list_any (runs_in p) s.threads) Stray _ s (λ h. cc) b.1 in
    record { place = unplaced (is_place setup p) a.0; goes_on = b.0; stuck = note_cause p s (next_note p s) c.1 }

-- who is in the line is ready
pub in_line_ready : (setup : Setup) (s : State) (p : ℕ → Bool) (t : ℕ) (rest : List ℕ) → IsLined setup s → pick p s.line ≡ Some (t, rest) → is_ready_thread (by_id s.threads t) ≡ true
in_line_ready setup s p t rest lined e = lined.ready t ∙ picked_in p t rest s.line e
  where
    same_id : (t : ℕ) → eqb t t ≡ true
    same_id t = search (rules, tests)

    picked_in : (p : ℕ → Bool) (t : ℕ) (rest : List ℕ) (line : List ℕ) → pick p line ≡ Some (t, rest) → list_any (λ u. eqb u t) line ≡ true
    picked_in p t rest line e =
        true_from_ne_false _ (λ none. let z = tally_none (λ u. eqb u t) line none in let k = tally_pick p (λ u. eqb u t) line t rest e in let one = rw (same_id t) at k in omega (arith, z, one))

pub no_runs_in : (p : ℕ) (threads : List Thread) → list_any runs threads ≡ false → list_any (runs_in p) threads ≡ false
no_runs_in p threads none = none_of (list_any (runs_in p) threads) refl
  where
    none_of : (b : Bool) → list_any (runs_in p) threads ≡ b → b ≡ false
    none_of true h = let f = found (runs_in p) threads h in absurd (clash _ (any_at runs threads f.0 f.1 f.2 (runs_from p f.1 f.3)) none)
    none_of false h = refl

ready_of : (p : ℕ) (s : State) (t : ℕ) (o : Option Thread) → by_id s.threads t ≡ o → is_ready_thread o ≡ true → is_of p o ≡ true → is_held p s ≡ false → list_any (can_run s) s.threads ≡ true
ready_of p s t None at h of free = cc
ready_of p s t (Some x) at h of free = any_at (can_run s) s.threads t x at (ready_runs p s x of free h)

next_of_told : (setup : Setup) (s : State) (p : ℕ) (o : Option (ℕ × List ℕ)) → first_ready p s ≡ o → IsLined setup s → is_stuck s ≡ true → (next_of s o).reply ≡ Stuck
next_of_told setup s p None e lined h = rw h refl
next_of_told setup s p (Some found) e lined h =
    let at = first_parts p s found e in
    let of = pick_passes (in_proc p s) s.line found.0 found.1 at.1 in
    let ready = in_line_ready setup s (in_proc p s) found.0 found.1 lined at.1 in
    absurd (clash _ (ready_of p s found.0 (by_id s.threads found.0) refl ready of at.0) (still s h).ready)

pub stuck_told : (setup : Setup) (s : State) → StuckTold setup s
unfolding step outcome next_event
stuck_told setup s lined p at =
    rw (at.place, at.goes_on, no_runs_in p s.threads (still s at.stuck).runs, no_note p s (still s at.stuck).notes)
    (next_of_told setup s p (first_ready p s) refl lined at.stuck)
