-- What can happen in a state that isn't stuck.
use Rattle.std.proofs.Common.{◌≡◌, ◌≢◌, ℕ, ◌≤◌, Bool, true, false, not, cond, ◌&&◌, ◌||◌, eqb, leb, List, [], ◌∷◌, Option, Some, None, refl, sym, subst, ◌∙◌, arith, rules, tests}
use Rattle.std.specs.Prelude.{is_some, option_map}
use Rattle.std.specs.List.{list_any}
use Rattle.std.proofs.lemmas.Bool.{and_parts, le-leb, eqb-true}
use Rattle.p9_word.specs.declared.io_call.IoCall.{IoCall}
use Rattle.p9_word.specs.declared.io_call.IoCall.TheVariants.{IoOpen, IoRead, IoReadN, IoWrite, IoClose, IoOwn}
use Rattle.p9_word.specs.declared.io_call.Effect.TheVariants.{Refused}
use Rattle.p9_word.specs.declared.request.Request.TheVariants.{Thread as ThreadRequest}
use Rattle.p9_word.specs.declared.request.ThreadReq.TheVariants.{ThreadExits}
use Rattle.p9_word.specs.declared.setup.Setup.{Setup}
use Rattle.p9_word.specs.declared.trail.Event.{Event}
use Rattle.p9_word.specs.declared.trail.Event.TheVariants.{Call, Next, IoTake, IoDid}
use Rattle.p9_word.specs.declared.trail.Reply.{Reply}
use Rattle.p9_word.specs.declared.trail.Reply.TheVariants.{Ended as EndedReply, Took, Noted, Stuck}
use Rattle.p9_word.specs.declared.trail.Seat.{Seat}
use Rattle.p9_word.specs.declared.trail.Seat.TheVariants.{Proc, Io}
use Rattle.p9_manual.specs.declared.state.Place.{Place}
use Rattle.p9_manual.specs.declared.state.Place.TheVariants.{Running, New, Ready, Waiting, Ended}
use Rattle.p9_manual.specs.declared.state.Thread.{Thread}
use Rattle.p9_manual.specs.declared.state.Ioproc.{Ioproc}
use Rattle.p9_manual.specs.declared.state.Ioproc.TheVariants.{Unmade, Idle, Posted, Begun, Closed}
use Rattle.p9_manual.specs.NoteCalls.{has_note, met_by, next_note, note_in, with_pending, with_proc}
use Rattle.p9_manual.specs.Notes.{Delivery}
use Rattle.p9_manual.specs.State.{State, Outcome, by_id, pick, behind}
use Rattle.p9_manual.specs.Places.{is_ended, is_of, runs, runs_in, runs_there, lives, lives_in, stands_ready, has_call, is_ready}
use Rattle.p9_manual.specs.Held.{is_held}
use Rattle.p9_manual.specs.Stuck.{can_run}
use Rattle.p9_manual.specs.Threads.{thread_call, asked}
use Rattle.p9_manual.specs.Effects.{fits}
use Rattle.p9_manual.specs.Ioprocs.{io_event}
use Rattle.p9_manual.specs.Next.{next_event, next_of, note_first, first_ready, turn, turn_reply, started, is_place, is_over}
use Rattle.p9_manual.specs.Step.{step, outcome, called, served, makes_entry}
use Rattle.p9_laws.specs.StuckReplies.{CanMove, is_ready_thread, IsLined, UnstuckMoves}
use Rattle.p9_laws.proofs.FirstReady.{in_proc}
use Rattle.p9_laws.proofs.StuckLaws.{any_at, found, clash, in_line_ready, no_runs_in}

-- some event makes an entry
can_move : (setup : Setup) (s : State) (seat : Seat) (event : Event) (r : Reply) → (step setup seat event s).reply ≡ r → makes_entry r ≡ true → r ≢ Stuck → CanMove setup s
can_move setup s seat event r e makes moves =
    record { seat = seat; event = event; makes = rw e makes; moves = rw e moves }

either_ends : (b : Bool) (o p : Outcome) → o.reply ≡ EndedReply → p.reply ≡ EndedReply → (cond b o p).reply ≡ EndedReply
either_ends true o p f g = f
either_ends false o p f g = g

-- a thread that exits ends, whether it is marked or not
ends_reply : (setup : Setup) (p t : ℕ) (s : State) (x : Thread) → by_id s.threads t ≡ Some x → runs_there p (Some x) ≡ true → (step setup (Proc p) (Call t (ThreadRequest (ThreadExits []))) s).reply ≡ EndedReply
unfolding step outcome called served thread_call asked
ends_reply setup p t s x at there = rw (at, there) (either_ends (x.marked && true) _ _ refl refl)

one_ends : (setup : Setup) (s : State) → list_any runs s.threads ≡ true → CanMove setup s
one_ends setup s some =
    let f = found runs s.threads some in
    let same : eqb f.1.proc_no f.1.proc_no ≡ true = search (rules, tests) in
    let there : runs_there f.1.proc_no (Some f.1) ≡ true = rw same (f.3) in
    can_move setup s (Proc f.1.proc_no) (Call f.0 (ThreadRequest (ThreadExits []))) EndedReply (ends_reply setup f.1.proc_no f.0 s f.1 f.2 there) refl (λ e. cc)

-- a reply that makes an entry and isn't Stuck
abbrev pub Moves : Reply → Type 0
Moves r = (makes_entry r ≡ true) × (r ≢ Stuck)

turn_moves : (t : ℕ) (x : Thread) (pl : Place) → is_ready pl ≡ true → Moves (turn_reply t (x.program, x.arg, pl))
turn_moves t x New h = (refl, λ e. cc)
turn_moves t x (Ready a) h = (refl, λ e. cc)
turn_moves t x Running h = cc
turn_moves t x Waiting h = cc
turn_moves t x Ended h = cc

turned_moves : (t : ℕ) (s : State) (o : Option Thread) → is_ready_thread o ≡ true → Moves (turn t s (option_map started o)).reply
turned_moves t s None h = cc
turned_moves t s (Some x) h = turn_moves t x x.place h

pick_none_step : {A : Type 0} (p : A → Bool) (b : Bool) (x : A) (xs : List A) (r : Option (A × List A)) → cond b (Some (x, xs)) (behind x r) ≡ None → (b ≡ false) × (r ≡ None)
pick_none_step p true x xs r e = cc
pick_none_step p false x xs None e = (refl, refl)
pick_none_step p false x xs (Some found) e = cc

pick_none : {A : Type 0} (p q : A → Bool) → ((x : A) → q x ≡ true → p x ≡ true) → (xs : List A) → pick p xs ≡ None → list_any q xs ≡ true → ⊥
pick_none p q h [] e some = cc
pick_none p q h (x ∷ xs) e some = let parts = pick_none_step p (p x) x xs (pick p xs) e in neither (q x) (λ yes. clash (p x) (h x yes) parts.0) some (pick_none p q h xs parts.1)
  where
    neither : (b : Bool) → (b ≡ true → ⊥) → (b || list_any q xs) ≡ true → (list_any q xs ≡ true → ⊥) → ⊥
    neither true f s g = f refl
    neither false f s g = g s

next_of_moves : (setup : Setup) (s : State) (p : ℕ → Bool) (t : ℕ) (o : Option (ℕ × List ℕ)) → pick p s.line ≡ o → IsLined setup s → list_any (λ u. eqb u t) s.line ≡ true → p t ≡ true → Moves (next_of s o).reply
next_of_moves setup s p t None e lined some passes = absurd (pick_none p (λ u. eqb u t) (λ u h. subst (λ (x : ℕ). p x ≡ true) (sym (eqb-true u t h)) passes) s.line e some)
next_of_moves setup s p t (Some found) e lined some passes = turned_moves found.0 _ (by_id s.threads found.0) (in_line_ready setup s p found.0 found.1 lined e)

ready_lives : (p : ℕ) (x : Thread) (pl : Place) → x.place ≡ pl → is_ready pl ≡ true → eqb x.proc_no p ≡ true → lives_in p x ≡ true
ready_lives p x New is h of = rw (of, is) refl
ready_lives p x (Ready a) is h of = rw (of, is) refl
ready_lives p x Running is h of = cc
ready_lives p x Waiting is h of = cc
ready_lives p x Ended is h of = cc

-- p is a place where it isn't over
record IsOn (setup : Setup) (p : ℕ) (s : State) : Type 0 where
  pub place : is_place setup p ≡ true
  pub goes_on : is_over p s ≡ false

not_over : (p : ℕ) (s : State) → s.over ≡ false → leb p s.opened ≡ true → list_any (lives_in p) s.threads ≡ true → is_over p s ≡ false
not_over p s over opened some = rw (over, opened, some) refl

opened_on : (setup : Setup) (p : ℕ) (s : State) → IsLined setup s → s.over ≡ false → list_any (lives_in p) s.threads ≡ true → 1 ≤ p → p ≤ s.opened → IsOn setup p s
opened_on setup p s lined over live from to =
    let low : leb 1 p ≡ true = le-leb 1 p from in
    let high : leb p setup.places ≡ true = le-leb p setup.places (let o = lined.opened in omega (arith, o, to)) in
    record { place = rw (low, high) refl; goes_on = not_over p s over (le-leb p s.opened to) live }

-- so is each proc with a living thread, where the run goes on
lives_on : (setup : Setup) (p : ℕ) (s : State) → IsLined setup s → s.over ≡ false → list_any (lives_in p) s.threads ≡ true → IsOn setup p s
lives_on setup p s lined over live =
    let f = found (lives_in p) s.threads live in
    let same = eqb-true f.1.proc_no p (and_parts (eqb f.1.proc_no p) (not (is_ended f.1.place)) f.3).0 in
    let proc = lined.procs f.0 f.1 f.2 in
    opened_on setup p s lined over live (subst (λ (k : ℕ). 1 ≤ k) same proc.0) (subst (λ (k : ℕ). k ≤ s.opened) same proc.1)

delivered_moves : (p : ℕ) (note : List ℕ) (o : Option ℕ) (s : State) → Moves (met_by p note o s).reply
delivered_moves p note None s = (refl, λ e. cc)
delivered_moves p note (Some id) s = (refl, λ e. cc)

-- a note is delivered, or a thread has its turn
first_moves : (p : ℕ) (s : State) (o : Option Delivery) → (is_some o ≡ false → Moves (next_of s (first_ready p s)).reply) → Moves (note_first p s o).reply
first_moves p s None h = h refl
first_moves p s (Some d) h = delivered_moves p d.note d.caught_by (with_proc (with_pending d.pending) p s)

turn_step : (setup : Setup) (p : ℕ) (s : State) → IsOn setup p s → list_any (runs_in p) s.threads ≡ false → (is_some (next_note p s) ≡ false → Moves (next_of s (first_ready p s)).reply) → Moves (step setup (Proc p) Next s).reply
unfolding step outcome next_event
turn_step setup p s on none h = rw (on.place, on.goes_on, none) (first_moves p s (next_note p s) h)

-- a proc that isn't held
free_of : (b : Bool) → not b ≡ true → b ≡ false
free_of true h = cc
free_of false h = refl

one_has_turn : (setup : Setup) (s : State) → IsLined setup s → s.over ≡ false → list_any runs s.threads ≡ false → list_any (can_run s) s.threads ≡ true → CanMove setup s
one_has_turn setup s lined over none some =
    let f = found (can_run s) s.threads some in
    let can = and_parts (stands_ready f.1) (not (is_held f.1.proc_no s)) (f.3) in
    let of : eqb f.1.proc_no f.1.proc_no ≡ true = search (rules, tests) in
    let live : list_any (lives_in f.1.proc_no) s.threads ≡ true = any_at (lives_in f.1.proc_no) s.threads f.0 f.1 f.2 (ready_lives f.1.proc_no f.1 f.1.place refl can.0 of) in
    let ready : is_ready_thread (by_id s.threads f.0) ≡ true = rw (f.2) (can.0) in
    let in_line : list_any (λ u. eqb u f.0) s.line ≡ true = sym (lined.ready f.0) ∙ ready in
    let passes : is_of f.1.proc_no (by_id s.threads f.0) ≡ true = rw (f.2) of in
    let moves : Moves (next_of s (first_ready f.1.proc_no s)).reply = rw (free_of (is_held f.1.proc_no s) can.1) (next_of_moves setup s (in_proc f.1.proc_no s) f.0 (pick (in_proc f.1.proc_no s) s.line) refl lined in_line passes) in
    let m = turn_step setup f.1.proc_no s (lives_on setup f.1.proc_no s lined over live) (no_runs_in f.1.proc_no s.threads none) (λ _. moves) in
    record { seat = Proc f.1.proc_no; event = Next; makes = m.0; moves = m.1 }

one_has_note : (setup : Setup) (s : State) → IsLined setup s → s.over ≡ false → list_any runs s.threads ≡ false → list_any has_note s.procs ≡ true → CanMove setup s
one_has_note setup s lined over none some =
    let f = found has_note s.procs some in
    let noted : is_some (note_in (by_id s.procs f.0)) ≡ true = rw (f.2) (f.3) in
    let m = turn_step setup f.0 s (lives_on setup f.0 s lined over (lined.notes f.0 noted)) (no_runs_in f.0 s.threads none) (λ h. absurd (clash (is_some (next_note f.0 s)) noted h)) in
    record { seat = Proc f.0; event = Next; makes = m.0; moves = m.1 }

always_refused : (call : IoCall) → fits call Refused ≡ true
always_refused IoOpen = refl
always_refused (IoRead n) = refl
always_refused (IoReadN n) = refl
always_refused (IoWrite m) = refl
always_refused IoClose = refl
always_refused (IoOwn code m) = refl

take_reply : (setup : Setup) (k t : ℕ) (call : IoCall) (s : State) → by_id s.ioprocs k ≡ Some (Posted t call) → s.over ≡ false → list_any lives s.threads ≡ true → (step setup (Io k) IoTake s).reply ≡ Took call
unfolding step outcome io_event
take_reply setup k t call s at over live = rw (at, over, live) refl

did_reply : (setup : Setup) (k : ℕ) (t : Option ℕ) (call : IoCall) (s : State) → by_id s.ioprocs k ≡ Some (Begun t call) → (step setup (Io k) (IoDid Refused) s).reply ≡ Noted
unfolding step outcome io_event
did_reply setup k t call s at = rw (at, always_refused call) refl

call_moves : (setup : Setup) (s : State) (k : ℕ) (io : Ioproc) → by_id s.ioprocs k ≡ Some io → has_call io ≡ true → s.over ≡ false → list_any lives s.threads ≡ true → CanMove setup s
call_moves setup s k (Posted t call) at h over live = can_move setup s (Io k) IoTake (Took call) (take_reply setup k t call s at over live) refl (λ e. cc)
call_moves setup s k (Begun t call) at h over live = can_move setup s (Io k) (IoDid Refused) Noted (did_reply setup k t call s at) refl (λ e. cc)
call_moves setup s k Unmade at h over live = cc
call_moves setup s k Idle at h over live = cc
call_moves setup s k Closed at h over live = cc

one_has_call : (setup : Setup) (s : State) → list_any has_call s.ioprocs ≡ true → s.over ≡ false → list_any lives s.threads ≡ true → CanMove setup s
one_has_call setup s some over live = let f = found has_call s.ioprocs some in call_moves setup s f.0 f.1 f.2 f.3 over live

moves_by : (setup : Setup) (s : State) (b c d e : Bool) → list_any runs s.threads ≡ b → list_any (can_run s) s.threads ≡ c → list_any has_call s.ioprocs ≡ d → list_any has_note s.procs ≡ e → IsLined setup s → s.over ≡ false → list_any lives s.threads ≡ true → (true && not b && not c && not d && not e) ≡ false → CanMove setup s
moves_by setup s true c d e runs ready calls notes lined over live h = one_ends setup s runs
moves_by setup s false true d e runs ready calls notes lined over live h = one_has_turn setup s lined over runs ready
moves_by setup s false false true e runs ready calls notes lined over live h = one_has_call setup s calls over live
moves_by setup s false false false true runs ready calls notes lined over live h = one_has_note setup s lined over runs notes
moves_by setup s false false false false runs ready calls notes lined over live h = cc

pub unstuck_moves : (setup : Setup) (s : State) → UnstuckMoves setup s
unstuck_moves setup s lined over live unstuck = moves_by setup s _ _ _ _ refl refl refl refl lined over live (rw live at unstuck)
