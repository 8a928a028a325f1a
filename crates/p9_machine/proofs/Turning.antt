-- What happens where a thread is to run.
use Rattle.std.proofs.Common.{◌≡◌, ℕ, zero, suc, ◌+◌, ◌-◌, ◌<◌, ◌≤◌, Bool, true, false, not, cond, ◌&&◌, ◌||◌, List, [], ◌∷◌, length, map, Option, Some, None, MatchOption, inl, inr, ◌⊎◌, refl, ap, sym, subst, ◌∙◌, arith, rules, tests}
use Rattle.std.proofs.lemmas.List.Elements.{All-head, All-tail}
use Rattle.std.specs.Prelude.{All, option_map, slice_get, nat_lt, nat_le, nat_eq, is_some, if◌then◌else◌}
use Rattle.std.specs.List.{filter, list_any}
use Rattle.p9_word.specs.declared.setup.Setup.{Setup}
use Rattle.p9_word.specs.declared.trail.Reply.{Reply}
use Rattle.p9_word.specs.declared.trail.Reply.TheVariants.{Stray, Over}
use Rattle.p9_manual.specs.declared.state.Place.{Place as Stand}
use Rattle.p9_manual.specs.declared.state.Place.TheVariants as stand
use Rattle.p9_manual.specs.declared.state.Thread.{Thread}
use Rattle.p9_manual.specs.State.{State, Outcome, Proc, by_id, pick, same}
use Rattle.p9_manual.specs.Places.{has_call, is_of, lives, lives_in, runs, runs_in, runs_there}
use Rattle.p9_manual.specs.Sound.{IsSound, IsThreadIn}
use Rattle.p9_manual.specs.Standing.{times}
use Rattle.p9_manual.specs.Stuck.{can_run as state_can_run, is_stuck}
use Rattle.p9_manual.specs.Held.{is_held as state_is_held}
use Rattle.p9_manual.specs.Next.{is_place, is_over, first_ready, note_first, started, turn, turn_reply, next_of, next_event}
use Rattle.p9_manual.specs.NoteCalls.{has_note, next_note, noted}
use Rattle.p9_manual.specs.Step.{makes_entry}
use Rattle.p9_sched.specs.declared.turns.Ready.{Ready}
use Rattle.p9_sched.specs.declared.turns.Ready.TheVariants.{New, Old}
use Rattle.p9_sched.specs.Holding.{is_held}
use Rattle.p9_sched.specs.Schedule.{Schedule, IsMade, IsPlace, line_of}
use Rattle.p9_sched.specs.Stands.{SchedFor, Tracks, after_next}
use Rattle.p9_sched.specs.Turns.{can_run, ready_at, ready_of, turn_of, next_in}
use Rattle.p9_machine.specs.declared.board.Board.{Board}
use Rattle.p9_machine.specs.Board.{Stands, Gives}
use Rattle.p9_machine.specs.Turns.{turn_told}
use Rattle.p9_machine.proofs.Picked.{first_of, none_picked}
use Rattle.p9_machine.proofs.Dispatch.{moved, with_sched}

-- whom proc p may pick
abbrev pub of_proc : ℕ → State → ℕ → Bool
of_proc p s t = is_of p (by_id s.threads t)

-- what is picked is told as this turn, and but for threads and line the state stays
pub record IsTurn (s : State) (found : Option (ℕ × List ℕ)) (ready : Ready) : Type 0 where
  pub told : turn_told ready ≡ (next_of s found).reply
  pub others : (next_of s found).state ≡ record s { threads = (next_of s found).state.threads; line = (next_of s found).state.line; procs = (next_of s found).state.procs; opened = (next_of s found).state.opened }
  pub procs : (next_of s found).state.procs ≡ s.procs

told_at : (t program arg : ℕ) (ready : Ready) (pl : Stand) → Some ready ≡ ready_at t program arg pl → turn_told ready ≡ turn_reply t (program, arg, pl)
told_at t program arg ready stand.New e = let r : ready ≡ New t program arg = cc in ap turn_told r
told_at t program arg ready (stand.Ready a) e = let r : ready ≡ Old t a = cc in ap turn_told r
told_at t program arg ready stand.Running e = absurd (cc e)
told_at t program arg ready stand.Waiting e = absurd (cc e)
told_at t program arg ready stand.Ended e = absurd (cc e)

told_is : (t : ℕ) (s : State) (ready : Ready) (o : Option Thread) → Some ready ≡ ready_of t o → turn_told ready ≡ (turn t s (option_map started o)).reply
told_is t s ready None e = absurd (cc e)
told_is t s ready (Some thread) e = told_at t thread.program thread.arg ready thread.place e

turn_leaves : (t : ℕ) (s : State) (line : List ℕ) (o : Option (ℕ × ℕ × Stand)) → (turn t (record s { line = line }) o).state ≡ record s { threads = (turn t (record s { line = line }) o).state.threads; line = (turn t (record s { line = line }) o).state.line; procs = (turn t (record s { line = line }) o).state.procs; opened = (turn t (record s { line = line }) o).state.opened }
turn_leaves t s line None = refl
turn_leaves t s line (Some start) = refl

turn_keeps : (t : ℕ) (s : State) (o : Option (ℕ × ℕ × Stand)) → (turn t s o).state.procs ≡ s.procs
turn_keeps t s None = refl
turn_keeps t s (Some start) = refl

is_turn : (s : State) (t : ℕ) (line : List ℕ) (ready : Ready) → Some ready ≡ ready_of t (by_id s.threads t) → IsTurn s (Some (t, line)) ready
is_turn s t line ready e = record {
  told = told_is t (record s { line = line }) ready (by_id s.threads t) e;
  others = turn_leaves t s line (option_map started (by_id s.threads t));
  procs = turn_keeps t (record s { line = line }) (option_map started (by_id s.threads t));
}

-- a held proc gives no turn
picks_where : (b : Bool) (ready : Ready) (n m : Schedule) (o : Option (ℕ × List ℕ)) (x : Option Ready × Schedule) → (Some ready, n) ≡ cond b (None, m) x → (cond b None o ≡ o) × ((Some ready, n) ≡ x)
picks_where true ready n m o x e = absurd (cc (ap (λ (y : Option Ready × Schedule). y.0) e))
picks_where false ready n m o x e = (refl, e)

turn_by : (s : State) (sched n : Schedule) (p : ℕ) (ready : Ready) (part : List ℕ) → s.threads ≡ sched.threads → filter (of_proc p s) s.line ≡ part → (Some ready, n) ≡ turn_of p sched part → IsTurn s (pick (of_proc p s) s.line) ready
turn_by s sched n p ready [] threads mine e = absurd (cc (ap (λ (x : Option Ready × Schedule). x.0) e))
turn_by s sched n p ready (t ∷ rest) threads mine e =
    let f = first_of (of_proc p s) t rest s.line mine in
    let ready_is : Some ready ≡ ready_of t (by_id sched.threads t) = ap (λ (x : Option Ready × Schedule). x.0) e in
    let here : Some ready ≡ ready_of t (by_id s.threads t) = subst (λ (ts : List Thread). Some ready ≡ ready_of t (by_id ts t)) (sym threads) ready_is in
    subst (λ (o : Option (ℕ × List ℕ)). IsTurn s o ready) (sym f.picked) (is_turn s t f.others ready here)

-- the part of the line that is a proc's
part_of : (board : Board) (s : State) (p : ℕ) → IsPlace p board.sched → Stands board s → filter (of_proc p s) s.line ≡ line_of p board.sched
part_of board s p place st =
    subst (λ (ts : List Thread). filter (λ t. is_of p (by_id ts t)) s.line ≡ line_of p board.sched) (sym st.sched.threads) (sym (st.sched.lines.part p place.from place.to))

-- whether a proc is held
held_as : (board : Board) (s : State) (p : ℕ) → IsPlace p board.sched → Stands board s → is_held p board.sched ≡ state_is_held p s
held_as board s p place st = st.sched.held.held p place.from place.to

turn_makes : (ready : Ready) → makes_entry (turn_told ready) ≡ true
turn_makes (New t program arg) = refl
turn_makes (Old t a) = refl

-- the first thread of a proc's line runs
turn_in_line : (board : Board) (s : State) (p : ℕ) (ready : Ready) (n : Schedule) → IsPlace p board.sched → (Some ready, n) ≡ next_in p board.sched → Stands board s → IsTurn s (first_ready p s) ready
turn_in_line board s p ready n place e st =
    let at = picks_where (is_held p board.sched) ready n board.sched (pick (of_proc p s) s.line) (turn_of p board.sched (line_of p board.sched)) e in
    let first : first_ready p s ≡ pick (of_proc p s) s.line = rw (sym (held_as board s p place st)) at.0 in
    subst (λ (o : Option (ℕ × List ℕ)). IsTurn s o ready) (sym first) (turn_by s board.sched n p ready (line_of p board.sched) st.sched.threads (part_of board s p place st) at.1)

pub turned : (board : Board) (s : State) (p : ℕ) (ready : Ready) (n : Schedule) → IsPlace p board.sched → (Some ready, n) ≡ next_in p board.sched → Tracks (after_next p) board.sched n → Stands board s → Gives s (next_of s (first_ready p s)) (turn_told ready) (record board { sched = n })
turned board s p ready n place e tracks st =
    let t = turn_in_line board s p ready n place e st in
    moved (record board { sched = n }) s _ (turn_told ready) t.told (turn_makes ready) (with_sched board n s _ t.others (ap (λ (ps : List Proc). map noted ps) t.procs) (tracks board.setup.places s st.sched) st)

either_same : {A : Type 0} (b : Bool) (x y : A) → y ≡ x → cond b x y ≡ x
either_same true x y e = refl
either_same false x y e = e

-- where a proc is held or its line is empty nothing changes
none_left : (p : ℕ) (s n : Schedule) → (is_held p s ≡ true) ⊎ (line_of p s ≡ []) → (None, n) ≡ next_in p s → n ≡ s
none_left p s n (inl e) h =
    let at : next_in p s ≡ (None, s) = rw e refl in
    ap (λ (x : Option Ready × Schedule). x.1) (h ∙ at)
none_left p s n (inr e) h =
    let at : next_in p s ≡ (None, s) = either_same (is_held p s) (None, s) (turn_of p s (line_of p s)) (ap (turn_of p s) e) in
    ap (λ (x : Option Ready × Schedule). x.1) (h ∙ at)

-- and none of its threads is picked
none_first : (board : Board) (s : State) (p : ℕ) → IsPlace p board.sched → (is_held p board.sched ≡ true) ⊎ (line_of p board.sched ≡ []) → Stands board s → first_ready p s ≡ None
none_first board s p place (inl e) st = rw (sym (held_as board s p place st), e) refl
none_first board s p place (inr e) st =
    either_same (state_is_held p s) None (pick (of_proc p s) s.line) (none_picked (of_proc p s) s.line (part_of board s p place st ∙ e))

pub not_turned : (board new : Board) (s : State) (p : ℕ) (n : Schedule) (r : Reply) → IsPlace p board.sched → (is_held p board.sched ≡ true) ⊎ (line_of p board.sched ≡ []) → (None, n) ≡ next_in p board.sched → (Stands (record board { sched = n }) s → Gives s (next_of s None) r new) → Stands board s → Gives s (next_of s (first_ready p s)) r new
not_turned board new s p n r place empty e f st =
    let none : first_ready p s ≡ None = none_first board s p place empty st in
    let kept = none_left p board.sched n empty e in
    let on = f (subst (λ (m : Schedule). Stands (record board { sched = m }) s) (sym kept) st) in
    subst (λ (o : Option (ℕ × List ℕ)). Gives s (next_of s o) r new) (sym none) on

not_above : (n : ℕ) → nat_eq n 0 ≡ not (nat_lt 0 n)
not_above zero = refl
not_above (suc n) = search (rules, tests)

any_step : (b : Bool) (n : ℕ) (c : Bool) → nat_lt 0 n ≡ c → nat_lt 0 (cond {A = ℕ} b 1 0 + n) ≡ (b || c)
any_step true n c e = search (rules, tests)
any_step false n c e = let z : 0 + n ≡ n = omega arith in rw z e

-- a count above 0
times_any : {A : Type 0} (q : A → Bool) (xs : List A) → nat_lt 0 (times q xs) ≡ list_any q xs
times_any q [] = refl
times_any q (x ∷ xs) = any_step (q x) (times q xs) (list_any q xs) (times_any q xs)

-- whether an open proc is over
pub over_open : (over : Bool) (p opened n : ℕ) (threads : List Thread) → over ≡ false → p ≤ opened → n ≡ times (lives_in p) threads → nat_eq n 0 ≡ (over || not (list_any (if nat_le p opened then lives_in p else lives) threads))
over_open over p opened n threads o le e =
    let b : nat_le p opened ≡ true = search (rules, tests) in
    rw (o, b, e) (not_above (times (lives_in p) threads) ∙ ap not (times_any (lives_in p) threads))

any_get : (p : ℕ) (threads : List Thread) (i : ℕ) → runs_there p (slice_get threads i) ≡ true → list_any (runs_in p) threads ≡ true
any_get p [] i h = cc
any_get p (x ∷ xs) zero h = rw h refl
any_get p (x ∷ xs) (suc i) h = rw (any_get p xs i h) (search (rules, tests))

any_if : (b : Bool) (p : ℕ) (threads : List Thread) (i : ℕ) → runs_there p (cond b (slice_get threads i) None) ≡ true → list_any (runs_in p) threads ≡ true
any_if true p threads i h = any_get p threads i h
any_if false p threads i h = cc

pub some_runs : (p : ℕ) (threads : List Thread) (o : Option ℕ) → MatchOption o (list_any (runs_in p) threads ≡ false) (λ t. runs_there p (by_id threads t) ≡ true) → list_any (runs_in p) threads ≡ is_some o
some_runs p threads None h = h
some_runs p threads (Some t) h = any_if (nat_lt 0 t) p threads (t - 1) h

got_there : (p : ℕ) (threads : List Thread) (i : ℕ) → runs_there p (slice_get threads i) ≡ true → i < length threads
got_there p [] i h = absurd (cc h)
got_there p (x ∷ xs) zero h = omega arith
got_there p (x ∷ xs) (suc i) h = let more = got_there p xs i h in omega arith

made_if : (b : Bool) (p t : ℕ) (sched : Schedule) → nat_lt 0 t ≡ b → runs_there p (cond b (slice_get sched.threads (t - 1)) None) ≡ true → IsMade t sched
made_if true p t sched e h =
    let from : 0 < t = search (rules, tests) in
    let more = got_there p sched.threads (t - 1) h in
    record { from = omega arith; to = omega arith }
made_if false p t sched e h = absurd (cc h)

-- a thread that runs in a proc was made
pub made_of : (p t : ℕ) (sched : Schedule) → runs_there p (by_id sched.threads t) ≡ true → IsMade t sched
made_of p t sched h = made_if (nat_lt 0 t) p t sched refl h

off_by : (b c d : Bool) (s : State) (o : Outcome) → b ≡ false → cond (not b) (same Stray s) (cond c (same Over s) (cond d (same Stray s) o)) ≡ same Stray s
off_by b c d s o e = rw e refl

over_by : (b c d : Bool) (s : State) (o : Outcome) → b ≡ true → c ≡ true → cond (not b) (same Stray s) (cond c (same Over s) (cond d (same Stray s) o)) ≡ same Over s
over_by b c d s o e f = rw (e, f) refl

stray_by : (b c d : Bool) (s : State) (o : Outcome) → b ≡ true → c ≡ false → d ≡ true → cond (not b) (same Stray s) (cond c (same Over s) (cond d (same Stray s) o)) ≡ same Stray s
stray_by b c d s o e f g = rw (e, f, g) refl

runs_by : (b c d : Bool) (s : State) (o : Outcome) → b ≡ true → c ≡ false → d ≡ false → cond (not b) (same Stray s) (cond c (same Over s) (cond d (same Stray s) o)) ≡ o
runs_by b c d s o e f g = rw (e, f, g) refl

-- what a proc's event comes to
pub next_off : (setup : Setup) (p : ℕ) (s : State) → is_place setup p ≡ false → next_event setup p s ≡ same Stray s
unfolding next_event
next_off setup p s e = off_by (is_place setup p) (is_over p s) (list_any (runs_in p) s.threads) s (note_first p s (next_note p s)) e

pub next_over : (setup : Setup) (p : ℕ) (s : State) → is_place setup p ≡ true → is_over p s ≡ true → next_event setup p s ≡ same Over s
unfolding next_event
next_over setup p s e f = over_by (is_place setup p) (is_over p s) (list_any (runs_in p) s.threads) s (note_first p s (next_note p s)) e f

pub next_stray : (setup : Setup) (p : ℕ) (s : State) → is_place setup p ≡ true → is_over p s ≡ false → list_any (runs_in p) s.threads ≡ true → next_event setup p s ≡ same Stray s
unfolding next_event
next_stray setup p s e f g = stray_by (is_place setup p) (is_over p s) (list_any (runs_in p) s.threads) s (note_first p s (next_note p s)) e f g

pub next_runs : (setup : Setup) (p : ℕ) (s : State) → is_place setup p ≡ true → is_over p s ≡ false → list_any (runs_in p) s.threads ≡ false → next_event setup p s ≡ note_first p s (next_note p s)
unfolding next_event
next_runs setup p s e f g = runs_by (is_place setup p) (is_over p s) (list_any (runs_in p) s.threads) s (note_first p s (next_note p s)) e f g

-- whether a thread can run
can_run_as : (places : ℕ) (setup : Setup) (sched : Schedule) (s : State) (x : Thread) → IsThreadIn s.opened setup.programs x → s.opened ≤ places → SchedFor places sched s → can_run sched x ≡ state_can_run s x
can_run_as places setup sched s x member opened h =
    let from = member.proc_no.from in
    let to = member.proc_no.to in
    let count = h.count in
    rw (h.held.held x.proc_no from (omega arith)) refl

any_can_run : (places : ℕ) (setup : Setup) (sched : Schedule) (s : State) → s.opened ≤ places → SchedFor places sched s → (xs : List Thread) → All (IsThreadIn s.opened setup.programs) xs → list_any (can_run sched) xs ≡ list_any (state_can_run s) xs
any_can_run places setup sched s opened h [] all = refl
any_can_run places setup sched s opened h (x ∷ xs) all =
    rw (
      can_run_as places setup sched s x (All-head (IsThreadIn s.opened setup.programs) x xs all) opened h,
      any_can_run places setup sched s opened h xs (All-tail (IsThreadIn s.opened setup.programs) x xs all),
    ) refl

pub some_can_run : (setup : Setup) (sched : Schedule) (s : State) → SchedFor setup.places sched s → IsSound setup s → list_any (can_run sched) sched.threads ≡ list_any (state_can_run s) s.threads
some_can_run setup sched s h sound = rw (sym h.threads) (any_can_run setup.places setup sched s sound.opened h s.threads sound.members)

-- a run is stuck by what the parts say
stuck_value : (board : Board) (s : State) → Stands board s → IsSound board.setup s → is_stuck s ≡ (list_any lives board.sched.threads && not (list_any runs board.sched.threads) && not (list_any (can_run board.sched) board.sched.threads) && not (list_any has_call board.io.ioprocs) && not (list_any has_note s.procs))
stuck_value board s st sound = rw (some_can_run board.setup board.sched s st.sched sound, sym st.sched.threads, sym st.io.ioprocs) refl

dead_off : (a b r h n : Bool) → a ≡ false → (a && not b && not r && not h && not n) ≡ false
dead_off a b r h n e = rw e refl

running_off : (a b r h n : Bool) → b ≡ true → (a && not b && not r && not h && not n) ≡ false
running_off true b r h n e = rw e refl
running_off false b r h n e = refl

ready_off : (a b r h n : Bool) → r ≡ true → (a && not b && not r && not h && not n) ≡ false
ready_off true true r h n e = refl
ready_off true false r h n e = rw e refl
ready_off false b r h n e = refl

calls_off : (a b r h n : Bool) → h ≡ true → (a && not b && not r && not h && not n) ≡ false
calls_off true true r h n e = refl
calls_off true false true h n e = refl
calls_off true false false h n e = rw e refl
calls_off false b r h n e = refl

notes_left : (a b r h n : Bool) → a ≡ true → b ≡ false → r ≡ false → h ≡ false → (a && not b && not r && not h && not n) ≡ not n
notes_left a b r h n ea eb er eh = rw (ea, eb, er, eh) refl

-- no thread lives; one runs; one can run; an ioproc has a call; else it is stuck unless a note is pending
pub stuck_dead : (board : Board) (s : State) → Stands board s → IsSound board.setup s → list_any lives board.sched.threads ≡ false → false ≡ is_stuck s
stuck_dead board s st sound e = sym (stuck_value board s st sound ∙ dead_off _ _ _ _ _ e)

pub stuck_running : (board : Board) (s : State) → Stands board s → IsSound board.setup s → list_any runs board.sched.threads ≡ true → false ≡ is_stuck s
stuck_running board s st sound e = sym (stuck_value board s st sound ∙ running_off (list_any lives board.sched.threads) _ _ _ _ e)

pub stuck_ready : (board : Board) (s : State) → Stands board s → IsSound board.setup s → list_any (can_run board.sched) board.sched.threads ≡ true → false ≡ is_stuck s
stuck_ready board s st sound e = sym (stuck_value board s st sound ∙ ready_off (list_any lives board.sched.threads) (list_any runs board.sched.threads) _ _ _ e)

pub stuck_calls : (board : Board) (s : State) → Stands board s → IsSound board.setup s → list_any has_call board.io.ioprocs ≡ true → false ≡ is_stuck s
stuck_calls board s st sound e =
    sym (stuck_value board s st sound ∙ calls_off (list_any lives board.sched.threads) (list_any runs board.sched.threads) (list_any (can_run board.sched) board.sched.threads) _ _ e)

pub stuck_notes : (board : Board) (s : State) (n : Bool) → Stands board s → IsSound board.setup s → list_any lives board.sched.threads ≡ true → list_any runs board.sched.threads ≡ false → list_any (can_run board.sched) board.sched.threads ≡ false → list_any has_call board.io.ioprocs ≡ false → n ≡ list_any has_note s.procs → not n ≡ is_stuck s
stuck_notes board s n st sound a b r h e = ap not e ∙ sym (stuck_value board s st sound ∙ notes_left _ _ _ _ (list_any has_note s.procs) a b r h)
