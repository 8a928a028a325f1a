-- What an ioproc's event and a proc's turn do.
use Rattle.std.proofs.Common.{◌≡◌, ◌≢◌, ℕ, ◌-◌, ◌≤◌, Bool, true, false, not, cond, ◌||◌, eqb, List, Option, Some, None, refl, ap, ◌∙◌, arith}
use Rattle.std.specs.Prelude.{option_map}
use Rattle.std.specs.List.{list_any}
use Rattle.p9_word.specs.declared.io_call.IoCall.{IoCall}
use Rattle.p9_word.specs.declared.io_call.Effect.{Effect}
use Rattle.p9_word.specs.declared.setup.Setup.{Setup}
use Rattle.p9_word.specs.declared.trail.Reply.{Reply}
use Rattle.p9_word.specs.declared.trail.Reply.TheVariants.{Noted}
use Rattle.p9_manual.specs.declared.state.Place.{Place}
use Rattle.p9_manual.specs.declared.state.Place.TheVariants.{Running, New, Ready, Waiting, Ended}
use Rattle.p9_manual.specs.declared.state.Thread.{Thread}
use Rattle.p9_manual.specs.declared.state.Ioproc.{Ioproc}
use Rattle.p9_manual.specs.declared.state.Ioproc.TheVariants.{Unmade, Idle, Posted, Begun, Closed}
use Rattle.p9_manual.specs.State.{State, Outcome, by_id, pick, placed, at_place, same}
use Rattle.p9_manual.specs.Ends.{Gone}
use Rattle.p9_manual.specs.NoteCalls.{met_by, next_note, with_pending, with_proc}
use Rattle.p9_manual.specs.Notes.{Delivery}
use Rattle.p9_manual.specs.Places.{lives, runs_in, is_ended, is_of}
use Rattle.p9_manual.specs.Stuck.{is_stuck}
use Rattle.p9_manual.specs.Effects.{fits}
use Rattle.p9_manual.specs.Ioprocs.{take_call, did_call, io_event, with_ioproc, answered}
use Rattle.p9_manual.specs.Next.{next_event, note_first, first_ready, next_of, turn, turn_reply, started, stuck, is_place, is_over}
use Rattle.p9_manual.specs.Step.{makes_entry}
use Rattle.p9_laws.specs.IoReplies.{IsBegun}
use Rattle.p9_laws.proofs.Tallies.{tally, tally_pick, tally-changed, tally-put_exact}
use Rattle.p9_laws.proofs.Standing.{place_of, times_waiting, get_by_id, by_id-changed_other, times_in_line}
use Rattle.p9_laws.proofs.RunMoves.{IsUpright, IsMoved, IsFading, is_call_of, is_long, unmoved, placed_upright, same_id, other_id}
use Rattle.p9_laws.proofs.FirstReady.{in_proc, first_parts}
use Rattle.p9_laws.proofs.RunFreed.{done_for, freed_moved, freed_upright}
use Rattle.p9_laws.proofs.RunCalls.{put_upright, begun_elsewhere}
use Rattle.p9_laws.proofs.RunEnds.{ended_begun, ended_moved, ended_upright}

-- what an ioproc's event keeps
pub record IsIoServed (s : State) (o : Outcome) : Type 0 where
  pub moved : IsMoved s.threads o.state.threads
  pub upright : IsUpright o.state
  pub over : o.state.over ≡ s.over
  pub opened : o.state.opened ≡ s.opened

same_served : (s : State) (r : Reply) → IsUpright s → IsIoServed s (same r s)
same_served s r upright = record { moved = unmoved s.threads; upright = upright; over = refl; opened = refl }

if_io_served : (s : State) (b : Bool) (o p : Outcome) → IsIoServed s o → IsIoServed s p → IsIoServed s (cond b o p)
if_io_served s true o p f g = f
if_io_served s false o p f g = g

begun_upright : (k t : ℕ) (call : IoCall) (s : State) → by_id s.ioprocs k ≡ Some (Posted t call) → IsUpright s → IsUpright (with_ioproc k (Begun (Some t) call) s)
begun_upright k t call s at upright =
    let there = get_by_id s.ioprocs k (Posted t call) at in
    record {
      in_line = upright.in_line;
      in_waits = upright.in_waits;
      in_calls = λ u. let e = tally-put_exact (is_call_of u) (Begun (Some t) call) s.ioprocs (k - 1) (Posted t call) there in let c = upright.in_calls u in omega (arith, e, c);
      short = let e = tally-changed is_long (λ _. Begun (Some t) call) s.ioprocs (k - 1) (Posted t call) there (λ h. h) in let z = upright.short in omega (arith, e, z);
    }

take_served : (k : ℕ) (s : State) (o : Option Ioproc) → by_id s.ioprocs k ≡ o → IsUpright s → IsIoServed s (take_call k s o)
take_served k s None at upright = same_served s _ upright
take_served k s (Some Closed) at upright = same_served s _ upright
take_served k s (Some (Begun t call)) at upright = if_io_served s (s.over || not (list_any lives s.threads)) _ _ (same_served s _ upright) (same_served s _ upright)
take_served k s (Some (Posted t call)) at upright =
    if_io_served s (s.over || not (list_any lives s.threads)) _ _ (same_served s _ upright)
    (record { moved = unmoved s.threads; upright = begun_upright k t call s at upright; over = refl; opened = refl })
take_served k s (Some Unmade) at upright = if_io_served s (s.over || not (list_any lives s.threads)) _ _ (same_served s _ upright) (same_served s _ upright)
take_served k s (Some Idle) at upright = if_io_served s (s.over || not (list_any lives s.threads)) _ _ (same_served s _ upright) (same_served s _ upright)

noted : (k : ℕ) (t : Option ℕ) (call : IoCall) (effect : Effect) (s : State) → by_id s.ioprocs k ≡ Some (Begun t call) → IsUpright s → IsIoServed s (record { reply = Noted; moved = None; state = answered t effect (with_ioproc k Idle s) })
noted k None call effect s at upright =
    record { moved = unmoved s.threads; upright = put_upright s k (Begun None call) Idle at upright (λ u. refl) (λ u. refl) refl; over = refl; opened = refl }
noted k (Some t) call effect s at upright =
    let freed = done_for t k call s at in
    record { moved = freed_moved t k _ Idle _ s freed upright; upright = freed_upright t k _ Idle _ s freed upright; over = refl; opened = refl }

did_served : (k : ℕ) (effect : Effect) (s : State) (o : Option Ioproc) → by_id s.ioprocs k ≡ o → IsUpright s → IsIoServed s (did_call k effect s o)
did_served k effect s None at upright = same_served s _ upright
did_served k effect s (Some Closed) at upright = same_served s _ upright
did_served k effect s (Some (Posted t call)) at upright = same_served s _ upright
did_served k effect s (Some Unmade) at upright = same_served s _ upright
did_served k effect s (Some Idle) at upright = same_served s _ upright
did_served k effect s (Some (Begun t call)) at upright = if_io_served s (fits call effect) _ _ (noted k t call effect s at upright) (same_served s _ upright)

pub io_served : (k : ℕ) (s : State) (o : Option Effect) → IsUpright s → IsIoServed s (io_event k s o)
unfolding io_event
io_served k s None upright = take_served k s _ refl upright
io_served k s (Some effect) upright = did_served k effect s _ refl upright

if_begun : (b : Bool) (o p : Outcome) (k : ℕ) (call : IoCall) → IsBegun call (by_id o.state.ioprocs k) → IsBegun call (by_id p.state.ioprocs k) → IsBegun call (by_id (cond b o p).state.ioprocs k)
if_begun true o p k call f g = f
if_begun false o p k call f g = g

-- a begun call stays begun where a call is taken
pub take_begun : (j : ℕ) (s : State) (o : Option Ioproc) → by_id s.ioprocs j ≡ o → (k : ℕ) (call : IoCall) → IsBegun call (by_id s.ioprocs k) → IsBegun call (by_id (take_call j s o).state.ioprocs k)
take_begun j s None at k call h = h
take_begun j s (Some Closed) at k call h = h
take_begun j s (Some (Begun t other)) at k call h = if_begun (s.over || not (list_any lives s.threads)) _ _ k call h h
take_begun j s (Some (Posted t other)) at k call h =
    if_begun (s.over || not (list_any lives s.threads)) _ _ k call h (begun_elsewhere s.ioprocs j (Posted t other) (Begun (Some t) other) at (λ x c e. cc) k call h)
take_begun j s (Some Unmade) at k call h = if_begun (s.over || not (list_any lives s.threads)) _ _ k call h h
take_begun j s (Some Idle) at k call h = if_begun (s.over || not (list_any lives s.threads)) _ _ k call h h

answered_ioprocs : (t : Option ℕ) (effect : Effect) (s : State) → (answered t effect s).ioprocs ≡ s.ioprocs
answered_ioprocs None effect s = refl
answered_ioprocs (Some t) effect s = refl

-- and where an effect is told elsewhere
pub did_begun : (j : ℕ) (effect : Effect) (s : State) (o : Option Ioproc) → by_id s.ioprocs j ≡ o → (k : ℕ) (call : IoCall) → k ≢ j → IsBegun call (by_id s.ioprocs k) → IsBegun call (by_id (did_call j effect s o).state.ioprocs k)
did_begun j effect s None at k call ne h = h
did_begun j effect s (Some Closed) at k call ne h = h
did_begun j effect s (Some (Posted t other)) at k call ne h = h
did_begun j effect s (Some Unmade) at k call ne h = h
did_begun j effect s (Some Idle) at k call ne h = h
did_begun j effect s (Some (Begun t other)) at k call ne h =
    if_begun (fits other effect) _ _ k call
    (rw (answered_ioprocs t effect (with_ioproc j Idle s), by_id-changed_other (λ _. Idle) s.ioprocs j k (Begun t other) at ne) h) h

-- what a turn keeps
pub record IsTurned (s : State) (o : Outcome) : Type 0 where
  pub fades : (q : Thread → Bool) → IsFading q → tally q o.state.threads ≤ tally q s.threads
  pub upright : IsUpright o.state
  pub begun : (k : ℕ) (call : IoCall) → IsBegun call (by_id s.ioprocs k) → IsBegun call (by_id o.state.ioprocs k)
  pub over : s.over ≡ true → o.state.over ≡ true
  pub opened : o.state.opened ≡ s.opened

same_turned : (s : State) (r : Reply) → IsUpright s → IsTurned s (same r s)
same_turned s r upright = record { fades = λ q h. omega arith; upright = upright; begun = λ k call h. h; over = λ h. h; opened = refl }

abbrev pub Turned : ℕ → State → Thread → Place → Outcome
Turned t s thread pl = record { reply = turn_reply t (thread.program, thread.arg, pl); moved = None; state = record s { threads = placed t Running s.threads } }

-- the parts of a turn of t, which stands in the line
turned : (p : ℕ → Bool) (t : ℕ) (rest : List ℕ) (s : State) (thread : Thread) (pl : Place) → pick p s.line ≡ Some (t, rest) → by_id s.threads t ≡ Some thread → thread.place ≡ pl → is_ended pl ≡ false → times_waiting pl ≡ 0 → times_in_line pl ≡ 1 → IsUpright s → IsTurned s (Turned t (record s { line = rest }) thread pl)
turned p t rest s thread pl e at is alive free lined upright =
    let here : place_of s.threads t ≡ pl = rw at is in
    record {
      fades = λ q fading. tally-changed q (at_place Running) s.threads (t - 1) thread (get_by_id s.threads t thread at) (fading thread Running (rw is alive));
      upright = placed_upright s.threads s.line rest s.waits s.waits s.ioprocs s.ioprocs t Running upright (thread, at)
          (λ u ne. let k = tally_pick p (λ x. eqb x u) s.line t rest e in let z = rw (other_id t u ne) at k in omega (arith, z))
          (let k = tally_pick p (λ x. eqb x t) s.line t rest e in let z = rw (same_id t) at k in let l = upright.in_line t ∙ ap times_in_line here in omega (arith, z, l, lined))
          (λ u ne. refl) (upright.in_waits t ∙ ap times_waiting here ∙ free) upright.in_calls upright.short;
      begun = λ k call h. h;
      over = λ h. h;
      opened = refl;
    }

turned_at : (p : ℕ → Bool) (t : ℕ) (rest : List ℕ) (s : State) (thread : Thread) (pl : Place) → pick p s.line ≡ Some (t, rest) → by_id s.threads t ≡ Some thread → thread.place ≡ pl → makes_entry (turn_reply t (thread.program, thread.arg, pl)) ≡ true → IsUpright s → IsTurned s (Turned t (record s { line = rest }) thread pl)
turned_at p t rest s thread New e at is makes upright = turned p t rest s thread New e at is refl refl refl upright
turned_at p t rest s thread (Ready a) e at is makes upright = turned p t rest s thread (Ready a) e at is refl refl refl upright
turned_at p t rest s thread Running e at is makes upright = cc
turned_at p t rest s thread Waiting e at is makes upright = cc
turned_at p t rest s thread Ended e at is makes upright = cc

turn_turned : (p : ℕ → Bool) (t : ℕ) (rest : List ℕ) (s : State) (o : Option Thread) → pick p s.line ≡ Some (t, rest) → by_id s.threads t ≡ o → makes_entry (turn t (record s { line = rest }) (option_map started o)).reply ≡ true → IsUpright s → IsTurned s (turn t (record s { line = rest }) (option_map started o))
turn_turned p t rest s None e at makes upright = cc
turn_turned p t rest s (Some thread) e at makes upright = turned_at p t rest s thread thread.place e at refl makes upright

if_turned : (b : Bool) (s : State) (o p : Outcome) → (makes_entry o.reply ≡ true → IsTurned s o) → (makes_entry p.reply ≡ true → IsTurned s p) → makes_entry (cond b o p).reply ≡ true → IsTurned s (cond b o p)
if_turned true s o p f g makes = f makes
if_turned false s o p f g makes = g makes

stuck_turned : (s : State) → IsUpright s → IsTurned s (stuck s)
stuck_turned s upright = record { fades = λ q h. omega arith; upright = upright; begun = λ k call h. h; over = λ h. refl; opened = refl }

next_of_turned : (p : ℕ) (s : State) (o : Option (ℕ × List ℕ)) → first_ready p s ≡ o → IsUpright s → makes_entry (next_of s o).reply ≡ true → IsTurned s (next_of s o)
next_of_turned p s None e upright makes = if_turned (is_stuck s) s _ _ (λ m. stuck_turned s upright) (λ m. same_turned s _ upright) makes
next_of_turned p s (Some found) e upright makes = turn_turned (in_proc p s) found.0 found.1 s (by_id s.threads found.0) (first_parts p s found e).1 refl makes upright

-- a note that is delivered, with or without the end of the proc's threads
met_turned : (p : ℕ) (note : List ℕ) (pending : List (List ℕ)) (o : Option ℕ) (s : State) → IsUpright s → IsTurned s (met_by p note o (with_proc (with_pending pending) p s))
met_turned p note pending (Some id) s upright = record { fades = λ q h. omega arith; upright = upright; begun = λ k call h. h; over = λ h. h; opened = refl }
met_turned p note pending None s upright =
    let ends : Gone = λ t. is_of p (by_id s.threads t) in
    record {
      fades = (ended_moved ends s.threads).fades;
      upright = ended_upright ends (with_proc (with_pending pending) p s) upright;
      begun = ended_begun ends s.ioprocs;
      over = λ h. h;
      opened = refl;
    }

note_turned : (p : ℕ) (s : State) (o : Option Delivery) → IsUpright s → makes_entry (note_first p s o).reply ≡ true → IsTurned s (note_first p s o)
note_turned p s None upright makes = next_of_turned p s (first_ready p s) refl upright makes
note_turned p s (Some d) upright makes = met_turned p d.note d.pending d.caught_by s upright

pub next_turned : (setup : Setup) (p : ℕ) (s : State) → IsUpright s → makes_entry (next_event setup p s).reply ≡ true → IsTurned s (next_event setup p s)
unfolding next_event
next_turned setup p s upright makes =
    if_turned (not (is_place setup p)) s _ _ (λ m. same_turned s _ upright)
    (λ m. if_turned (is_over p s) s _ _ (λ m. same_turned s _ upright)
    (λ m. if_turned (list_any (runs_in p) s.threads) s _ _ (λ m. same_turned s _ upright)
    (λ m. note_turned p s (next_note p s) upright m) m) m) makes
