-- The turns of procs, and what ioprocs do.
use Rattle.std.proofs.Common.{◌≡◌, ℕ, ◌-◌, ◌||◌, Bool, true, false, not, cond, ltb, eqb, List, [], ◌++◌, Option, Some, None, refl, ap, sym, subst, ◌∙◌, arith, append-nil}
use Rattle.std.specs.Prelude.{slice_get, option_map}
use Rattle.std.specs.List.{list_any}
use Rattle.p9_word.specs.declared.answer.Answer.{Answer}
use Rattle.p9_word.specs.declared.answer.Answer.TheVariants.{Io as IoAnswered}
use Rattle.p9_word.specs.declared.io_call.Effect.{Effect}
use Rattle.p9_word.specs.declared.setup.Setup.{Setup}
use Rattle.p9_word.specs.declared.trail.Entry.{Entry}
use Rattle.p9_word.specs.declared.trail.Seat.{Seat}
use Rattle.p9_manual.specs.declared.state.Channel.{Channel}
use Rattle.p9_word.specs.declared.trail.Event.{Event}
use Rattle.p9_word.specs.declared.trail.Event.TheVariants.{Next, IoTake, IoDid}
use Rattle.p9_word.specs.declared.trail.Reply.{Reply}
use Rattle.p9_word.specs.declared.trail.Reply.TheVariants.{Turn, Idle as IdleReply, Over, Stray, Noted}
use Rattle.p9_manual.specs.declared.state.Place.{Place}
use Rattle.p9_manual.specs.declared.state.Place.TheVariants.{Running, New, Ready, Waiting, Ended}
use Rattle.p9_manual.specs.declared.state.Thread.{Thread}
use Rattle.p9_manual.specs.declared.state.Ioproc.{Ioproc}
use Rattle.p9_manual.specs.declared.state.Ioproc.TheVariants.{Unmade, Idle, Posted, Begun, Closed}
use Rattle.p9_manual.specs.NoteCalls.{met_by, next_note, with_pending, with_proc}
use Rattle.p9_manual.specs.Notes.{Delivery}
use Rattle.p9_manual.specs.Places.{is_of, lives, runs_in}
use Rattle.p9_laws.specs.Receipts.{Receipt, received_at, received_by}
use Rattle.p9_laws.specs.LastCall.{call_position}
use Rattle.p9_manual.specs.Effects.{fits}
use Rattle.p9_manual.specs.Ioprocs.{with_ioproc, take_call, did_call, answered, effect_answer, io_event}
use Rattle.p9_manual.specs.Next.{is_place, is_over, turn_reply, started, turn, first_ready, next_of, note_first, next_event}
use Rattle.p9_manual.specs.Stuck.{is_stuck}
use Rattle.p9_manual.specs.State.{Move, State, Outcome, by_id, placed, same}
use Rattle.p9_manual.specs.Step.{makes_entry}
use Rattle.p9_manual.specs.Standing.{place_of, place_in}
use Rattle.p9_laws.proofs.Sound.Counts.{times-append}
use Rattle.p9_laws.proofs.Received.Places.{told_due, dues-put}
use Rattle.p9_laws.proofs.Received.Agrees.{Agrees, put_quietly, fewer_waits}
use Rattle.p9_laws.proofs.Received.Grows.{Grows, grows_same}
use Rattle.p9_laws.proofs.Received.Outcomes.{is_turn, AreAsked}
use Rattle.p9_laws.proofs.Received.Requests.{ended_agrees}
use Rattle.p9_laws.proofs.Moves.Steps.{IsHere}

-- what an event owes, where these values move by it: what holds goes on, with the receipts that its reply tells, and a thread
-- goes on with the answer with which it stood ready
pub record GoesRight (s : State) (event : Event) (mv : List Move) (o : Outcome) : Type 0 where
  pub grows : Grows mv s.chans o.state.chans
  pub agrees : makes_entry o.reply ≡ true → (H : List Entry) (seat : Seat) → IsHere H s.position seat event o → AreAsked H s → (ms : List Move) (rs : List Receipt) (last : ℕ → Option ℕ) → Agrees H ms rs last s.threads s.waits s.chans → Agrees H (ms ++ mv) (rs ++ received_at o.reply) (λ u. call_position u s.position (last u) event) o.state.threads o.state.waits o.state.chans
  pub turns : (t : ℕ) (a : Answer) → o.reply ≡ Turn t a → place_of s.threads t ≡ Ready a

pub silent_nothing : (reply : Reply) → is_turn reply ≡ false → received_at reply ≡ []
silent_nothing (Turn t a) h = cc
silent_nothing reply h = refl

pub silent_no_turn : (reply : Reply) (t : ℕ) (a : Answer) → is_turn reply ≡ false → reply ≡ Turn t a → ⊥
silent_no_turn reply t a h e = let k = ap is_turn e in cc

pub stray_right : (s : State) (event : Event) (reply : Reply) → makes_entry reply ≡ false → GoesRight s event [] (same reply s)
stray_right s event reply h =
    record {
      grows = grows_same [] s.chans;
      agrees = λ makes H seat here asked ms rs last a. cc;
      turns = λ t a e. let k = ap makes_entry e in cc;
    }

-- an event that moves nothing, tells nothing and is no call
quiet_right : (s : State) (event : Event) (o : Outcome) → is_turn o.reply ≡ false → o.state.chans ≡ s.chans → ((H : List Entry) (ms : List Move) (rs : List Receipt) (last : ℕ → Option ℕ) → Agrees H ms rs last s.threads s.waits s.chans → Agrees H ms rs (λ u. call_position u s.position (last u) event) o.state.threads o.state.waits o.state.chans) → GoesRight s event [] o
quiet_right s event o silent same_chans k =
    record {
      grows = subst (λ (chans : List Channel). Grows [] s.chans chans) (sym same_chans) (grows_same [] s.chans);
      agrees = λ makes H seat here asked ms rs last a.
          let e = silent_nothing o.reply silent in
          rw (e, append-nil ms, append-nil rs) (k H ms rs last a);
      turns = λ t a e. absurd (silent_no_turn o.reply t a silent e);
    }

if_right : (s : State) (event : Event) (b : Bool) (o p : Outcome) → GoesRight s event [] o → GoesRight s event [] p → GoesRight s event [] (cond b o p)
if_right s event true o p f g = f
if_right s event false o p f g = g

put_running : (s : State) (t : ℕ) (reply : Reply) → is_turn reply ≡ false → GoesRight s Next [] (record { reply = reply; moved = None; state = record s { threads = placed t Running s.threads } })
put_running s t reply silent =
    quiet_right s Next _ silent refl (λ H ms rs last a. put_quietly a t Running (record { nothing = λ u. refl; unsent = refl }))

-- the receipt that a thread was about to be told is told
turn_told : (s : State) (t : ℕ) (thread : Thread) (x : Answer) → by_id s.threads t ≡ Some thread → slice_get s.threads (t - 1) ≡ Some thread → thread.place ≡ Ready x → (H : List Entry) (ms : List Move) (rs : List Receipt) (last : ℕ → Option ℕ) → Agrees H ms rs last s.threads s.waits s.chans → Agrees H ms (rs ++ received_by t x) last (placed t Running s.threads) s.waits s.chans
turn_told s t thread x e at h H ms rs last a =
    let quiet = put_quietly a t Running (record { nothing = λ u. refl; unsent = refl }) in
    record {
      counts = λ p.
          let c = a.counts p in
          let d = dues-put p Running s.threads (t - 1) thread at in
          let d' = rw h at d in
          let z = told_due p t (Ready x) in
          let k = times-append (λ (y : Receipt). eqb y.from p) rs (received_by t x) in
          omega (arith, c, d', z, k);
      right = quiet.right;
      calls = a.calls;
    }

get_by_id : (b : Bool) (o : Option Thread) (x : Thread) → cond b o None ≡ Some x → o ≡ Some x
get_by_id true o x h = h
get_by_id false o x h = cc

same_turn : (t u : ℕ) (x a : Answer) → Turn t x ≡ Turn u a → (t ≡ u) × (x ≡ a)
same_turn t u x a e = (cc, cc)

turn_at : (s : State) (t : ℕ) (thread : Thread) (pl : Place) → by_id s.threads t ≡ Some thread → thread.place ≡ pl → GoesRight s Next [] (record { reply = turn_reply t (thread.program, thread.arg, pl); moved = None; state = record s { threads = placed t Running s.threads } })
turn_at s t thread (Ready x) e h =
    record {
      grows = grows_same [] s.chans;
      agrees = λ makes H seat here asked ms rs last a.
          rw (append-nil ms) (turn_told s t thread x e (get_by_id (ltb 0 t) (slice_get s.threads (t - 1)) thread e) h H ms rs last a);
      turns = λ u y k.
          let q = same_turn t u x y k in
          let there : place_of s.threads t ≡ Ready x = ap place_in e ∙ h in
          rw (← q.0, ← q.1) there;
    }
turn_at s t thread New e h = put_running s t _ refl
turn_at s t thread Running e h = put_running s t _ refl
turn_at s t thread Waiting e h = put_running s t _ refl
turn_at s t thread Ended e h = put_running s t _ refl

turn_right : (s : State) (line : List ℕ) (t : ℕ) (o : Option Thread) → by_id s.threads t ≡ o → GoesRight s Next [] (turn t (record s { line = line }) (option_map started o))
turn_right s line t None e =
    quiet_right s Next _ refl refl (λ H ms rs last a. a)
turn_right s line t (Some thread) e =
    let k = turn_at (record s { line = line }) t thread thread.place e refl in
    record { grows = k.grows; agrees = k.agrees; turns = k.turns }

next_of_right : (s : State) (o : Option (ℕ × List ℕ)) → GoesRight s Next [] (next_of s o)
next_of_right s None =
    if_right s Next (is_stuck s) _ _
    (quiet_right s Next _ refl refl (λ H ms rs last a. a))
    (stray_right s Next IdleReply refl)
next_of_right s (Some found) = turn_right s found.1 found.0 (by_id s.threads found.0) refl

met_right : (p : ℕ) (note : List ℕ) (pending : List (List ℕ)) (s : State) (o : Option ℕ) → GoesRight s Next [] (met_by p note o (with_proc (with_pending pending) p s))
met_right p note pending s (Some id) = quiet_right s Next _ refl refl (λ H ms rs last a. a)
met_right p note pending s None =
    let after : State = with_proc (with_pending pending) p s in
    quiet_right s Next _ refl refl (λ H ms rs last a. ended_agrees H ms rs last (λ t. is_of p (by_id s.threads t)) after a)

note_first_right : (p : ℕ) (s : State) (o : Option Delivery) → GoesRight s Next [] (note_first p s o)
note_first_right p s None = next_of_right s (first_ready p s)
note_first_right p s (Some d) = met_right p d.note d.pending s d.caught_by

pub next_right : (setup : Setup) (p : ℕ) (s : State) → GoesRight s Next [] (next_event setup p s)
unfolding next_event
next_right setup p s =
    if_right s Next (not (is_place setup p)) _ _
    (stray_right s Next Stray refl)
    (if_right s Next (is_over p s) _ _
    (stray_right s Next Over refl)
    (if_right s Next (list_any (runs_in p) s.threads) _ _
    (stray_right s Next Stray refl)
    (note_first_right p s (next_note p s))))

take_right : (k : ℕ) (s : State) (o : Option Ioproc) → GoesRight s IoTake [] (take_call k s o)
take_right k s None = stray_right s IoTake Stray refl
take_right k s (Some Closed) = stray_right s IoTake Over refl
take_right k s (Some (Begun t call)) = if_right s IoTake (s.over || not (list_any lives s.threads)) _ _ (stray_right s IoTake Over refl) (stray_right s IoTake Stray refl)
take_right k s (Some (Posted t call)) =
    if_right s IoTake (s.over || not (list_any lives s.threads)) _ _
    (stray_right s IoTake Over refl)
    (quiet_right s IoTake _ refl refl (λ H ms rs last a. a))
take_right k s (Some Unmade) = if_right s IoTake (s.over || not (list_any lives s.threads)) _ _ (stray_right s IoTake Over refl) (stray_right s IoTake IdleReply refl)
take_right k s (Some Idle) = if_right s IoTake (s.over || not (list_any lives s.threads)) _ _ (stray_right s IoTake Over refl) (stray_right s IoTake IdleReply refl)

answered_right : (effect told_effect : Effect) (k : ℕ) (s : State) (o : Option ℕ) → GoesRight s (IoDid told_effect) [] (record { reply = Noted; moved = None; state = answered o effect (with_ioproc k Idle s) })
answered_right effect told_effect k s None = quiet_right s (IoDid told_effect) _ refl refl (λ H ms rs last a. a)
answered_right effect told_effect k s (Some t) =
    quiet_right s (IoDid told_effect) _ refl refl
    (λ H ms rs last a. fewer_waits (put_quietly a t (Ready (IoAnswered (effect_answer effect))) (record { nothing = λ u. refl; unsent = refl })) t)

did_right : (k : ℕ) (effect : Effect) (s : State) (o : Option Ioproc) → GoesRight s (IoDid effect) [] (did_call k effect s o)
did_right k effect s (Some (Begun t call)) =
    if_right s (IoDid effect) (fits call effect) _ _ (answered_right effect effect k s t) (stray_right s (IoDid effect) Stray refl)
did_right k effect s (Some Unmade) = stray_right s (IoDid effect) Stray refl
did_right k effect s (Some Idle) = stray_right s (IoDid effect) Stray refl
did_right k effect s (Some (Posted t call)) = stray_right s (IoDid effect) Stray refl
did_right k effect s (Some Closed) = stray_right s (IoDid effect) Stray refl
did_right k effect s None = stray_right s (IoDid effect) Stray refl

pub io_take_right : (k : ℕ) (s : State) → GoesRight s IoTake [] (io_event k s None)
unfolding io_event
io_take_right k s = take_right k s (by_id s.ioprocs k)

pub io_did_right : (k : ℕ) (effect : Effect) (s : State) → GoesRight s (IoDid effect) [] (io_event k s (Some effect))
unfolding io_event
io_did_right k effect s = did_right k effect s (by_id s.ioprocs k)
