-- What holds after each legal history, by induction: its state is upright, and its threads stand where their lives say.
use Rattle.std.proofs.Common.{◌≡◌, ◌≢◌, ◌⊎◌, ℕ, zero, suc, ◌+◌, ◌<◌, Bool, true, false, not, cond, ◌||◌, eqb, List, [], ◌∷◌, ◌++◌, map, replicate, Option, Some, None, refl, sym, subst, inl, inr, arith, rules, tests, zero-add}
use Rattle.std.specs.Prelude.{option_map, slice_get}
use Rattle.std.specs.List.{list_any, fold}
use Rattle.std.proofs.lemmas.List.Sums.{fold-append}
use Rattle.std.proofs.lemmas.Bool.{cases_eq, eqb-true}
use Rattle.p9_word.specs.Setup.{IsValid}
use Rattle.p9_word.specs.declared.answer.Answer.{Answer}
use Rattle.p9_word.specs.declared.request.Request.{Request}
use Rattle.p9_word.specs.declared.setup.Setup.{Setup}
use Rattle.p9_word.specs.declared.setup.ThreadSetup.{ThreadSetup}
use Rattle.p9_word.specs.declared.trail.Entry.{Entry}
use Rattle.p9_word.specs.declared.trail.Event.{Event}
use Rattle.p9_word.specs.declared.trail.Event.TheVariants.{Call, Next, IoTake, IoDid}
use Rattle.p9_word.specs.declared.trail.Reply.{Reply}
use Rattle.p9_word.specs.declared.trail.Reply.TheVariants.{Now, Ended as EndedReply}
use Rattle.p9_word.specs.declared.trail.Seat.{Seat}
use Rattle.p9_word.specs.declared.trail.Seat.TheVariants.{Proc, Io as IoSeat}
use Rattle.p9_manual.specs.declared.state.Place.{Place}
use Rattle.p9_manual.specs.declared.state.Place.TheVariants.{Running, New, Ready, Waiting, Ended}
use Rattle.p9_manual.specs.declared.state.Thread.{Thread}
use Rattle.p9_manual.specs.declared.state.Ioproc.{Ioproc}
use Rattle.p9_manual.specs.declared.state.Ioproc.TheVariants.{Unmade}
use Rattle.p9_manual.specs.State.{State, Outcome, by_id, placed, at_place}
use Rattle.p9_manual.specs.NoteCalls.{met_by, next_note, with_pending, with_proc}
use Rattle.p9_manual.specs.Notes.{Delivery}
use Rattle.p9_manual.specs.Places.{is_of, runs_in, runs_there}
use Rattle.p9_manual.specs.Stuck.{is_stuck}
use Rattle.p9_manual.specs.Next.{next_event, note_first, first_ready, next_of, turn, turn_reply, started, is_place, is_over}
use Rattle.p9_manual.specs.Step.{step, outcome, called, makes_entry, counted}
use Rattle.p9_manual.specs.History.{IsLegal, IsLegalFrom, after_entry, begin_state, state_after, new_thread, with_entry, ids_from}
use Rattle.p9_manual.specs.Programs.{Life, Unborn, Lives, Dead, life, life_after, given_answer, ends_all, after_call, after_event, Asks, IsAsked, RunsFrom, RunsPrograms}
use Rattle.p9_laws.specs.RunReplies.{IsLiving}
use Rattle.p9_laws.proofs.Tallies.{tally}
use Rattle.p9_laws.proofs.Standing.{IsUp, place_of, place_in, times_waiting, by_id-suc, by_id-changed_same, by_id-changed_other, times_in_line}
use Rattle.p9_laws.proofs.RunMoves.{IsUpright, is_unborn, is_call_of, is_long, same_id, other_id}
use Rattle.p9_laws.proofs.RunAsked.{IsCalled, running_called, elsewhere_called, called_all}
use Rattle.p9_laws.proofs.RunEnds.{ended_moved}
use Rattle.p9_laws.proofs.RunTurns.{IsIoServed, io_served, Turned}
use Rattle.p9_laws.proofs.RunSteps.{step_stepped}
use Rattle.p9_laws.proofs.RunMembers.{AreMembers, members_on, begin_members}

-- a thread that hasn't begun is unborn, and one that is up lives
pub record AgreesIn (o : Option Thread) (l : Life) : Type 0 where
  pub unborn : is_unborn o ≡ true → l ≡ Unborn
  pub living : IsUp (place_in o) → IsLiving l

abbrev pub Agrees : (ℕ → Life) → List Thread → Type 0
Agrees lives threads = (u : ℕ) → AgreesIn (by_id threads u) (lives u)

answered_lives : (l : Life) (a : Answer) → IsLiving l → IsLiving (given_answer a l)
answered_lives Unborn a h = h
answered_lives Dead a h = h
answered_lives (Lives program arg answers) a h = tt

if_lives : (b : Bool) (l m : Life) → (b ≡ true → IsLiving l) → (b ≡ false → IsLiving m) → IsLiving (cond b l m)
if_lives true l m f g = f refl
if_lives false l m f g = g refl

if_unborn : (b : Bool) (l m : Life) → l ≡ Unborn → m ≡ Unborn → cond b l m ≡ Unborn
if_unborn true l m f g = f
if_unborn false l m f g = g

-- after a reply to a call
call_lives : (t u : ℕ) (request : Request) (r : Reply) (l : Life) → IsLiving l → (r ≡ EndedReply → (eqb u t || ends_all request) ≡ true → ⊥) → IsLiving (after_call u t request r l)
call_lives t u request (Now a) l h unended = if_lives (eqb u t) _ l (λ e. answered_lives l a h) (λ e. h)
call_lives t u request EndedReply l h unended = if_lives (eqb u t || ends_all request) _ l (λ e. absurd (unended refl e)) (λ e. h)
call_lives t u request r l h unended = h

call_unborn : (t u : ℕ) (request : Request) (r : Reply) (l : Life) → l ≡ Unborn → after_call u t request r l ≡ Unborn
call_unborn t u request (Now a) l h = if_unborn (eqb u t) _ l (rw h refl) h
call_unborn t u request EndedReply l h = if_unborn (eqb u t || ends_all request) _ l (rw h refl) h
call_unborn t u request r l h = h

either : (b c : Bool) → (b || c) ≡ true → (b ≡ true) ⊎ (c ≡ true)
either true c h = inl refl
either false c h = inr h

-- who has ended isn't up: the caller, or all where the request ends all
not_up : (setup : Setup) (t u : ℕ) (request : Request) (s : State) (o : Outcome) → IsCalled setup t s o → (ends_all request ≡ true → IsUp (place_of o.state.threads u) → ⊥) → IsUp (place_of o.state.threads u) → o.reply ≡ EndedReply → (eqb u t || ends_all request) ≡ true → ⊥
not_up setup t u request s o is all up r h = elim (either (eqb u t) (ends_all request) h) [
  | inl same ↦
      let ended = subst (λ (x : ℕ). place_of o.state.threads x ≡ Ended) (sym (eqb-true u t same)) (is.ends r) in
      subst (λ (pl : Place). IsUp pl) ended up
  | inr every ↦ all every up
]

call_agrees : (setup : Setup) (t : ℕ) (request : Request) (s : State) (o : Outcome) (lives : ℕ → Life) → IsCalled setup t s o → (ends_all request ≡ true → (u : ℕ) → IsUp (place_of o.state.threads u) → ⊥) → Agrees lives s.threads → Agrees (λ u. after_call u t request o.reply (lives u)) o.state.threads
call_agrees setup t request s o lives is all before u =
    record {
      unborn = λ h. call_unborn t u request o.reply (lives u) ((before u).unborn (is.unborn u h));
      living = λ h. call_lives t u request o.reply (lives u) ((before u).living (is.up u h)) (not_up setup t u request s o is (λ e. all e u) h);
    }

abbrev pub EventAgrees : Event → (ℕ → Life) → Outcome → Type 0
EventAgrees event lives o = Agrees (λ u. after_event u event o.reply (lives u)) o.state.threads

called_agrees : (setup : Setup) (b : Bool) (p t : ℕ) (r : Request) (s : State) (lives : ℕ → Life) → runs_there p (by_id s.threads t) ≡ b → IsUpright s → Agrees lives s.threads → EventAgrees (Call t r) lives (called setup p t r s)
called_agrees setup true p t r s lives e upright before =
    call_agrees setup t r s _ lives (running_called setup p t r s upright e) (called_all setup p t r s e) before
called_agrees setup false p t r s lives e upright before = rw (elsewhere_called setup p t r s e) before

io_agrees : (s : State) (o : Outcome) (lives : ℕ → Life) → IsIoServed s o → Agrees lives s.threads → Agrees lives o.state.threads
io_agrees s o lives is before u =
    record { unborn = λ h. (before u).unborn (is.moved.unborn u h); living = λ h. (before u).living (is.moved.up u h) }

-- the others are where they were
other_agrees : (t u : ℕ) (s : State) (x : Thread) (lives : ℕ → Life) → by_id s.threads t ≡ Some x → u ≢ t → Agrees lives s.threads → AgreesIn (by_id (placed t Running s.threads) u) (lives u)
other_agrees t u s x lives at ne before = rw (by_id-changed_other (at_place Running) s.threads t u x at ne) (before u)

placed_up : (threads : List Thread) (t : ℕ) (x : Thread) (l : Life) → by_id threads t ≡ Some x → IsLiving l → AgreesIn (by_id (placed t Running threads) t) l
placed_up threads t x l at h = rw (by_id-changed_same (at_place Running) threads t x at) (record { unborn = λ e. cc; living = λ up. h })

turn_agrees_at : (t : ℕ) (s : State) (thread : Thread) (pl : Place) (lives : ℕ → Life) → by_id s.threads t ≡ Some thread → thread.place ≡ pl → makes_entry (turn_reply t (thread.program, thread.arg, pl)) ≡ true → Agrees lives s.threads → EventAgrees Next lives (Turned t s thread pl)
turn_agrees_at t s thread New lives at is makes before u = elim (cases_eq u t) [
  | inl e ↦ rw (e, same_id) (placed_up s.threads t thread _ at tt)
  | inr ne ↦ rw (other_id u t (λ h. ne (sym h))) (other_agrees t u s thread lives at ne before)
]
turn_agrees_at t s thread (Ready a) lives at is makes before u = elim (cases_eq u t) [
  | inl e ↦
      let up : IsUp (place_of s.threads t) = rw (at, is) tt in
      rw (e, same_id) (placed_up s.threads t thread _ at (answered_lives (lives t) a ((before t).living up)))
  | inr ne ↦ rw (other_id u t (λ h. ne (sym h))) (other_agrees t u s thread lives at ne before)
]
turn_agrees_at t s thread Running lives at is makes before u = absurd (cc makes)
turn_agrees_at t s thread Waiting lives at is makes before u = absurd (cc makes)
turn_agrees_at t s thread Ended lives at is makes before u = absurd (cc makes)

turn_agrees : (t : ℕ) (s : State) (line : List ℕ) (o : Option Thread) (lives : ℕ → Life) → by_id s.threads t ≡ o → makes_entry (turn t (record s { line = line }) (option_map started o)).reply ≡ true → Agrees lives s.threads → EventAgrees Next lives (turn t (record s { line = line }) (option_map started o))
turn_agrees t s line None lives at makes before = cc makes
turn_agrees t s line (Some thread) lives at makes before = turn_agrees_at t (record s { line = line }) thread thread.place lives at refl makes before

if_agrees : (b : Bool) (lives : ℕ → Life) (o p : Outcome) → (makes_entry o.reply ≡ true → EventAgrees Next lives o) → (makes_entry p.reply ≡ true → EventAgrees Next lives p) → makes_entry (cond b o p).reply ≡ true → EventAgrees Next lives (cond b o p)
if_agrees true lives o p f g makes = f makes
if_agrees false lives o p f g makes = g makes

next_of_agrees : (s : State) (o : Option (ℕ × List ℕ)) (lives : ℕ → Life) → Agrees lives s.threads → makes_entry (next_of s o).reply ≡ true → EventAgrees Next lives (next_of s o)
next_of_agrees s None lives before makes = if_agrees (is_stuck s) lives _ _ (λ m. before) (λ m. before) makes
next_of_agrees s (Some found) lives before makes = turn_agrees found.0 s found.1 (by_id s.threads found.0) lives refl makes before

-- a note that is delivered brings nobody up
met_agrees : (p : ℕ) (note : List ℕ) (pending : List (List ℕ)) (o : Option ℕ) (s : State) (lives : ℕ → Life) → Agrees lives s.threads → EventAgrees Next lives (met_by p note o (with_proc (with_pending pending) p s))
met_agrees p note pending (Some id) s lives before u = before u
met_agrees p note pending None s lives before u =
    let is = ended_moved (λ t. is_of p (by_id s.threads t)) s.threads in
    record { unborn = λ h. (before u).unborn (is.unborn u h); living = λ h. (before u).living (is.up u h) }

note_agrees : (p : ℕ) (s : State) (o : Option Delivery) (lives : ℕ → Life) → Agrees lives s.threads → makes_entry (note_first p s o).reply ≡ true → EventAgrees Next lives (note_first p s o)
note_agrees p s None lives before makes = next_of_agrees s (first_ready p s) lives before makes
note_agrees p s (Some d) lives before makes = met_agrees p d.note d.pending d.caught_by s lives before

next_agrees : (setup : Setup) (p : ℕ) (s : State) (lives : ℕ → Life) → Agrees lives s.threads → makes_entry (next_event setup p s).reply ≡ true → EventAgrees Next lives (next_event setup p s)
unfolding next_event
next_agrees setup p s lives before makes =
    if_agrees (not (is_place setup p)) lives _ _ (λ m. before)
    (λ m. if_agrees (is_over p s) lives _ _ (λ m. before)
    (λ m. if_agrees (list_any (runs_in p) s.threads) lives _ _ (λ m. before)
    (λ m. note_agrees p s (next_note p s) lives before m) m) m) makes

outcome_agrees : (setup : Setup) (seat : Seat) (event : Event) (s : State) (lives : ℕ → Life) → IsUpright s → Agrees lives s.threads → makes_entry (outcome setup seat event s).reply ≡ true → EventAgrees event lives (outcome setup seat event s)
unfolding outcome
outcome_agrees setup (Proc p) (Call t r) s lives upright before makes = called_agrees setup _ p t r s lives refl upright before
outcome_agrees setup (Proc p) Next s lives upright before makes = next_agrees setup p s lives before makes
outcome_agrees setup (Proc p) IoTake s lives upright before makes = cc makes
outcome_agrees setup (Proc p) (IoDid effect) s lives upright before makes = cc makes
outcome_agrees setup (IoSeat k) IoTake s lives upright before makes = io_agrees s _ lives (io_served k s None upright) before
outcome_agrees setup (IoSeat k) (IoDid effect) s lives upright before makes = io_agrees s _ lives (io_served k s (Some effect) upright) before
outcome_agrees setup (IoSeat k) (Call t r) s lives upright before makes = cc makes
outcome_agrees setup (IoSeat k) Next s lives upright before makes = cc makes

counted_agrees : (event : Event) (lives : ℕ → Life) (s : State) (o : Outcome) → makes_entry o.reply ≡ true → EventAgrees event lives o → EventAgrees event lives (counted s o)
counted_agrees event lives s o makes h = rw makes h

step_agrees : (setup : Setup) (seat : Seat) (event : Event) (s : State) (lives : ℕ → Life) → IsUpright s → Agrees lives s.threads → makes_entry (step setup seat event s).reply ≡ true → EventAgrees event lives (step setup seat event s)
unfolding step
step_agrees setup seat event s lives upright before makes =
    counted_agrees event lives s (outcome setup seat event s) makes (outcome_agrees setup seat event s lives upright before makes)

-- what holds after each legal history
pub record IsKept (setup : Setup) (s : State) (lives : ℕ → Life) : Type 0 where
  pub upright : IsUpright s
  pub agrees : Agrees lives s.threads
  pub members : IsValid setup → AreMembers setup s

entry_agrees : (setup : Setup) (e : Entry) (r : Reply) (s : State) (lives : ℕ → Life) → e.reply ≡ r → Agrees (λ u. after_event u e.event r (lives u)) (after_entry setup s e).threads → Agrees (λ u. life_after u (lives u) e) (after_entry setup s e).threads
entry_agrees setup e r s lives is agrees = rw is agrees

entry_kept : (setup : Setup) (s : State) (e : Entry) (lives : ℕ → Life) → e.reply ≡ (step setup e.seat e.event s).reply → makes_entry e.reply ≡ true → IsKept setup s lives → IsKept setup (after_entry setup s e) (λ u. life_after u (lives u) e)
entry_kept setup s e lives is makes kept =
    let now = rw is at makes in
    let stepped = step_stepped setup e.seat e.event s kept.upright now in
    record {
      upright = stepped.upright;
      agrees = entry_agrees setup e _ s lives is (step_agrees setup e.seat e.event s lives kept.upright kept.agrees now);
      members = λ valid. members_on setup s _ stepped (kept.members valid);
    }

fold_kept : (setup : Setup) (H : List Entry) (s : State) (lives : ℕ → Life) → IsLegalFrom setup s H → IsKept setup s lives → IsKept setup (fold (after_entry setup) s H) (λ u. fold (life_after u) (lives u) H)
fold_kept setup [] s lives legal kept = kept
fold_kept setup (e ∷ H) s lives legal kept =
    fold_kept setup H (after_entry setup s e) (λ u. life_after u (lives u) e) legal.2 (entry_kept setup s e lives legal.0 legal.1 kept)

new_place : (xs : List ThreadSetup) (i : ℕ) → (AgreesIn (slice_get (map new_thread xs) i) Unborn) × (0 ≡ times_waiting (place_in (slice_get (map new_thread xs) i)))
new_place [] i = (record { unborn = λ h. refl; living = λ h. absurd h }, refl)
new_place (x ∷ xs) zero = (record { unborn = λ h. refl; living = λ h. absurd h }, refl)
new_place (x ∷ xs) (suc i) = new_place xs i

begin_place : (xs : List ThreadSetup) (t : ℕ) → (AgreesIn (by_id (map new_thread xs) t) Unborn) × (0 ≡ times_waiting (place_of (map new_thread xs) t))
begin_place xs zero = (record { unborn = λ h. refl; living = λ h. absurd h }, refl)
begin_place xs (suc i) = rw by_id-suc (new_place xs i)

unmade_none : (q : Ioproc → Bool) → q Unmade ≡ false → (n : ℕ) → tally q (replicate n Unmade) ≡ 0
unmade_none q h zero = refl
unmade_none q h (suc n) = rw (h, unmade_none q h n) refl

ids_below : (n u : ℕ) → (xs : List ThreadSetup) → u < n → tally (λ x. eqb x u) (ids_from n xs) ≡ 0
ids_below n u [] lt = refl
ids_below n u (x ∷ xs) lt =
    let ne : eqb n u ≡ false = search (rules, tests) in
    let rest = ids_below (n + 1) u xs (omega arith) in
    rw (ne, rest) refl

ids_at : (n i j : ℕ) → (xs : List ThreadSetup) → j ≡ n + i → tally (λ x. eqb x j) (ids_from n xs) ≡ times_in_line (place_in (slice_get (map new_thread xs) i))
ids_at n i j [] e = refl
ids_at n zero j (x ∷ xs) e =
    let here : n ≡ j = omega arith in
    let b : eqb n j ≡ true = search (rules, tests) in
    let rest = ids_below (n + 1) j xs (omega arith) in
    rw (b, rest) refl
ids_at n (suc i) j (x ∷ xs) e =
    let above : n < j = omega arith in
    let b : eqb n j ≡ false = search (rules, tests) in
    rw (b, zero-add) (ids_at (n + 1) i j xs (omega arith))

-- the line at first
begin_line : (xs : List ThreadSetup) (t : ℕ) → tally (λ x. eqb x t) (ids_from 1 xs) ≡ times_in_line (place_of (map new_thread xs) t)
begin_line xs zero = ids_below 1 zero xs (omega arith)
begin_line xs (suc i) = rw by_id-suc (ids_at 1 i (suc i) xs (omega arith))

begin_kept : (setup : Setup) → IsKept setup (begin_state setup) (λ u. Unborn)
begin_kept setup =
    record {
      upright = record {
        in_line = begin_line setup.threads;
        in_waits = λ u. (begin_place setup.threads u).1;
        in_calls = λ u. sym (unmade_none (is_call_of u) refl setup.files);
        short = unmade_none is_long refl setup.files;
      };
      agrees = λ u. (begin_place setup.threads u).0;
      members = begin_members setup;
    }

pub kept_after : (setup : Setup) (H : List Entry) → IsLegal setup H → IsKept setup (state_after setup H) (λ u. life u H)
unfolding state_after life
kept_after setup H legal = fold_kept setup H (begin_state setup) (λ u. Unborn) legal (begin_kept setup)

-- the state after one more entry
pub state_grown : (setup : Setup) (H : List Entry) (e : Entry) → state_after setup (H ++ e ∷ []) ≡ (step setup e.seat e.event (state_after setup H)).state
unfolding state_after
state_grown setup H e = fold-append (after_entry setup) (begin_state setup) H (e ∷ [])

-- the life after one more entry
pub life_grown : (t : ℕ) (H : List Entry) (e : Entry) → life t (H ++ e ∷ []) ≡ life_after t (life t H) e
unfolding life
life_grown t H e = fold-append (life_after t) Unborn H (e ∷ [])

runs_fold : (asks : Asks) (lives : ℕ → Life) (H : List Entry) (e : Entry) → RunsFrom asks lives H → IsAsked asks (λ t. fold (life_after t) (lives t) H) e.event → RunsFrom asks lives (H ++ e ∷ [])
runs_fold asks lives [] e runs asked = (asked, tt)
runs_fold asks lives (x ∷ H) e runs asked = (runs.0, runs_fold asks (λ t. life_after t (lives t) x) H e runs.1 asked)

-- the programs run with one more entry
pub programs_grown : (asks : Asks) (H : List Entry) (e : Entry) → RunsPrograms asks H → IsAsked asks (λ t. life t H) e.event → RunsPrograms asks (H ++ e ∷ [])
unfolding RunsPrograms life
programs_grown asks H e runs asked = runs_fold asks (λ t. Unborn) H e runs asked

-- the state after an event that makes an entry
pub state_with : (setup : Setup) (H : List Entry) (seat : Seat) (event : Event) (r : Reply) → makes_entry r ≡ true → state_after setup (with_entry H seat event r) ≡ (step setup seat event (state_after setup H)).state
state_with setup H seat event r makes = rw makes (state_grown setup H (record { seat = seat; event = event; reply = r }))

legal_fold : (setup : Setup) (H : List Entry) (s : State) (e : Entry) → IsLegalFrom setup s H → e.reply ≡ (step setup e.seat e.event (fold (after_entry setup) s H)).reply → makes_entry e.reply ≡ true → IsLegalFrom setup s (H ++ e ∷ [])
legal_fold setup [] s e legal is makes = (is, makes, tt)
legal_fold setup (x ∷ H) s e legal is makes = (legal.0, legal.1, legal_fold setup H (after_entry setup s x) e legal.2 is makes)

pub legal_grown : (setup : Setup) (H : List Entry) (e : Entry) → IsLegal setup H → e.reply ≡ (step setup e.seat e.event (state_after setup H)).reply → makes_entry e.reply ≡ true → IsLegal setup (H ++ e ∷ [])
unfolding state_after
legal_grown setup H e legal is makes = legal_fold setup H (begin_state setup) e legal is makes
