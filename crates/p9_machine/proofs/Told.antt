-- The message of the reply to a turn, and to an ioproc that asks for its call, is the one that was copied before.
use Rattle.std.proofs.Common.{ℕ, ◌≡◌, Bool, true, false, not, cond, ◌||◌, List, [], ◌∷◌, length, Option, Some, None, refl, sym, subst, rules, tests, ◌≤◌}
use Rattle.std.specs.Prelude.{option_map, slice_get}
use Rattle.std.specs.List.{list_any, filter}
use Rattle.p9_word.specs.declared.answer.Answer.{Answer}
use Rattle.p9_word.specs.declared.setup.Setup.{Setup}
use Rattle.p9_manual.specs.declared.state.Place.{Place}
use Rattle.p9_manual.specs.declared.state.Place.TheVariants.{Running, New, Ready, Waiting, Ended}
use Rattle.p9_manual.specs.declared.state.Thread.{Thread}
use Rattle.p9_manual.specs.declared.state.Ioproc.{Ioproc}
use Rattle.p9_manual.specs.declared.state.Ioproc.TheVariants as stand
use Rattle.p9_manual.specs.State.{State, Outcome, by_id, pick, same}
use Rattle.p9_word.specs.declared.trail.Reply.{Reply}
use Rattle.p9_word.specs.declared.trail.Reply.TheVariants.{Stray, Over}
use Rattle.p9_manual.specs.Places.{runs_in, lives, is_of}
use Rattle.p9_manual.specs.Ioprocs.{take_call, io_event}
use Rattle.p9_manual.specs.Stuck.{is_stuck}
use Rattle.p9_manual.specs.NoteCalls.{met_by, next_note}
use Rattle.p9_manual.specs.Notes.{Delivery, delivery}
use Rattle.p9_manual.specs.Next.{first_ready, next_event, next_of, note_first, turn, turn_reply, started, is_place, is_over}
use Rattle.p9_note.specs.ProcNotes.{notes_of}
use Rattle.p9_sched.specs.Messages.{IsOfReply, IsOfAnswer}
use Rattle.p9_sched.specs.Holding.{is_held}
use Rattle.p9_sched.specs.Schedule.{Schedule, line_of}
use Rattle.p9_sched.specs.Turns.{first_answer, answer_of, answer_at, answer_next}
use Rattle.p9_machine.specs.declared.board.Board.{Board}
use Rattle.p9_machine.specs.Board.{Stands}
use Rattle.p9_machine.proofs.Noting.{note_as}
use Rattle.p9_machine.proofs.Picked.{first_of, none_picked}
use Rattle.p9_machine.specs.Copies.{IsOfNext, IsOfPosted, IsOfTurn, oldest_note}

abbrev IsOf : Outcome → List ℕ → Type 0
IsOf o m = IsOfReply o.reply m

of_if : (m : List ℕ) (b : Bool) (o p : Outcome) → IsOf o m → IsOf p m → IsOf (cond b o p) m
of_if m true o p f g = f
of_if m false o p f g = g

-- m is the message of the answer that a thread at this place goes on with, if it has one
abbrev IsOfPlace : Place → List ℕ → Type 0
IsOfPlace (Ready a) m = IsOfAnswer a m
IsOfPlace Running m = Unit {0}
IsOfPlace New m = Unit {0}
IsOfPlace Waiting m = Unit {0}
IsOfPlace Ended m = Unit {0}

abbrev IsOfThread : Option Thread → List ℕ → Type 0
IsOfThread None m = Unit {0}
IsOfThread (Some thread) m = IsOfPlace thread.place m

-- m is the message of the answer of the thread that is picked to run, if it has one
abbrev IsOfPicked : Option (ℕ × List ℕ) → List Thread → List ℕ → Type 0
IsOfPicked None threads m = Unit {0}
IsOfPicked (Some found) threads m = IsOfThread (by_id threads found.0) m

of_place : (m : List ℕ) (t program arg : ℕ) (pl : Place) → IsOfPlace pl m → IsOfReply (turn_reply t (program, arg, pl)) m
of_place m t program arg New h = tt
of_place m t program arg (Ready a) h = h
of_place m t program arg Running h = tt
of_place m t program arg Waiting h = tt
of_place m t program arg Ended h = tt

of_thread_at : (m : List ℕ) (t : ℕ) (s : State) (o : Option Thread) → IsOfThread o m → IsOf (turn t s (option_map started o)) m
of_thread_at m t s None h = tt
of_thread_at m t s (Some thread) h = of_place m t thread.program thread.arg thread.place h

of_next_of : (m : List ℕ) (s : State) (o : Option (ℕ × List ℕ)) → IsOfPicked o s.threads m → IsOf (next_of s o) m
of_next_of m s None h = of_if m (is_stuck s) _ _ tt tt
of_next_of m s (Some found) h = of_thread_at m found.0 (record s { line = found.1 }) (by_id s.threads found.0) h

of_met : (m : List ℕ) (p : ℕ) (note : List ℕ) (s : State) (o : Option ℕ) → m ≡ note → IsOf (met_by p note o s) m
of_met m p note s (Some id) h = tt
of_met m p note s None h = h

-- m is the note that is delivered, or else the message of the answer of the thread that is picked to run
abbrev IsOfFirst : Option Delivery → Option (ℕ × List ℕ) → List Thread → List ℕ → Type 0
IsOfFirst (Some d) found threads m = m ≡ d.note
IsOfFirst None found threads m = IsOfPicked found threads m

of_note_first : (m : List ℕ) (p : ℕ) (s : State) (o : Option Delivery) → IsOfFirst o (first_ready p s) s.threads m → IsOf (note_first p s o) m
of_note_first m p s (Some d) h = of_met m p d.note _ d.caught_by h
of_note_first m p s None h = of_next_of m s (first_ready p s) h

of_next_at : (b : Bool) (m : List ℕ) (S : Setup) (p : ℕ) (s : State) → is_place S p ≡ b → (is_place S p ≡ true → IsOfFirst (next_note p s) (first_ready p s) s.threads m) → IsOf (cond (not b) (same Stray s) (cond (is_over p s) (same Over s) (cond (list_any (runs_in p) s.threads) (same Stray s) (note_first p s (next_note p s))))) m
of_next_at false m S p s e h = tt
of_next_at true m S p s e h =
    of_if m (is_over p s) _ _ tt (of_if m (list_any (runs_in p) s.threads) _ _ tt (of_note_first m p s (next_note p s) (h e)))

of_next : (m : List ℕ) (S : Setup) (p : ℕ) (s : State) → (is_place S p ≡ true → IsOfFirst (next_note p s) (first_ready p s) s.threads m) → IsOf (next_event S p s) m
unfolding next_event
of_next m S p s h = of_next_at (is_place S p) m S p s refl h

of_take : (m : List ℕ) (k : ℕ) (s : State) (o : Option Ioproc) → IsOfPosted o m → IsOf (take_call k s o) m
of_take m k s None h = tt
of_take m k s (Some stand.Closed) h = tt
of_take m k s (Some (stand.Begun t call)) h = of_if m (s.over || not (list_any lives s.threads)) _ _ tt tt
of_take m k s (Some (stand.Posted t call)) h = of_if m (s.over || not (list_any lives s.threads)) _ _ tt h
of_take m k s (Some stand.Unmade) h = of_if m (s.over || not (list_any lives s.threads)) _ _ tt tt
of_take m k s (Some stand.Idle) h = of_if m (s.over || not (list_any lives s.threads)) _ _ tt tt

at_place_told : (pl : Place) (m : List ℕ) → IsOfNext (answer_at pl) m → IsOfPlace pl m
at_place_told Running m h = tt
at_place_told New m h = tt
at_place_told (Ready a) m h = h
at_place_told Waiting m h = tt
at_place_told Ended m h = tt

at_thread : (o : Option Thread) (m : List ℕ) → IsOfNext (answer_of o) m → IsOfThread o m
at_thread None m h = tt
at_thread (Some thread) m h = at_place_told thread.place m h

next_picked : (p : ℕ) (sched : Schedule) (line part : List ℕ) (m : List ℕ) → filter (λ t. is_of p (by_id sched.threads t)) line ≡ part → IsOfNext (first_answer sched part) m → IsOfPicked (pick (λ t. is_of p (by_id sched.threads t)) line) sched.threads m
next_picked p sched line [] m e h = rw (none_picked _ line e) tt
next_picked p sched line (t ∷ part) m e h =
    let f = first_of (λ u. is_of p (by_id sched.threads u)) t part line e in
    rw f.picked (at_thread (by_id sched.threads t) m h)

place_from : (S : Setup) (p : ℕ) → is_place S p ≡ true → 1 ≤ p
place_from S p h = search (rules, tests)

place_to : (S : Setup) (p : ℕ) → is_place S p ≡ true → p ≤ S.places
place_to S p h = search (rules, tests)

first_told : (b : Bool) (m : List ℕ) (threads : List Thread) (a : Option Answer) (o : Option (ℕ × List ℕ)) → (IsOfNext a m → IsOfPicked o threads m) → IsOfNext (cond b None a) m → IsOfPicked (cond b None o) threads m
first_told true m threads a o f h = tt
first_told false m threads a o f h = f h

next_told : (board : Board) (s : State) (p : ℕ) (m : List ℕ) → is_place board.setup p ≡ true → Stands board s → IsOfNext (answer_next p board.sched) m → IsOfPicked (first_ready p s) s.threads m
next_told board s p m at st h =
    let to : p ≤ length board.sched.lines = rw st.sched.count (place_to board.setup p at) in
    let part = st.sched.lines.part p (place_from board.setup p at) to in
    let held = st.sched.held.held p (place_from board.setup p at) to in
    let picked : IsOfNext (first_answer board.sched (line_of p board.sched)) m → IsOfPicked (pick (λ t. is_of p (by_id s.threads t)) s.line) s.threads m = λ x. subst (λ (ts : List Thread). IsOfPicked (pick (λ t. is_of p (by_id ts t)) s.line) ts m) (sym st.sched.threads) (next_picked p board.sched s.line (line_of p board.sched) m (sym part) x) in
    subst (λ (b : Bool). IsOfPicked (cond b None (pick (λ t. is_of p (by_id s.threads t)) s.line)) s.threads m) held
    (first_told (is_held p board.sched) m s.threads (first_answer board.sched (line_of p board.sched)) (pick (λ t. is_of p (by_id s.threads t)) s.line) picked h)

first_by : (handlers : List (ℕ × List ℕ)) (pending : List (List ℕ)) (a : Option Answer) (found : Option (ℕ × List ℕ)) (threads : List Thread) (m : List ℕ) → (IsOfNext a m → IsOfPicked found threads m) → IsOfTurn (slice_get pending 0) a m → IsOfFirst (delivery handlers pending) found threads m
first_by handlers [] a found threads m f h = f h
first_by handlers (note ∷ later) a found threads m f h = h

first_is_told : (board : Board) (s : State) (p : ℕ) (m : List ℕ) → is_place board.setup p ≡ true → Stands board s → IsOfTurn (oldest_note p board.notes) (answer_next p board.sched) m → IsOfFirst (next_note p s) (first_ready p s) s.threads m
first_is_told board s p m at st h =
    let x = notes_of p board.notes in
    subst (λ (o : Option Delivery). IsOfFirst o (first_ready p s) s.threads m) (sym (note_as board.setup.places board.notes p s st.notes))
    (first_by x.handlers x.pending (answer_next p board.sched) (first_ready p s) s.threads m (λ i. next_told board s p m at st i) h)

-- the message that was copied for a turn is that of its reply
pub told_next : (board : Board) (s : State) (p : ℕ) (r : Reply) (m : List ℕ) → Stands board s → r ≡ (next_event board.setup p s).reply → IsOfTurn (oldest_note p board.notes) (answer_next p board.sched) m → IsOfReply r m
told_next board s p r m st e h = rw e (of_next m board.setup p s (λ at. first_is_told board s p m at st h))

-- and that for a call which an ioproc takes
pub told_take : (board : Board) (s : State) (k : ℕ) (r : Reply) (m : List ℕ) → Stands board s → r ≡ (io_event k s None).reply → IsOfPosted (by_id board.io.ioprocs k) m → IsOfReply r m
unfolding io_event
told_take board s k r m st e h = rw e (of_take m k s (by_id s.ioprocs k) (rw st.io.ioprocs h))
