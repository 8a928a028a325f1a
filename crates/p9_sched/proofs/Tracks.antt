-- What each call makes of the states that a schedule stands for.
use Rattle.std.proofs.Common.{◌≡◌, ◌≢◌, ℕ, ◌+◌, ◌-◌, ◌<◌, ◌≤◌, Bool, true, false, not, cond, List, [], ◌∷◌, ◌++◌, length, map, Option, Some, None, Result, Ok, Err, OnOk, OnErr, refl, ap, sym, subst, ◌∙◌, arith, rules, tests}
use Rattle.std.specs.Prelude.{◌==◌, if◌then◌else◌, option_map}
use Rattle.std.specs.List.{filter, list_any}
use Rattle.std.proofs.lemmas.List.{length-map}
use Rattle.p9_word.specs.declared.answer.Answer.{Answer}
use Rattle.p9_word.specs.declared.request.Request.{Request}
use Rattle.p9_word.specs.declared.trail.Reply.TheVariants.{Idle}
use Rattle.p9_manual.specs.declared.state.Place.TheVariants.{Running, Ready, Waiting, Ended}
use Rattle.p9_manual.specs.declared.state.Thread.{Thread}
use Rattle.p9_manual.specs.declared.state.Waiter.{Waiter}
use Rattle.p9_manual.specs.Create.{fresh, with_thread}
use Rattle.p9_manual.specs.Ends.{at_end, ended_if, ended as state_ended, proc_ended as state_proc_ended, all_ended as state_all_ended}
use Rattle.p9_manual.specs.Held.{holds_in, is_held as state_is_held}
use Rattle.p9_manual.specs.Interrupt.{doomed, marked, with_mark}
use Rattle.p9_manual.specs.LockWaits.{lined, lock_waiters}
use Rattle.p9_manual.specs.Next.{stuck, started, turn, first_ready, next_of}
use Rattle.p9_manual.specs.Places.{is_of}
use Rattle.p9_manual.specs.Standing.{StandOnce, place_in, times, times_in_waits}
use Rattle.p9_manual.specs.State.{State, Proc, by_id, pick, at_place, placed, changed, each_from, same, waits_without, wake, readied as state_readied, waiting as state_waiting}
use Rattle.p9_manual.specs.Stuck.{is_stuck}
use Rattle.p9_manual.specs.Threads.{with_changed, with_proc_word as with_word_in, set_proc_word}
use Rattle.p9_sched.specs.Holding.{held_in, is_held, with_held, readied_first}
use Rattle.p9_sched.specs.Rooms.{Rooms, all_rooms}
use Rattle.p9_sched.specs.Schedule.{Schedule, IsPlace, proc_of, line_of, emptied, with_new, with_proc, with_proc_word, readied, waiting, ended, ended_in, proc_ended, all_ended, begun}
use Rattle.p9_sched.specs.Marks.{with_mark_of}
use Rattle.p9_sched.specs.Stands.{AreLines, IsHolder, IsWaitBeside, IsWaitHolding, SchedFor, Tracks, TracksBeside, TracksHolder, TracksStanding, after_next, with_proc_in}
use Rattle.p9_sched.specs.Turns.{place_of, turn_of, next_in}
use Rattle.p9_sched.specs.declared.turns.Place.TheVariants as place
use Rattle.p9_sched.specs.declared.turns.Ready.{Ready as Turn}
use Rattle.p9_sched.proofs.Asks.{alive, off_waits}
use Rattle.p9_sched.proofs.Ended.{one_ended, made_one, words_quiet, proc_threads, is_of_ended, parts_proc_ended, all_threads, none_stays}
use Rattle.p9_sched.proofs.Held.{held_still, held_alike, held_changed, held_but, held_beside, held_more, held_other, held_freed, held_unheld, held_out, held_apart, waits_beside, waits_still, is_freed, is_taken, all_freed, or_false, or_true}
use Rattle.p9_sched.proofs.Lines.{KeepsProc, CasesEq, Same, Other, cases_eq, eq_same, eq_other, place_keeps, is_of_proc, parts_front, parts_changed, parts_ready, parts_wait, parts_ended, parts_all_ended, parts_made, parts_begun, first_of, none_picked}
use Rattle.p9_sched.proofs.Lists.{id_at, by_id-past, by_id-push_other, by_id-changed_other, changed_alike, length-changed, map-changed}

-- only the rooms change
pub tracks_rooms : (rooms : Rooms) (old new : Schedule) → new ≡ record old { rooms = rooms } → Tracks (λ s. s) old new
tracks_rooms rooms old new e = λ places s h.
    rw e (record { threads = h.threads; lines = record { part = h.lines.part }; words = h.words; opened = h.opened; count = h.count; held = record { held = h.held.held } })

pub tracks_reserved : {T E : Type 0} (r : Result T E) (old new : Schedule) → OnOk r (new ≡ record old { rooms = all_rooms }) → OnErr r (new ≡ old) → Tracks (λ s. s) old new
tracks_reserved (Ok x) old new ok err = tracks_rooms all_rooms old new ok
tracks_reserved (Err x) old new ok err = tracks_rooms old.rooms old new err

pub tracks_readied : (t : ℕ) (a : Answer) (old new : Schedule) → new ≡ readied t a old → IsPlace (proc_of (by_id old.threads t)) old → Tracks (state_readied t a) old new
tracks_readied t a old new e place = λ places s h.
    rw e (record {
      threads = ap (placed t (Ready a)) h.threads;
      lines = parts_ready t a old (readied t a old) s.line refl place h.lines;
      words = h.words;
      opened = h.opened;
      count = length-changed _ old.lines _ ∙ h.count;
      held = held_still old _ s _ refl (length-changed _ old.lines _) (λ p. held_changed (at_place (Ready a)) (place_keeps (Ready a)) (t - 1) s.threads p (lock_waiters s.waits)) h.held;
    })

-- a thread that goes on and held no proc
pub tracks_beside : (t : ℕ) (a : Answer) (old new : Schedule) → new ≡ readied t a old → IsPlace (proc_of (by_id old.threads t)) old → TracksBeside t (wake t a) old new
tracks_beside t a old new e place = λ places s beside h.
    rw e (record {
      threads = ap (placed t (Ready a)) h.threads;
      lines = subst (λ b. AreLines (readied t a old) (lined b t s.line)) (sym beside) (parts_ready t a old (readied t a old) s.line refl place h.lines);
      words = h.words;
      opened = h.opened;
      count = length-changed _ old.lines _ ∙ h.count;
      held = held_still old _ s _ refl (length-changed _ old.lines _) (λ p. held_changed (at_place (Ready a)) (place_keeps (Ready a)) (t - 1) s.threads p (lock_waiters (waits_without t s.waits)) ∙ held_unheld p t s.threads s.waits beside) h.held;
    })

-- the wait of thread t in a request
abbrev wait_of : ℕ → Request → State → Waiter
wait_of t request s = record { tid = t; request = request; at = s.position }

pub tracks_waiting : (t : ℕ) (request : Request) → IsWaitBeside request → (old new : Schedule) → new ≡ waiting t old → Tracks (λ s. (state_waiting t request s).state) old new
tracks_waiting t request beside old new e = λ places s h.
    rw e (record {
      threads = ap (placed t Waiting) h.threads;
      lines = parts_wait t old (waiting t old) s.line refl h.lines;
      words = h.words;
      opened = h.opened;
      count = h.count;
      held = held_still old _ s _ refl refl (λ p. held_changed (at_place Waiting) (place_keeps Waiting) (t - 1) s.threads p (lock_waiters (s.waits ++ wait_of t request s ∷ [])) ∙ held_beside p (wait_of t request s) s.threads s.waits (beside t s.position)) h.held;
    })

-- the procs that are held, once proc q is
taken_by : (p q t : ℕ) (request : Request) (old : Schedule) (s : State) → IsWaitHolding request → 1 ≤ q → q ≤ length old.holds → is_of p (by_id s.threads t) ≡ (q == p) → is_held p old ≡ state_is_held p s → CasesEq p q → is_held p (with_held q true old) ≡ list_any (holds_in s.threads p) (lock_waiters (s.waits ++ wait_of t request s ∷ []))
taken_by p q t request old s holding one most mine was (Same e) =
    let more = held_more p (wait_of t request s) s.threads s.waits (holding t s.position) in
    let is : is_of p (by_id s.threads t) ≡ true = mine ∙ rw e (eq_same q) in
    rw e (is_taken old.holds q one most) ∙ sym (more ∙ or_true (list_any (holds_in s.threads p) (lock_waiters s.waits)) (is_of p (by_id s.threads t)) is)
taken_by p q t request old s holding one most mine was (Other ne) =
    let more = held_more p (wait_of t request s) s.threads s.waits (holding t s.position) in
    let off = mine ∙ eq_other q p (λ h. ne (sym h)) in
    ap held_in (by_id-changed_other (λ _. true) old.holds q p one ne) ∙ (was ∙ sym (more ∙ or_false (list_any (holds_in s.threads p) (lock_waiters s.waits)) (is_of p (by_id s.threads t)) off))

pub tracks_holding : (t : ℕ) (request : Request) → IsWaitHolding request → (old new : Schedule) → new ≡ with_held (proc_of (by_id old.threads t)) true (waiting t old) → IsPlace (proc_of (by_id old.threads t)) old → length old.holds ≡ length old.lines → Tracks (λ s. (state_waiting t request s).state) old new
tracks_holding t request holding old new e place long = λ places s h.
    let q = proc_of (by_id old.threads t) in
    let one = place.from in
    let to = place.to in
    rw e (record {
      threads = ap (placed t Waiting) h.threads;
      lines = record { part = (parts_wait t old (waiting t old) s.line refl h.lines).part };
      words = h.words;
      opened = h.opened;
      count = h.count;
      held = record {
        held = λ p a b.
            let mine = ap (λ (xs : List Thread). is_of p (by_id xs t)) h.threads ∙ is_of_proc p (by_id old.threads t) one in
            taken_by p q t request old s holding one (omega arith) mine (h.held.held p a b) (cases_eq p q) ∙ sym (held_changed (at_place Waiting) (place_keeps Waiting) (t - 1) s.threads p (lock_waiters (s.waits ++ wait_of t request s ∷ [])));
      };
    })

-- the procs that are held, once thread t released proc q
freed_by : (p q t : ℕ) (old : Schedule) (s : State) → IsHolder t s → 1 ≤ q → is_of p (by_id s.threads t) ≡ (q == p) → is_held p old ≡ state_is_held p s → CasesEq p q → is_held p (with_held q false old) ≡ list_any (holds_in s.threads p) (lock_waiters (waits_without t s.waits))
freed_by p q t old s holder one mine was (Same e) =
    let alone = holder.alone p in
    let is : is_of p (by_id s.threads t) ≡ true = mine ∙ rw e (eq_same q) in
    rw e (is_freed old.holds q one) ∙ sym (held_freed p t s.threads s.waits is holder.holds (omega arith))
freed_by p q t old s holder one mine was (Other ne) =
    let off = mine ∙ eq_other q p (λ h. ne (sym h)) in
    ap held_in (by_id-changed_other (λ _. false) old.holds q p one ne) ∙ (was ∙ sym (held_other p t s.threads off s.waits))

pub tracks_holder : (t : ℕ) (a : Answer) (old new : Schedule) → new ≡ with_held (proc_of (by_id old.threads t)) false (readied_first t a old) → IsPlace (proc_of (by_id old.threads t)) old → TracksHolder t (wake t a) old new
tracks_holder t a old new e place = λ places s stand holder h.
    let q = proc_of (by_id old.threads t) in
    let one = place.from in
    let n = with_held q false (readied_first t a old) in
    rw e (record {
      threads = ap (placed t (Ready a)) h.threads;
      lines = subst (λ b. AreLines n (lined b t s.line)) (sym holder.holds) (parts_front t a old n s.line refl refl one h.lines);
      words = h.words;
      opened = h.opened;
      count = length-changed _ old.lines _ ∙ h.count;
      held = record {
        held = λ p a1 b1.
            let b : p ≤ length old.lines = rw length-changed at b1 in
            let mine = ap (λ (xs : List Thread). is_of p (by_id xs t)) h.threads ∙ is_of_proc p (by_id old.threads t) one in
            freed_by p q t old s holder one mine (h.held.held p a1 b) (cases_eq p q) ∙ sym (held_changed (at_place (Ready a)) (place_keeps (Ready a)) (t - 1) s.threads p (lock_waiters (waits_without t s.waits)));
      };
    })

ended_by : (o : Option Thread) (t : ℕ) (old : Schedule) (line : List ℕ) → by_id old.threads t ≡ o → IsPlace (proc_of o) old → AreLines old line → AreLines (ended t old) (filter (λ u. not (u == t)) line)
ended_by None t old line e place h = let from = place.from in absurd (omega arith)
ended_by (Some thread) t old line e place h = parts_ended t old thread line e place.from h

runs_off : (o : Option Thread) → place_of o ≡ place.Running → times_in_waits (place_in o) ≡ 0
runs_off None e = cc
runs_off (Some thread) e = off_waits thread.place e

-- a thread that runs doesn't wait, so its end frees no proc
ended_held : (p t : ℕ) (old : Schedule) (s : State) → 1 ≤ t → place_of (by_id old.threads t) ≡ place.Running → s.threads ≡ old.threads → StandOnce s.threads s.line s.waits → state_is_held p (state_ended t s) ≡ state_is_held p s
ended_held p t old s one runs e stand =
    let none : times (λ w. w.tid == t) s.waits ≡ 0 = stand.in_waits t ∙ (ap (λ (xs : List Thread). times_in_waits (place_in (by_id xs t))) e ∙ runs_off (by_id old.threads t) runs) in
    ap (λ (xs : List Thread). list_any (holds_in xs p) (lock_waiters (waits_without t s.waits))) (one_ended t s.threads one) ∙ (held_changed (at_place Ended) (place_keeps Ended) (t - 1) s.threads p (lock_waiters (waits_without t s.waits)) ∙ ap (λ ws. list_any (holds_in s.threads p) (lock_waiters ws)) (waits_still t s.waits none))

pub tracks_ended : (t : ℕ) (old new : Schedule) → new ≡ ended t old → IsPlace (proc_of (by_id old.threads t)) old → place_of (by_id old.threads t) ≡ place.Running → TracksStanding (state_ended t) old new
tracks_ended t old new e place runs = λ places s stand h.
    let one = made_one old.threads t (by_id old.threads t) refl place.from in
    rw e (record {
      threads = one_ended t s.threads one ∙ ap (placed t Ended) h.threads;
      lines = ended_by (by_id old.threads t) t old s.line refl place h.lines;
      words = words_quiet s.threads (each_from (ended_if (λ u. u == t)) 1 s.threads) 1 s.procs ∙ h.words;
      opened = h.opened;
      count = length-changed _ old.lines _ ∙ h.count;
      held = held_still old _ s _ refl (length-changed _ old.lines _) (λ p. ended_held p t old s one runs h.threads stand) h.held;
    })

-- which procs are held, once all threads of proc p have ended
ended_holds : (p q : ℕ) (old : Schedule) (s : State) → 1 ≤ p → is_held q old ≡ state_is_held q s → CasesEq q p → is_held q (proc_ended p old) ≡ list_any (holds_in s.threads q) (lock_waiters (waits_beside p s.threads s.waits))
ended_holds p q old s one was (Same e) = rw e (is_freed old.holds p one ∙ sym (held_out p s.threads s.waits))
ended_holds p q old s one was (Other ne) =
    ap held_in (by_id-changed_other (λ _. false) old.holds p q one ne) ∙ (was ∙ sym (held_apart p q s.threads ne s.waits))

pub tracks_proc_ended : (p : ℕ) → 1 ≤ p → (old new : Schedule) → new ≡ proc_ended p old → TracksStanding (state_proc_ended p) old new
tracks_proc_ended p one old new e = λ places s stand h.
    let all = proc_threads p s.threads in
    rw e (record {
      threads = all ∙ ap (map (ended_in p)) h.threads;
      lines = parts_proc_ended p old s.threads s.line one h.threads h.lines;
      words = words_quiet s.threads (each_from (ended_if (λ t. is_of p (by_id s.threads t))) 1 s.threads) 1 s.procs ∙ h.words;
      opened = h.opened;
      count = length-changed _ old.lines (p - 1) ∙ h.count;
      held = record {
        held = λ q a b1.
            let b : q ≤ length old.lines = rw length-changed at b1 in
            let alike = held_alike s.threads (map (ended_in p) s.threads) q (λ u. is_of_ended p q s.threads u) (lock_waiters (waits_beside p s.threads s.waits)) in
            ended_holds p q old s one (h.held.held q a b) (cases_eq q p) ∙ sym (ap (λ (xs : List Thread). list_any (holds_in xs q) (lock_waiters (waits_beside p s.threads s.waits))) all ∙ alike);
      };
    })

pub tracks_all_ended : (old new : Schedule) → new ≡ all_ended old → Tracks state_all_ended old new
tracks_all_ended old new e = λ places s h.
    rw e (record {
      threads = all_threads 1 s.threads ∙ ap (map at_end) h.threads;
      lines = subst (λ (line : List ℕ). AreLines (all_ended old) line) (sym (none_stays s.line)) (parts_all_ended old);
      words = words_quiet s.threads (each_from (ended_if (λ t. true)) 1 s.threads) 1 s.procs ∙ h.words;
      opened = h.opened;
      count = length-map old.lines emptied ∙ h.count;
      held = record {
        held = λ p a b.
            all_freed old.holds p ∙ sym (ap (λ (ws : List Waiter). list_any (holds_in (each_from (ended_if (λ t. true)) 1 s.threads) p) (lock_waiters ws)) (none_stays s.waits));
      };
    })

-- a thread is changed, but not its proc
pub tracks_changed : (f : Thread → Thread) → KeepsProc f → (t : ℕ) (rooms : Rooms) (old new : Schedule) → new ≡ record old { threads = changed f old.threads (t - 1); rooms = rooms } → Tracks (with_changed f t) old new
tracks_changed f keeps t rooms old new e = λ places s h.
    rw e (record {
      threads = ap (λ (xs : List Thread). changed f xs (t - 1)) h.threads;
      lines = parts_changed f keeps old _ (t - 1) s.line refl refl h.lines;
      words = h.words;
      opened = h.opened;
      count = h.count;
      held = held_still old _ s _ refl refl (λ p. held_changed f keeps (t - 1) s.threads p (lock_waiters s.waits)) h.held;
    })

-- a thread that lives is marked
marked_is : (t : ℕ) (old : Schedule) (s : State) → place_of (by_id old.threads t) ≢ place.Ended → s.threads ≡ old.threads → with_changed with_mark t s ≡ marked t s
marked_is t old s lives e =
    let a = alive (by_id old.threads t) lives in
    let at : by_id s.threads t ≡ Some a.thread = ap (λ (xs : List Thread). by_id xs t) e ∙ a.there in
    let same : with_mark a.thread ≡ doomed a.thread = rw a.alive refl in
    ap (λ (xs : List Thread). record s { threads = xs }) (changed_alike with_mark doomed s.threads (t - 1) a.thread (id_at s.threads t a.thread at) same)

pub tracks_marked : (t : ℕ) (old new : Schedule) → new ≡ with_mark_of t old → place_of (by_id old.threads t) ≢ place.Ended → Tracks (marked t) old new
tracks_marked t old new e lives = λ places s h.
    let now = tracks_changed with_mark (record { same = λ x. refl }) t old.rooms old new e places s h in
    subst (λ (x : State). SchedFor places new x) (marked_is t old s lives h.threads) now

pub tracks_worded : (p word : ℕ) (old new : Schedule) → new ≡ with_proc_word p word old → Tracks (λ s. (set_proc_word p word s).state) old new
tracks_worded p word old new e = λ places s h.
    rw e (record {
      threads = h.threads;
      lines = record { part = h.lines.part };
      words = map-changed (λ (x : Proc). x.word) (with_word_in word) (λ _. word) (λ x. refl) s.procs (p - 1) ∙ ap (λ (ws : List ℕ). changed (λ _. word) ws (p - 1)) h.words;
      opened = h.opened;
      count = h.count;
      held = record { held = h.held.held };
    })

-- the next id stands nowhere in the line
next_is_new : (old : Schedule) (s : State) → s.threads ≡ old.threads → StandOnce s.threads s.line s.waits → times (λ u. u == length old.threads + 1) s.line ≡ 0
next_is_new old s e stand = stand.in_line (length old.threads + 1) ∙ (rw (e, by_id-past old.threads (length old.threads + 1) (omega arith)) refl)

-- nor in the waits
made_held : (p : ℕ) (x : Thread) (old : Schedule) (s : State) → s.threads ≡ old.threads → StandOnce s.threads s.line s.waits → list_any (holds_in (s.threads ++ x ∷ []) p) (lock_waiters s.waits) ≡ state_is_held p s
made_held p x old s e stand =
    let n = length s.threads + 1 in
    let none : times (λ w. w.tid == n) s.waits ≡ 0 = stand.in_waits n ∙ ap (λ o. times_in_waits (place_in o)) (by_id-past s.threads n (omega arith)) in
    held_but n s.threads (s.threads ++ x ∷ []) p (λ u ne. ap (is_of p) (by_id-push_other s.threads x u ne)) s.waits none

pub tracks_made : (p program arg group : ℕ) (old new : Schedule) → new ≡ with_new p program arg group old → IsPlace p old → TracksStanding (with_thread p program arg group) old new
tracks_made p program arg group old new e place = λ places s stand h.
    rw e (record {
      threads = ap (λ (xs : List Thread). xs ++ fresh p program arg group ∷ []) h.threads;
      lines = rw h.threads (parts_made p (fresh p program arg group) old _ s.line place.from place.to refl refl refl (next_is_new old s h.threads stand) h.lines);
      words = h.words;
      opened = h.opened;
      count = length-changed _ old.lines (p - 1) ∙ h.count;
      held = held_still old _ s _ refl (length-changed _ old.lines (p - 1)) (λ q. made_held q (fresh p program arg group) old s h.threads stand) h.held;
    })

-- so many procs are open
opened_more : (n places : ℕ) (old : Schedule) (s : State) → SchedFor places old s → SchedFor places (record old { opened = n }) (record s { opened = n })
opened_more n places old s h = record { threads = h.threads; lines = record { part = h.lines.part }; words = h.words; opened = refl; count = h.count; held = record { held = h.held.held } }

pub tracks_opened : (program arg group : ℕ) (old new : Schedule) → new ≡ with_proc program arg group old → old.opened < length old.lines → TracksStanding (with_proc_in program arg group) old new
tracks_opened program arg group old new e lt = λ places s stand h.
    let n = old.opened + 1 in
    let place : IsPlace n (record old { opened = n }) = record { from = omega arith; to = omega arith } in
    rw h.opened (tracks_made n program arg group (record old { opened = n }) new e place places (record s { opened = n }) stand (opened_more n places old s h))

-- the next proc, once a thread was made there and it was opened
pub tracks_new_proc : (program arg group n : ℕ) (old mid new : Schedule) → n ≡ old.opened → mid ≡ with_new (n + 1) program arg group old → new ≡ record mid { opened = mid.opened + 1 } → n < length old.lines → TracksStanding (with_proc_in program arg group) old new
tracks_new_proc program arg group n old mid new at made is lt =
    tracks_opened program arg group old new (rw (is, made, at) refl) (omega arith)

-- where a proc has no ready thread
idle_by : (b : Bool) (places : ℕ) (sched : Schedule) (s : State) → SchedFor places sched s → SchedFor places sched (if b then stuck s else same Idle s).state
idle_by true places sched s h = record { threads = h.threads; lines = h.lines; words = h.words; opened = h.opened; count = h.count; held = record { held = h.held.held } }
idle_by false places sched s h = h

passes_if : (b : Bool) (p : ℕ → Bool) (x t : ℕ) (xs rest : List ℕ) → p x ≡ b → cond b (x ∷ xs) xs ≡ t ∷ rest → (xs ≡ t ∷ rest → p t ≡ true) → p t ≡ true
passes_if true p x t xs rest e h more = let same : x ≡ t = cc in rw (← same) e
passes_if false p x t xs rest e h more = more h

-- the first of those that pass passes
pub first_passes : (p : ℕ → Bool) (t : ℕ) (rest : List ℕ) → (line : List ℕ) → filter p line ≡ t ∷ rest → p t ≡ true
first_passes p t rest [] h = absurd (cc h)
first_passes p t rest (x ∷ line) h = passes_if (p x) p x t (filter p line) rest refl h (first_passes p t rest line)

-- a thread of proc p
pub record IsIn (p : ℕ) (o : Option Thread) : Type 0 where
  pub thread : Thread
  pub there : o ≡ Some thread
  pub mine : thread.proc_no ≡ p

pub is_in : (p : ℕ) (o : Option Thread) → is_of p o ≡ true → IsIn p o
is_in p None h = absurd (cc h)
is_in p (Some thread) h = record { thread = thread; there = refl; mine = search (rules, tests) }

none_next : (places : ℕ) (sched : Schedule) (s : State) (o : Option (ℕ × List ℕ)) → o ≡ None → SchedFor places sched s → SchedFor places sched (next_of s o).state
none_next places sched s None e h = idle_by (is_stuck s) places sched s h
none_next places sched s (Some found) e h = absurd (cc e)

-- in a proc that isn't held the first thread of its line is ready to run
first_is : (p : ℕ) (s : State) → state_is_held p s ≡ false → first_ready p s ≡ pick (λ u. is_of p (by_id s.threads u)) s.line
first_is p s free = rw free refl

-- in one that is held none is
first_none : (p : ℕ) (s : State) → state_is_held p s ≡ true → first_ready p s ≡ None
first_none p s on = rw on refl

-- the state once thread t, which was picked, runs
begun_state : (p t : ℕ) (others : List ℕ) (thread : Thread) (s : State) → state_is_held p s ≡ false → pick (λ u. is_of p (by_id s.threads u)) s.line ≡ Some (t, others) → by_id s.threads t ≡ Some thread → after_next p s ≡ record s { line = others; threads = placed t Running s.threads }
begun_state p t others thread s free picked there =
    ap (λ (o : Option (ℕ × List ℕ)). (next_of s o).state) (first_is p s free ∙ picked) ∙ ap (λ (o : Option Thread). (turn t (record s { line = others }) (option_map started o)).state) there

turned : (p : ℕ) (ready : Option Turn) (line : List ℕ) (old new : Schedule) → line_of p old ≡ line → (ready, new) ≡ turn_of p old line → IsPlace p old → is_held p old ≡ false → Tracks (after_next p) old new
turned p ready [] old new at e place free = λ places s h.
    let off = sym (h.held.held p place.from place.to) ∙ free in
    let n : new ≡ old = ap (λ (x : Option Turn × Schedule). x.1) e in
    let part = h.lines.part p place.from place.to in
    let none : pick (λ t. is_of p (by_id s.threads t)) s.line ≡ None = none_picked (λ t. is_of p (by_id s.threads t)) s.line (rw h.threads (sym part ∙ at)) in
    rw n (none_next places old s (first_ready p s) (first_is p s off ∙ none) h)
turned p ready (t ∷ rest) old new at e place free = λ places s h.
    let off = sym (h.held.held p place.from place.to) ∙ free in
    let n : new ≡ begun p t old = ap (λ (x : Option Turn × Schedule). x.1) e in
    let part = h.lines.part p place.from place.to in
    let its : filter (λ u. is_of p (by_id old.threads u)) s.line ≡ t ∷ rest = sym part ∙ at in
    let first = first_of (λ u. is_of p (by_id old.threads u)) t rest s.line its in
    let thread = is_in p (by_id old.threads t) (first_passes (λ u. is_of p (by_id old.threads u)) t rest s.line its) in
    let now = begun_state p t first.others thread.thread s off (rw h.threads first.picked) (rw h.threads thread.there) in
    rw n (subst (λ (x : State). SchedFor places (begun p t old) x) (sym now) (record {
      threads = ap (placed t Running) h.threads;
      lines = parts_begun p t rest s.line old thread.thread place.from thread.there thread.mine at first h.lines;
      words = h.words;
      opened = h.opened;
      count = length-changed _ old.lines (p - 1) ∙ h.count;
      held = held_still old _ s _ refl (length-changed _ old.lines (p - 1)) (λ q. held_changed (at_place Running) (place_keeps Running) (t - 1) s.threads q (lock_waiters s.waits)) h.held;
    }))

turned_by : (b : Bool) (p : ℕ) (ready : Option Turn) (old new : Schedule) → is_held p old ≡ b → (ready, new) ≡ (if b then (None, old) else turn_of p old (line_of p old)) → IsPlace p old → Tracks (after_next p) old new
turned_by true p ready old new on e place = λ places s h.
    let n : new ≡ old = ap (λ (x : Option Turn × Schedule). x.1) e in
    let held = sym (h.held.held p place.from place.to) ∙ on in
    rw n (none_next places old s (first_ready p s) (first_none p s held) h)
turned_by false p ready old new off e place = turned p ready (line_of p old) old new refl e place off

pub tracks_turn : (p : ℕ) (ready : Option Turn) (old new : Schedule) → (ready, new) ≡ next_in p old → IsPlace p old → Tracks (after_next p) old new
tracks_turn p ready old new e place = turned_by (is_held p old) p ready old new refl e place
