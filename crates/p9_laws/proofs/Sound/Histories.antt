-- Each step keeps a sound state sound, one that makes no entry changes nothing, and the first state is sound.
use Rattle.std.proofs.Common.{◌≡◌, zero-add, ℕ, zero, suc, ◌+◌, ◌<◌, Bool, true, false, not, eqb, List, [], ◌∷◌, map, replicate, Option, Some, None, refl, subst, sym, arith, rules, tests}
use Rattle.std.specs.Prelude.{slice_get, All}
use Rattle.std.specs.List.{fold, AllByRecursion}
use Rattle.std.specs.Option.{is_some}
use Rattle.std.proofs.lemmas.Bool.{not-false}
use Rattle.std.proofs.lemmas.List.Elements.{All-from_recursion, All-map, All-weaker}
use Rattle.p9_word.specs.Setup.{IsValid, IsThreadOf, IsBetween}
use Rattle.p9_word.specs.declared.trail.Reply.{Reply}
use Rattle.p9_word.specs.declared.setup.Setup.{Setup}
use Rattle.p9_word.specs.declared.setup.ChanSetup.{ChanSetup}
use Rattle.p9_word.specs.declared.setup.ThreadSetup.{ThreadSetup}
use Rattle.p9_word.specs.declared.request.Request.{Request}
use Rattle.p9_word.specs.declared.request.Request.TheVariants.{Thread as ThreadRequest, Signal as SignalRequest, Chan as ChanRequest, Lock as LockRequest, Io as IoRequest}
use Rattle.p9_word.specs.declared.trail.Seat.{Seat}
use Rattle.p9_word.specs.declared.trail.Seat.TheVariants.{Proc, Io as IoSeat}
use Rattle.p9_word.specs.declared.trail.Event.{Event}
use Rattle.p9_word.specs.declared.trail.Event.TheVariants.{Call, Next, IoTake, IoDid}
use Rattle.p9_word.specs.declared.trail.Entry.{Entry}
use Rattle.p9_word.specs.declared.trail.Reply.TheVariants.{Stray, Begin, Ended}
use Rattle.p9_manual.specs.declared.state.Place.TheVariants.{New}
use Rattle.p9_manual.specs.declared.state.Ioproc.{Ioproc}
use Rattle.p9_manual.specs.declared.state.Ioproc.TheVariants.{Unmade}
use Rattle.p9_manual.specs.Places.{runs_in, runs_there}
use Rattle.p9_manual.specs.Ends.{ended}
use Rattle.p9_manual.specs.NoteCalls.{note_in}
use Rattle.p9_manual.specs.State.{State, Outcome, by_id, replied}
use Rattle.p9_manual.specs.Step.{served, is_doomed, called, outcome, step, counted, settled, makes_entry}
use Rattle.p9_manual.specs.History.{state_after, begin_state, after_entry, ids_from, new_thread, new_channel, new_proc, no_holds}
use Rattle.p9_manual.specs.Standing.{times, place_of, place_in, times_in_line, times_in_waits}
use Rattle.p9_manual.specs.Sound.{IsSound, IsWithin, IsThreadIn, CallsMatch, call_of, message_at}
use Rattle.p9_laws.proofs.Asked.{thread_call_does}
use Rattle.p9_laws.proofs.Sound.Places.{by_id-suc}
use Rattle.p9_laws.proofs.Sound.Running.{at_rest, place_runs}
use Rattle.p9_laws.proofs.Sound.InTurn.{nobody_in_turn}
use Rattle.p9_laws.proofs.Sound.Order.{nobody_in_order}
use Rattle.p9_laws.proofs.Sound.Waits.{nobody_rightly}
use Rattle.p9_laws.proofs.Sound.Ends.{ended_sound}
use Rattle.p9_laws.proofs.Sound.Outcomes.{IsFine, IsSafe, BeginsOneOf, RunsIn, fine_safe, same_safe, if_safe, later_sound}
use Rattle.p9_laws.proofs.Sound.Threads.{asked_fine}
use Rattle.p9_laws.proofs.Sound.Chans.{chan_call_fine}
use Rattle.p9_laws.proofs.Sound.Locks.{lock_call_fine}
use Rattle.p9_laws.proofs.Sound.Ioprocs.{io_call_fine, io_event_safe}
use Rattle.p9_laws.proofs.Sound.Next.{next_event_safe}
use Rattle.p9_laws.proofs.Sound.Signals.{signal_call_fine}

served_fine : (setup : Setup) (t : ℕ) (r : Request) (s : State) → IsSound setup s → RunsIn s t → IsFine setup s.position (served setup t r s)
unfolding served
served_fine setup t (ThreadRequest r) s sound runs = asked_fine setup t s _ (thread_call_does setup t r s) sound runs
served_fine setup t (SignalRequest r) s sound runs = signal_call_fine setup t r s sound
served_fine setup t (ChanRequest r) s sound runs = chan_call_fine setup t r s sound runs
served_fine setup t (LockRequest r) s sound runs = lock_call_fine setup t r s sound runs
served_fine setup t (IoRequest r) s sound runs = io_call_fine setup t r s sound runs

-- a thread that is marked ends instead
doomed_safe : (setup : Setup) (t : ℕ) (s : State) → IsSound setup s → IsSafe setup s (replied Ended (ended t s))
doomed_safe setup t s sound = record { sound = later_sound setup (ended t s) (ended_sound setup (λ u. eqb u t) s sound); begins = tt }

called_safe : (setup : Setup) (p t : ℕ) (r : Request) (s : State) → IsSound setup s → IsSafe setup s (called setup p t r s)
unfolding called
called_safe setup p t r s sound =
    if_safe setup s (not (runs_there p (by_id s.threads t))) _ _ (λ _. same_safe setup s Stray refl sound)
    (λ e. if_safe setup s (is_doomed t r s) _ _ (λ _. doomed_safe setup t s sound)
    (λ _. fine_safe setup s _ (served_fine setup t r s sound (place_runs p (by_id s.threads t) (not-false (runs_there p (by_id s.threads t)) e)))))

outcome_safe : (setup : Setup) (seat : Seat) (event : Event) (s : State) → IsSound setup s → IsSafe setup s (outcome setup seat event s)
unfolding outcome
outcome_safe setup (Proc p) (Call t r) s sound = called_safe setup p t r s sound
outcome_safe setup (Proc p) Next s sound = next_event_safe setup p s sound
outcome_safe setup (Proc p) IoTake s sound = same_safe setup s Stray refl sound
outcome_safe setup (Proc p) (IoDid effect) s sound = same_safe setup s Stray refl sound
outcome_safe setup (IoSeat k) IoTake s sound = io_event_safe setup k s None sound
outcome_safe setup (IoSeat k) (IoDid effect) s sound = io_event_safe setup k s (Some effect) sound
outcome_safe setup (IoSeat k) (Call t r) s sound = same_safe setup s Stray refl sound
outcome_safe setup (IoSeat k) Next s sound = same_safe setup s Stray refl sound

-- where an entry is made the state is that after it, and else as it was
by_entry : (setup : Setup) (s : State) (o : Outcome) (b : Bool) → IsSound setup s → IsSafe setup s o → IsSound setup (settled b s o.state)
by_entry setup s o true sound safe = safe.sound
by_entry setup s o false sound safe = sound

pub step_sound : (setup : Setup) (seat : Seat) (event : Event) (s : State) → IsSound setup s → IsSound setup (step setup seat event s).state
unfolding step
step_sound setup seat event s sound =
    by_entry setup s (outcome setup seat event s) (makes_entry (outcome setup seat event s).reply) sound (outcome_safe setup seat event s sound)

counted_quiet : (s : State) (o : Outcome) → makes_entry o.reply ≡ false → (counted s o).state ≡ s
counted_quiet s o h = rw h refl

-- an event without an entry changes nothing
pub step_quiet : (setup : Setup) (seat : Seat) (event : Event) (s : State) → makes_entry (step setup seat event s).reply ≡ false → (step setup seat event s).state ≡ s
unfolding step
step_quiet setup seat event s h = counted_quiet s (outcome setup seat event s) h

begins_from : (programs t program arg : ℕ) (r : Reply) → BeginsOneOf programs r → r ≡ Begin t program arg → IsBetween 1 programs program
begins_from programs t program arg r h e = subst (λ (x : Reply). BeginsOneOf programs x) e h

-- a thread that begins has one of the programs
pub step_begins : (setup : Setup) (seat : Seat) (event : Event) (s : State) → IsSound setup s → (t program arg : ℕ) → (step setup seat event s).reply ≡ Begin t program arg → IsBetween 1 setup.programs program
unfolding step
step_begins setup seat event s sound t program arg e = begins_from setup.programs t program arg _ (outcome_safe setup seat event s sound).begins e

ids_below : (n u : ℕ) → (xs : List ThreadSetup) → u < n → times (λ x. eqb x u) (ids_from n xs) ≡ 0
ids_below n u [] lt = refl
ids_below n u (x ∷ xs) lt =
    let ne : eqb n u ≡ false = search (rules, tests) in
    let rest = ids_below (n + 1) u xs (omega arith) in
    rw (ne, rest) refl

ids_at : (n i j : ℕ) → (xs : List ThreadSetup) → j ≡ n + i → times (λ x. eqb x j) (ids_from n xs) ≡ times_in_line (place_in (slice_get (map new_thread xs) i))
ids_at n i j [] e = refl
ids_at n zero j (x ∷ xs) e =
    let here : n ≡ j = omega arith in
    let b : eqb n j ≡ true = search (rules, tests) in
    let rest = ids_below (n + 1) j xs (omega arith) in
    rw (b, rest) refl
ids_at n (suc i) j (x ∷ xs) e =
    let above : n < j = omega arith in
    let b : eqb n j ≡ false = search (rules, tests) in
    rw (b, zero-add) (ids_at (n + 1) i j xs (omega arith))

begin_line : (xs : List ThreadSetup) (t : ℕ) → times (λ x. eqb x t) (ids_from 1 xs) ≡ times_in_line (place_of (map new_thread xs) t)
begin_line xs zero = ids_below 1 zero xs (omega arith)
begin_line xs (suc i) = rw by_id-suc (ids_at 1 i (suc i) xs (omega arith))

begin_waits : (xs : List ThreadSetup) (i : ℕ) → 0 ≡ times_in_waits (place_in (slice_get (map new_thread xs) i))
begin_waits [] i = refl
begin_waits (x ∷ xs) zero = refl
begin_waits (x ∷ xs) (suc i) = begin_waits xs i

none_waits : (xs : List ThreadSetup) (t : ℕ) → 0 ≡ times_in_waits (place_of (map new_thread xs) t)
none_waits xs zero = refl
none_waits xs (suc i) = rw by_id-suc (begin_waits xs i)

begin_runs : (p : ℕ) → (xs : List ThreadSetup) → times (runs_in p) (map new_thread xs) ≡ 0
begin_runs p [] = refl
begin_runs p (x ∷ xs) = rw (at_rest (eqb x.proc_no p) New refl, begin_runs p xs) refl

unmade : (o : Option Ioproc) → Type 0
unmade o = (call_of o ≡ []) × (message_at o ≡ 0)

unmade_at : (n i : ℕ) → unmade (slice_get (replicate n Unmade) i)
unfolding unmade
unmade_at zero i = (refl, refl)
unmade_at (suc n) zero = (refl, refl)
unmade_at (suc n) (suc i) = unmade_at n i

unmade_by_id : (n k : ℕ) → unmade (by_id (replicate n Unmade) k)
unfolding unmade
unmade_by_id n zero = (refl, refl)
unmade_by_id n (suc i) = rw by_id-suc (unmade_at n i)

begin_calls : (files : ℕ) → CallsMatch (replicate files Unmade) []
unfolding unmade
begin_calls files = record { calls = λ k. sym (unmade_by_id files k).0; messages = λ k. let z = (unmade_by_id files k).1 in omega (arith, z) }

quiet_at : (n i : ℕ) → is_some (note_in (slice_get (replicate n new_proc) i)) ≡ false
quiet_at zero i = refl
quiet_at (suc n) zero = refl
quiet_at (suc n) (suc i) = quiet_at n i

-- no note is pending at the start
quiet_by_id : (n p : ℕ) → is_some (note_in (by_id (replicate n new_proc) p)) ≡ false
quiet_by_id n zero = refl
quiet_by_id n (suc i) = rw by_id-suc (quiet_at n i)

begin_members : (setup : Setup) → IsValid setup → All (IsThreadIn setup.opened setup.programs) (map new_thread setup.threads)
begin_members setup valid =
    All-map (IsThreadIn setup.opened setup.programs) new_thread setup.threads
    (All-weaker (IsThreadOf setup.opened setup.programs) (λ t. IsThreadIn setup.opened setup.programs (new_thread t)) (λ t h. record { proc_no = h.proc_no; program = h.program }) setup.threads valid.threads)

begin_within : (cs : List ChanSetup) → All IsWithin (map new_channel cs)
begin_within cs = All-from_recursion IsWithin (map new_channel cs) (each cs)
  where
    each : (cs : List ChanSetup) → AllByRecursion IsWithin (map new_channel cs)
    each [] = tt
    each (c ∷ cs) = (omega arith, each cs)

begin_sound : (setup : Setup) → IsValid setup → IsSound setup (begin_state setup)
begin_sound setup valid =
    record {
      stand = record { in_line = begin_line setup.threads; in_waits = none_waits setup.threads; one_runs = λ p. let z = begin_runs p setup.threads in omega (arith, z) };
      members = begin_members setup valid;
      opened = valid.opened.to;
      waits_right = nobody_rightly (map new_channel setup.chans);
      within = begin_within setup.chans;
      in_turn = nobody_in_turn (map new_thread setup.threads) (no_holds setup) (λ p. let z = begin_runs p setup.threads in omega (arith, z));
      order = nobody_in_order 0;
      calls = begin_calls setup.files;
      notes = λ p h. let none = quiet_by_id setup.places p in cc (none, h);
    }

fold_sound : (setup : Setup) (history : List Entry) (s : State) → IsSound setup s → IsSound setup (fold (after_entry setup) s history)
fold_sound setup [] s sound = sound
fold_sound setup (e ∷ history) s sound = fold_sound setup history (after_entry setup s e) (step_sound setup e.seat e.event s sound)

pub state_sound : (setup : Setup) (history : List Entry) → IsValid setup → IsSound setup (state_after setup history)
unfolding state_after
state_sound setup history valid = fold_sound setup history (begin_state setup) (begin_sound setup valid)
