-- The requests that interrupt or kill threads, and those on notes, keep a sound state sound.
use Rattle.std.proofs.Common.{◌≡◌, ◌≤◌, ℕ, ◌+◌, ◌-◌, Bool, true, false, not, cond, ◌&&◌, ◌||◌, eqb, nat_le, List, [], ◌∷◌, Option, Some, None, refl, subst, ◌∙◌, arith}
use Rattle.std.specs.List.{find, list_any}
use Rattle.std.proofs.lemmas.Bool.{and_parts, not-false, or_parts}
use Rattle.p9_word.specs.declared.answer.Answer.TheVariants.{Done, Interrupted, Number}
use Rattle.p9_word.specs.declared.io_call.IoCall.{IoCall}
use Rattle.p9_word.specs.declared.request.IoReq.TheVariants.{IoRun}
use Rattle.p9_word.specs.declared.request.Request.{Request}
use Rattle.p9_word.specs.declared.request.Request.TheVariants.{Io as IoRequest}
use Rattle.p9_word.specs.declared.request.SignalReq.{SignalReq}
use Rattle.p9_word.specs.declared.request.SignalReq.TheVariants as ask
use Rattle.p9_word.specs.declared.setup.Setup.{Setup}
use Rattle.p9_manual.specs.declared.state.Thread.{Thread}
use Rattle.p9_manual.specs.declared.state.Waiter.{Waiter}
use Rattle.p9_manual.specs.Interrupt.{Interruption, can_interrupt, doomed, each, interrupt, is_interruptible, kill, marked, members, signal_group, signal_thread, told, with_mark}
use Rattle.p9_manual.specs.NoteCalls.{handlers_set, interrupted, is_alive, meets_in, notify, notify_in, post, with_handlers, with_note, with_posted, with_proc}
use Rattle.p9_manual.specs.Notes.{is_no_note, notified}
use Rattle.p9_manual.specs.Places.{lives, lives_in}
use Rattle.p9_manual.specs.Signals.{signal_call}
use Rattle.p9_manual.specs.Sound.{AreNotesRead, IsSound, call_at, call_in, waiting_calls}
use Rattle.p9_manual.specs.Standing.{times}
use Rattle.p9_manual.specs.State.{State, Proc, by_id, changed, now, wake}
use Rattle.p9_laws.proofs.Asked.{LeavesStanding}
use Rattle.p9_laws.proofs.LockWaiters.{is_caller}
use Rattle.p9_laws.proofs.Pending.{alive_read, changed_notes, lives_from_one, noted_by_pending, read_on}
use Rattle.p9_laws.proofs.Sound.Calls.{uncalled_match}
use Rattle.p9_laws.proofs.Sound.Counts.{any_counts, times-append}
use Rattle.p9_laws.proofs.Sound.Fields.{with_changed_sound}
use Rattle.p9_laws.proofs.Sound.Outcomes.{IsFine, bad_fine, if_fine, now_fine}
use Rattle.p9_laws.proofs.Sound.Stand.{waits_once}
use Rattle.p9_laws.proofs.Sound.Woken.{woken_sound_apart}

-- thread t waits so that an interrupt ends its wait
abbrev stops : ℕ → Waiter → Bool
stops t w = eqb w.tid t && can_interrupt w.request

no_stop : (b : Bool) → cond {A = ℕ} (b && false) 1 0 ≡ 0
no_stop true = refl
no_stop false = refl

one_stop : (b c : Bool) → cond {A = ℕ} (b && c) 1 0 + 0 ≤ cond b 1 0
one_stop true true = omega arith
one_stop true false = omega arith
one_stop false c = omega arith

one_call : (t u : ℕ) (call : IoCall) (b : Bool) → cond {A = ℕ} (eqb u t && false) 1 0 + times (is_caller t) (cond b ((u, call) ∷ []) []) ≤ cond (eqb u t) 1 0
one_call t u call true = let none = no_stop (eqb u t) in omega (arith, none)
one_call t u call false = one_stop (eqb u t) false

stop_at : (k t u : ℕ) (r : Request) → cond {A = ℕ} (eqb u t && can_interrupt r) 1 0 + times (is_caller t) (call_in k u r) ≤ cond (eqb u t) 1 0
stop_at k t u (IoRequest (IoRun j call)) = one_call t u call (eqb j k)
stop_at k t u r = one_stop (eqb u t) (can_interrupt r)

-- a thread waits as often as in calls at an ioproc and as an interrupt can end together
stop_or_caller : (k t : ℕ) → (waits : List Waiter) → times (stops t) waits + times (is_caller t) (waiting_calls k waits) ≤ times (λ w. eqb w.tid t) waits
stop_or_caller k t [] = omega arith
stop_or_caller k t (w ∷ ws) =
    let a = times-append (is_caller t) (call_at k w) (waiting_calls k ws) in
    let here = stop_at k t w.tid w.request in
    let rest = stop_or_caller k t ws in
    omega (arith, a, here, rest)

-- a state that is sound, at the same position
abbrev KeepsSound : Setup → State → State → Type 0
KeepsSound setup s n = IsSound setup n × (n.position ≡ s.position)

stopped_sound : (setup : Setup) (t : ℕ) (s : State) → is_interruptible t s.waits ≡ true → IsSound setup s → IsSound setup (wake t Interrupted s)
stopped_sound setup t s h sound =
    let some = any_counts (stops t) s.waits h in
    let fewer = stop_or_caller 0 t s.waits in
    let here = waits_once s.threads s.line s.waits t sound.stand (omega (arith, some, fewer)) in
    woken_sound_apart setup s t Interrupted here.0
    (uncalled_match s.ioprocs s.waits t (λ k. let sum = stop_or_caller k t s.waits in let once = here.1 in omega (arith, some, sum, once)) sound.calls) sound

interrupt_by : (setup : Setup) (t : ℕ) (s : State) (b : Bool) → is_interruptible t s.waits ≡ b → IsSound setup s
    → KeepsSound setup s (cond {A = Interruption} b (record { count = 1; state = wake t Interrupted s }) (record { count = 0; state = s })).state
interrupt_by setup t s true h sound = (stopped_sound setup t s h sound, refl)
interrupt_by setup t s false h sound = (sound, refl)

interrupt_keeps : (setup : Setup) (t : ℕ) (s : State) → IsSound setup s → KeepsSound setup s (interrupt t s).state
interrupt_keeps setup t s sound = interrupt_by setup t s (is_interruptible t s.waits) refl sound

-- a mark leaves a thread where it is
doomed_leaves : LeavesStanding doomed
doomed_leaves = record { place = λ x. at_place x (lives x); proc_no = λ x. in_proc x (lives x); program = λ x. of_program x (lives x) }
  where
    at_place : (x : Thread) (b : Bool) → (cond b (with_mark x) x).place ≡ x.place
    at_place x true = refl
    at_place x false = refl

    in_proc : (x : Thread) (b : Bool) → (cond b (with_mark x) x).proc_no ≡ x.proc_no
    in_proc x true = refl
    in_proc x false = refl

    of_program : (x : Thread) (b : Bool) → (cond b (with_mark x) x).program ≡ x.program
    of_program x true = refl
    of_program x false = refl

kill_keeps : (setup : Setup) (t : ℕ) (s : State) → IsSound setup s → KeepsSound setup s (kill t s).state
kill_keeps setup t s sound = interrupt_keeps setup t (marked t s) (with_changed_sound setup doomed t s doomed_leaves sound)

-- a signal to a thread keeps a sound state sound
abbrev IsSoundSignal : Setup → (ℕ → State → Interruption) → Type 0
IsSoundSignal setup signal = (t : ℕ) (s : State) → IsSound setup s → KeepsSound setup s (signal t s).state

each_keeps : (setup : Setup) (signal : ℕ → State → Interruption) → IsSoundSignal setup signal → (ts : List ℕ) (s : State) → IsSound setup s → KeepsSound setup s (each signal ts s).state
each_keeps setup signal keeps [] s sound = (sound, refl)
each_keeps setup signal keeps (t ∷ ts) s sound =
    let one = keeps t s sound in
    let rest = each_keeps setup signal keeps ts (signal t s).state one.0 in
    (rest.0, rest.1 ∙ one.1)

told_fine : (setup : Setup) (s : State) (i : Interruption) → KeepsSound setup s i.state → IsFine setup s.position (told i)
told_fine setup s i kept = subst (λ (n : ℕ). IsFine setup n (told i)) kept.1 (now_fine setup i.state (Number i.count) kept.0)

signal_thread_fine : (setup : Setup) (signal : ℕ → State → Interruption) → IsSoundSignal setup signal → (u : ℕ) (s : State) (o : Option Thread) → IsSound setup s → IsFine setup s.position (signal_thread signal u s o)
signal_thread_fine setup signal keeps u s None sound = bad_fine setup s sound
signal_thread_fine setup signal keeps u s (Some thread) sound = told_fine setup s (signal u s) (keeps u s sound)

signal_group_fine : (setup : Setup) (signal : ℕ → State → Interruption) → IsSoundSignal setup signal → (group : ℕ) (s : State) → IsSound setup s → IsFine setup s.position (signal_group signal group s)
signal_group_fine setup signal keeps group s sound = told_fine setup s (each signal (members group s) s) (each_keeps setup signal keeps (members group s) s sound)

-- other procs, whose notes are read
pub with_procs_sound : (setup : Setup) (procs : List Proc) (s : State) → AreNotesRead procs s.threads → IsSound setup s → IsSound setup (record s { procs = procs })
with_procs_sound setup procs s read sound =
    record {
      stand = sound.stand;
      members = sound.members;
      opened = sound.opened;
      waits_right = sound.waits_right;
      within = sound.within;
      in_turn = sound.in_turn;
      order = sound.order;
      calls = sound.calls;
      notes = read;
    }

-- a change of a proc of which a thread lives
pub alive_sound : (setup : Setup) (f : Proc → Proc) (p : ℕ) (s : State) → list_any (lives_in p) s.threads ≡ true → IsSound setup s → IsSound setup (with_proc f p s)
alive_sound setup f p s alive sound =
    with_procs_sound setup (changed f s.procs (p - 1)) s (alive_read f s.procs s.threads p (lives_from_one s.opened setup.programs p s.threads sound.members alive) alive sound.notes) sound

handlers_fine : (setup : Setup) (p : ℕ) (o : Option (List (ℕ × List ℕ))) (s : State) → IsSound setup s → IsFine setup s.position (handlers_set p o s)
handlers_fine setup p None s sound = now_fine setup s (Number 0) sound
handlers_fine setup p (Some handlers) s sound =
    now_fine setup (with_proc (with_handlers handlers) p s) (Number 1)
    (with_procs_sound setup (changed (with_handlers handlers) s.procs (p - 1)) s
    (read_on s.procs (changed (with_handlers handlers) s.procs (p - 1)) s.threads s.threads
    (changed_notes (with_handlers handlers) (λ x. noted_by_pending handlers x.handlers x.pending) s.procs (p - 1)) (λ q h. h) sound.notes) sound)

notify_in_fine : (setup : Setup) (p : ℕ) (on : Bool) (id : ℕ) (prefix : List ℕ) (s : State) (o : Option Proc) → IsSound setup s → IsFine setup s.position (notify_in p on id prefix s o)
notify_in_fine setup p on id prefix s None sound = bad_fine setup s sound
notify_in_fine setup p on id prefix s (Some proc) sound = handlers_fine setup p (notified on id prefix proc.handlers) s sound

notify_fine : (setup : Setup) (on : Bool) (id : ℕ) (prefix : List ℕ) (s : State) (o : Option Thread) → IsSound setup s → IsFine setup s.position (notify on id prefix s o)
notify_fine setup on id prefix s None sound = bad_fine setup s sound
notify_fine setup on id prefix s (Some caller) sound =
    if_fine setup s.position (is_no_note prefix) _ _ (λ _. bad_fine setup s sound)
    (λ _. notify_in_fine setup caller.proc_no on id prefix s (by_id s.procs caller.proc_no) sound)

interrupted_keeps : (setup : Setup) (o : Option Waiter) (s : State) → IsSound setup s → KeepsSound setup s (interrupted o s)
interrupted_keeps setup None s sound = (sound, refl)
interrupted_keeps setup (Some w) s sound = interrupt_keeps setup w.tid s sound

posted_fine : (setup : Setup) (p : ℕ) (note : List ℕ) (s : State) → list_any (lives_in p) s.threads ≡ true → IsSound setup s → IsFine setup s.position (now Done (with_posted p note s))
posted_fine setup p note s alive sound =
    let kept = interrupted_keeps setup (find (meets_in p s.threads) s.waits) (with_proc (with_note note) p s) (alive_sound setup (with_note note) p s alive sound) in
    subst (λ (n : ℕ). IsFine setup n (now Done (with_posted p note s))) kept.1 (now_fine setup (with_posted p note s) Done kept.0)

post_fine : (setup : Setup) (p : ℕ) (note : List ℕ) (s : State) → IsSound setup s → IsFine setup s.position (post p note s)
post_fine setup p note s sound =
    if_fine setup s.position (is_no_note note || not (is_alive p s)) _ _ (λ _. bad_fine setup s sound)
    (λ h.
    let alive = not-false (is_alive p s) (or_parts (is_no_note note) (not (is_alive p s)) h).1 in
    posted_fine setup p note s (and_parts (nat_le p s.opened) (list_any (lives_in p) s.threads) alive).1 sound)

pub signal_call_fine : (setup : Setup) (t : ℕ) (r : SignalReq) (s : State) → IsSound setup s → IsFine setup s.position (signal_call t r s)
unfolding signal_call
signal_call_fine setup t (ask.ThreadInt u) s sound = signal_thread_fine setup interrupt (interrupt_keeps setup) u s (by_id s.threads u) sound
signal_call_fine setup t (ask.ThreadKill u) s sound = signal_thread_fine setup kill (kill_keeps setup) u s (by_id s.threads u) sound
signal_call_fine setup t (ask.ThreadIntGrp group) s sound = signal_group_fine setup interrupt (interrupt_keeps setup) group s sound
signal_call_fine setup t (ask.ThreadKillGrp group) s sound = signal_group_fine setup kill (kill_keeps setup) group s sound
signal_call_fine setup t (ask.ThreadNotify on id prefix) s sound = notify_fine setup on id prefix s (by_id s.threads t) sound
signal_call_fine setup t (ask.PostNote p note) s sound = post_fine setup p note s sound
