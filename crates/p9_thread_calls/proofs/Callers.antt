-- What the thread that asks and its proc are in a state that the schedule stands for.
use Rattle.std.proofs.Common.{◌≡◌, ℕ, ◌+◌, ◌<◌, ◌≤◌, true, false, zero, suc, List, length, Option, Some, None, refl, sym, ap, subst, ◌∙◌, arith, rules, tests}
use Rattle.std.specs.Prelude.{map, nat_lt, option_map}
use Rattle.p9_word.specs.declared.limits.TheConstants.{MOST_THREADS}
use Rattle.p9_word.specs.declared.answer.Answer.{Answer}
use Rattle.p9_word.specs.declared.answer.Answer.TheVariants.{Number}
use Rattle.p9_word.specs.declared.request.ThreadReq.{ThreadReq}
use Rattle.p9_word.specs.declared.setup.Setup.{Setup}
use Rattle.p9_word.specs.declared.trail.Reply.{Reply}
use Rattle.p9_word.specs.declared.trail.Reply.TheVariants.{Now, Waits}
use Rattle.p9_manual.specs.declared.state.Thread.{Thread}
use Rattle.p9_manual.specs.Create.{create_proc, is_no_program}
use Rattle.p9_manual.specs.NoteCalls.{noted}
use Rattle.p9_manual.specs.Sound.{IsSound}
use Rattle.p9_manual.specs.State.{State, Outcome, Proc, by_id, changed, now, readied}
use Rattle.p9_manual.specs.Threads.{thread_call, with_proc_word, word_of}
use Rattle.p9_sched.specs.Made.{AddsProc}
use Rattle.p9_sched.specs.Schedule.{Schedule, IsMade, proc_of}
use Rattle.p9_sched.specs.Stands.{SchedFor, Tracks, TracksStanding, with_proc_in}
use Rattle.p9_sched.specs.Turns.{place_of}
use Rattle.p9_sched.specs.declared.turns.Place.TheVariants as place
use Rattle.p9_sched.proofs.Lists.{by_id-past, by_id-map, map-changed_same}
use Rattle.p9_thread_calls.specs.Serves.{Serves, ServesAll, ServesRequest}

-- a thread that runs is there
caller_of : (o : Option Thread) → place_of o ≡ place.Running → (caller : Thread) × (o ≡ Some caller)
caller_of None h = absurd (cc h)
caller_of (Some caller) h = (caller, refl)

-- a request of a thread that runs is served as that thread's
pub serves_call : (setup : Setup) (t : ℕ) (r : ThreadReq) (old new : Schedule) (reply : Reply) → place_of (by_id old.threads t) ≡ place.Running → ServesRequest setup t r old reply new → ServesAll setup (thread_call setup t r) old reply new
unfolding thread_call
serves_call setup t r old new reply runs serves = λ s h sound.
    let caller = caller_of (by_id old.threads t) runs in
    let there : by_id s.threads t ≡ Some caller.0 = rw h.threads caller.1 in
    rw there (serves caller.0 caller.1 s h sound)

-- an answer at once that changes nothing
pub serves_now : (a : Answer) (places : ℕ) (s : State) (o : Outcome) (sched : Schedule) → o ≡ now a s → SchedFor places sched s → Serves places s o (Now a) sched
serves_now a places s o sched e h = rw e (record { reply_is = refl; stands = h; others = refl; notes = refl; entry = refl })

id_none : (u : ℕ) (sched : Schedule) → (IsMade u sched → ⊥) → by_id sched.threads u ≡ None
id_none zero sched h = refl
id_none (suc u) sched h =
    let past : length sched.threads < suc u = not_within (suc u) (length sched.threads) (λ le. h (record { from = omega arith; to = le })) in
    by_id-past sched.threads (suc u) past
  where
    not_within : (u n : ℕ) → (u ≤ n → ⊥) → n < u
    not_within u n h = search (rules, tests)

-- a thread that wasn't made isn't there
pub not_made : (places u : ℕ) (sched : Schedule) (s : State) → (IsMade u sched → ⊥) → SchedFor places sched s → by_id s.threads u ≡ None
not_made places u sched s none h = rw h.threads (id_none u sched none)

word_by : (word : ℕ) (s : State) (o : Option Proc) → option_map (λ (p : Proc). p.word) o ≡ Some word → word_of s o ≡ now (Number word) s
word_by word s None e = absurd (cc e)
word_by word s (Some proc) e =
    let same : proc.word ≡ word = cc in
    rw same refl

-- the word of the caller's proc
pub word_told : (places p word : ℕ) (sched : Schedule) (s : State) (caller : Thread) (o : Option Thread) → o ≡ Some caller → p ≡ proc_of o → by_id sched.words p ≡ Some word → SchedFor places sched s → word_of s (by_id s.procs caller.proc_no) ≡ now (Number word) s
word_told places p word sched s caller o there at e h =
    let mine : caller.proc_no ≡ p = sym (at ∙ ap proc_of there) in
    let its = sym (by_id-map (λ (x : Proc). x.word) s.procs p) ∙ (ap (λ (ws : List ℕ). by_id ws p) h.words ∙ e) in
    rw mine (word_by word s (by_id s.procs p) its)

-- another word of a proc leaves its handlers and notes
pub noted_still : (word : ℕ) (ps : List Proc) (i : ℕ) → map noted (changed (with_proc_word word) ps i) ≡ map noted ps
noted_still word ps i = map-changed_same noted (with_proc_word word) (λ x. refl) ps i

-- a new proc, with the caller behind its thread
pub serves_proc : (setup : Setup) (t program arg n : ℕ) (caller : Thread) (group : ℕ) (old mid new : Schedule) (s : State) → is_no_program setup program ≡ false → AddsProc n program arg group old mid → group ≡ caller.group → TracksStanding (with_proc_in program arg group) old mid → Tracks (readied t (Number n)) mid new → SchedFor setup.places old s → IsSound setup s → Serves setup.places s (create_proc setup t program arg s caller) Waits new
serves_proc setup t program arg n caller group old mid new s off adds mine made ready h sound =
    let id : length s.threads + 1 ≡ n = ap (λ (xs : List Thread). length xs + 1) h.threads ∙ sym adds.id in
    let few : nat_lt (length s.threads) MOST_THREADS ≡ true = below (length s.threads) MOST_THREADS (rw h.threads adds.few) in
    let left : nat_lt s.opened setup.places ≡ true = below s.opened setup.places (rw (h.opened, ← h.count) adds.left) in
    let its : SchedFor setup.places new (readied t (Number n) (with_proc_in program arg group s)) = ready setup.places (with_proc_in program arg group s) (made setup.places s sound.stand h) in
    let at : SchedFor setup.places new (readied t (Number (length s.threads + 1)) (with_proc_in program arg group s)) = subst (λ (k : ℕ). SchedFor setup.places new (readied t (Number k) (with_proc_in program arg group s))) (sym id) its in
    rw (off, few, left) (record { reply_is = refl; stands = subst (λ (g : ℕ). SchedFor setup.places new (readied t (Number (length s.threads + 1)) (with_proc_in program arg g s))) mine at; others = refl; notes = refl; entry = refl })
  where
    below : (m n : ℕ) → m < n → nat_lt m n ≡ true
    below m n h = search (rules, tests)
