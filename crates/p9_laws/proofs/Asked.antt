-- What a request on threads does to a state. A new request is a case here, and in no law, unless it does what none of them does.
use Rattle.std.proofs.Common.{◌≡◌, ℕ, ◌+◌, ◌-◌, ◌<◌, Bool, true, false, not, cond, ◌||◌, eqb, ltb, List, length, Option, Some, None, refl, arith}
use Rattle.std.proofs.lemmas.Bool.{or_parts, ltb-true, ltb-false, eqb-false}
use Rattle.p9_word.specs.Setup.{IsBetween}
use Rattle.p9_word.specs.declared.answer.Answer.{Answer}
use Rattle.p9_word.specs.declared.answer.Answer.TheVariants.{Done, Number}
use Rattle.p9_word.specs.declared.request.Request.TheVariants.{Thread as ThreadRequest}
use Rattle.p9_word.specs.declared.request.ThreadReq.{ThreadReq}
use Rattle.p9_word.specs.declared.request.ThreadReq.TheVariants as ask
use Rattle.p9_word.specs.declared.setup.Setup.{Setup}
use Rattle.p9_word.specs.declared.trail.Reply.TheVariants.{Now, Ended as EndedReply}
use Rattle.p9_manual.specs.declared.state.Thread.{Thread}
use Rattle.p9_manual.specs.State.{State, Outcome, Proc, by_id, replied, now, done}
use Rattle.p9_manual.specs.Programs.{ends_all}
use Rattle.p9_manual.specs.Create.{with_thread, is_full, is_no_program, create_thread, create_proc}
use Rattle.p9_manual.specs.Ends.{ended, all_ended}
use Rattle.p9_manual.specs.Threads.{asked, asked_by, thread_call, with_changed, in_group, with_name, with_word, is_no_name, set_name, with_proc_word, pid_of, word_of}
use Rattle.p9_laws.proofs.Pending.{KeepNotes, changed_notes}
use Rattle.p9_laws.specs.Refusals.{is_refusal}

-- a change of a thread that leaves all that the laws look at
pub record LeavesStanding (f : Thread → Thread) : Type 0 where
  pub place : (x : Thread) → (f x).place ≡ x.place
  pub proc_no : (x : Thread) → (f x).proc_no ≡ x.proc_no
  pub program : (x : Thread) → (f x).program ≡ x.program

-- an answer that is no refusal
abbrev pub Grants : Answer → Type 0
Grants a = is_refusal (Now a) ≡ false

-- the state with a thread in the next proc, which is open now
abbrev pub with_proc : ℕ → ℕ → ℕ → State → State
with_proc program arg group s = with_thread (s.opened + 1) program arg group (record s { opened = s.opened + 1 })

-- all that a request of thread t that is no alt, and on no lock and no ioproc, may come to: an answer that changes nothing, a
-- change of the caller or of what no law looks at, the procs but for their notes; a new thread in the caller's proc or in the next one, a turn
-- for the others, and the end of the caller or of all
pub data Does (setup : Setup) (t : ℕ) (s : State) : Outcome → Type 0 where
  Answers : (a : Answer) → Does setup t s (now a s)
  ChangesCaller : (f : Thread → Thread) (caller : Thread) (a : Answer) → by_id s.threads t ≡ Some caller → LeavesStanding f → Grants a
      → Does setup t s (now a (with_changed f t s))
  ChangesAside : (procs : List Proc) (a : Answer) → Grants a → KeepNotes s.procs procs → Does setup t s (now a (record s { procs = procs }))
  MakesThread : (program arg : ℕ) (caller : Thread) → by_id s.threads t ≡ Some caller → IsBetween 1 setup.programs program
      → Does setup t s (now (Number (length s.threads + 1)) (with_thread caller.proc_no program arg caller.group s))
  MakesProc : (program arg : ℕ) (caller : Thread) → by_id s.threads t ≡ Some caller → IsBetween 1 setup.programs program → s.opened < setup.places
      → Does setup t s (done t (Number (length s.threads + 1)) (with_proc program arg caller.group s))
  GivesWay : Does setup t s (done t Done s)
  Ends : Does setup t s (replied EndedReply (ended t s))
  EndsAll : Does setup t s (replied EndedReply (all_ended s))

if_does : (setup : Setup) (t : ℕ) (s : State) (b : Bool) (o p : Outcome) → (b ≡ true → Does setup t s o) → (b ≡ false → Does setup t s p) → Does setup t s (cond b o p)
if_does setup t s true o p f g = f refl
if_does setup t s false o p f g = g refl

-- the setup has this program
program_is : (programs program : ℕ) → (eqb program 0 || ltb programs program) ≡ false → IsBetween 1 programs program
program_is programs program h =
    let parts = or_parts (eqb program 0) (ltb programs program) h in
    let ne = eqb-false program 0 parts.0 in
    record { from = omega arith; to = ltb-false programs program parts.1 }

create_thread_does : (setup : Setup) (t program arg : ℕ) (s : State) (x : Thread) → by_id s.threads t ≡ Some x → Does setup t s (create_thread setup program arg s x)
create_thread_does setup t program arg s x at =
    if_does setup t s (is_no_program setup program) _ _ (λ _. Answers _)
    (λ own. if_does setup t s (is_full s) _ _ (λ _. Answers _)
    (λ _. MakesThread program arg x at (program_is setup.programs program own)))

not_not : (b : Bool) → not b ≡ false → b ≡ true
not_not true h = refl
not_not false h = cc

create_proc_does : (setup : Setup) (t program arg : ℕ) (s : State) (x : Thread) → by_id s.threads t ≡ Some x → Does setup t s (create_proc setup t program arg s x)
create_proc_does setup t program arg s x at =
    if_does setup t s (is_no_program setup program) _ _ (λ _. Answers _)
    (λ own. if_does setup t s (is_full s || not (ltb s.opened setup.places)) _ _ (λ _. Answers _)
    (λ room. MakesProc program arg x at (program_is setup.programs program own)
    (ltb-true s.opened setup.places (not_not (ltb s.opened setup.places) (or_parts (is_full s) (not (ltb s.opened setup.places)) room).1))))

set_name_does : (setup : Setup) (t : ℕ) (name : List ℕ) (s : State) (x : Thread) → by_id s.threads t ≡ Some x → Does setup t s (set_name t name s)
set_name_does setup t name s x at =
    if_does setup t s (is_no_name name) _ _ (λ _. Answers _)
    (λ _. ChangesCaller (with_name name) x Done at (record { place = λ y. refl; proc_no = λ y. refl; program = λ y. refl }) refl)

pid_does : (setup : Setup) (t : ℕ) (s : State) (o : Option Thread) → Does setup t s (pid_of s o)
pid_does setup t s None = Answers _
pid_does setup t s (Some x) = Answers _

word_does : (setup : Setup) (t : ℕ) (s : State) (o : Option Proc) → Does setup t s (word_of s o)
word_does setup t s None = Answers _
word_does setup t s (Some proc) = Answers _

asked_does : (setup : Setup) (t : ℕ) (r : ThreadReq) (s : State) (x : Thread) → by_id s.threads t ≡ Some x → Does setup t s (asked setup t r s x)
unfolding asked
asked_does setup t (ask.ThreadCreate program arg) s x at = create_thread_does setup t program arg s x at
asked_does setup t (ask.ProcCreate program arg) s x at = create_proc_does setup t program arg s x at
asked_does setup t (ask.ThreadExits text) s x at = Ends
asked_does setup t (ask.ThreadExitsAll text) s x at = EndsAll
asked_does setup t ask.Yield s x at = GivesWay
asked_does setup t ask.ThreadId s x at = Answers _
asked_does setup t (ask.ThreadPid u) s x at = pid_does setup t s (by_id s.threads u)
asked_does setup t ask.ThreadGetGrp s x at = Answers _
asked_does setup t (ask.ThreadSetGrp group) s x at =
    ChangesCaller (in_group group) x (Number x.group) at (record { place = λ y. refl; proc_no = λ y. refl; program = λ y. refl }) refl
asked_does setup t (ask.ThreadSetName name) s x at = set_name_does setup t name s x at
asked_does setup t ask.ThreadGetName s x at = Answers _
asked_does setup t ask.ThreadWord s x at = Answers _
asked_does setup t (ask.ThreadSetWord word) s x at =
    ChangesCaller (with_word word) x Done at (record { place = λ y. refl; proc_no = λ y. refl; program = λ y. refl }) refl
asked_does setup t ask.ProcWord s x at = word_does setup t s (by_id s.procs x.proc_no)
asked_does setup t (ask.ProcSetWord word) s x at = ChangesAside _ Done refl (changed_notes (with_proc_word word) (λ proc. refl) s.procs (x.proc_no - 1))

asked_by_does : (setup : Setup) (t : ℕ) (r : ThreadReq) (s : State) (o : Option Thread) → by_id s.threads t ≡ o → Does setup t s (asked_by setup t r s o)
asked_by_does setup t r s None at = Answers _
asked_by_does setup t r s (Some x) at = asked_does setup t r s x at

pub thread_call_does : (setup : Setup) (t : ℕ) (r : ThreadReq) (s : State) → Does setup t s (thread_call setup t r s)
unfolding thread_call
thread_call_does setup t r s = asked_by_does setup t r s (by_id s.threads t) refl

asked_ends_all : (setup : Setup) (t : ℕ) (r : ThreadReq) (s : State) (x : Thread) → ends_all (ThreadRequest r) ≡ true → asked setup t r s x ≡ replied EndedReply (all_ended s)
unfolding asked
asked_ends_all setup t (ask.ThreadExitsAll text) s x all = refl
asked_ends_all setup t r s x all = cc

-- a request that ends all threads does no less, where its caller is there
pub thread_call_ends_all : (setup : Setup) (t : ℕ) (r : ThreadReq) (s : State) (x : Thread) → by_id s.threads t ≡ Some x → ends_all (ThreadRequest r) ≡ true → thread_call setup t r s ≡ replied EndedReply (all_ended s)
unfolding thread_call
thread_call_ends_all setup t r s x at all = rw at (asked_ends_all setup t r s x all)
