-- The requests on threads: their ids, procs, groups, names and words. thread(2).
use Rattle.std.specs.Prelude.{ℕ, ◌-◌, ◌==◌, ◌||◌, Bool, List, Option, Some, None, length, if◌then◌else◌, nat_lt}
use Rattle.p9_word.specs.declared.limits.TheConstants.{MOST_NAME_BYTES}
use Rattle.p9_word.specs.declared.answer.Answer.TheVariants.{Done, Number, Text}
use Rattle.p9_word.specs.declared.trail.Reply.TheVariants.{Ended as EndedReply}
use Rattle.p9_word.specs.declared.request.ThreadReq.{ThreadReq}
use Rattle.p9_word.specs.declared.request.ThreadReq.TheVariants as ask
use Rattle.p9_word.specs.declared.setup.Setup.{Setup}
use Rattle.p9_manual.specs.declared.state.Thread.{Thread}
use Rattle.p9_manual.specs.State.{State, Outcome, Proc, by_id, changed, replied, bad, now, done}
use Rattle.p9_manual.specs.Ends.{ended, all_ended}
use Rattle.p9_manual.specs.Create.{create_thread, create_proc}

-- the state with f of thread t
abbrev pub with_changed : (Thread → Thread) → ℕ → State → State
with_changed f t s = record s { threads = changed f s.threads (t - 1) }

-- the thread, in this group
abbrev pub in_group : ℕ → Thread → Thread
in_group group thread = record thread { group = group }

-- the thread, with this name
abbrev pub with_name : List ℕ → Thread → Thread
with_name name thread = record thread { name = name }

-- the thread, with this word
abbrev pub with_word : ℕ → Thread → Thread
with_word word thread = record thread { word = word }

-- the proc, with this word
abbrev pub with_proc_word : ℕ → Proc → Proc
with_proc_word word proc = record proc { word = word }

-- a name has one byte or more, and not too many
abbrev pub is_no_name : List ℕ → Bool
is_no_name name = length name == 0 || nat_lt MOST_NAME_BYTES (length name)

-- a thread is given a name, unless that has no bytes or too many
abbrev pub set_name : ℕ → List ℕ → State → Outcome
set_name t name s = if is_no_name name then bad s else now Done (with_changed (with_name name) t s)

-- the proc of a thread, also of one that has ended
abbrev pub pid_of : State → Option Thread → Outcome
pid_of s None = bad s
pid_of s (Some thread) = now (Number thread.proc_no) s

-- the word of a proc
abbrev pub word_of : State → Option Proc → Outcome
word_of s None = bad s
word_of s (Some proc) = now (Number proc.word) s

-- the word of proc p is set
abbrev pub set_proc_word : ℕ → ℕ → State → Outcome
set_proc_word p word s = now Done (record s { procs = changed (with_proc_word word) s.procs (p - 1) })

-- a request of thread t, which is this one
unfoldable pub asked : Setup → ℕ → ThreadReq → State → Thread → Outcome
asked setup t (ask.ThreadCreate program arg) s caller = create_thread setup program arg s caller
asked setup t (ask.ProcCreate program arg) s caller = create_proc setup t program arg s caller
asked setup t (ask.ThreadExits text) s caller = replied EndedReply (ended t s)
asked setup t (ask.ThreadExitsAll text) s caller = replied EndedReply (all_ended s)
asked setup t ask.Yield s caller = done t Done s
asked setup t ask.ThreadId s caller = now (Number t) s
asked setup t (ask.ThreadPid u) s caller = pid_of s (by_id s.threads u)
asked setup t ask.ThreadGetGrp s caller = now (Number caller.group) s
asked setup t (ask.ThreadSetGrp group) s caller = now (Number caller.group) (with_changed (in_group group) t s)
asked setup t (ask.ThreadSetName name) s caller = set_name t name s
asked setup t ask.ThreadGetName s caller = now (Text caller.name) s
asked setup t ask.ThreadWord s caller = now (Number caller.word) s
asked setup t (ask.ThreadSetWord word) s caller = now Done (with_changed (with_word word) t s)
asked setup t ask.ProcWord s caller = word_of s (by_id s.procs caller.proc_no)
asked setup t (ask.ProcSetWord word) s caller = set_proc_word caller.proc_no word s

-- a request of thread t. One that isn't there makes none
abbrev pub asked_by : Setup → ℕ → ThreadReq → State → Option Thread → Outcome
asked_by setup t r s None = bad s
asked_by setup t r s (Some caller) = asked setup t r s caller

-- a request of thread t on threads
unfoldable pub thread_call : Setup → ℕ → ThreadReq → State → Outcome
thread_call setup t r s = asked_by setup t r s (by_id s.threads t)
