-- How threads and procs are made. threadcreate and proccreate in thread(2).
use Rattle.std.specs.Prelude.{ℕ, ◌+◌, ◌==◌, ◌||◌, Bool, not, false, [], ◌∷◌, ◌++◌, length, if◌then◌else◌, nat_lt}
use Rattle.p9_word.specs.declared.limits.TheConstants.{MOST_THREADS}
use Rattle.p9_word.specs.declared.answer.Answer.TheVariants.{Number, Minus}
use Rattle.p9_word.specs.declared.setup.Setup.{Setup}
use Rattle.p9_manual.specs.declared.state.Place.TheVariants.{New}
use Rattle.p9_manual.specs.declared.state.Thread.{Thread}
use Rattle.p9_manual.specs.State.{State, Outcome, bad, now, done}

-- a thread that has not run yet
abbrev pub fresh : ℕ → ℕ → ℕ → ℕ → Thread
fresh p program arg group =
    record { proc_no = p; program = program; arg = arg; group = group; name = []; word = 0; marked = false; place = New }

-- a new thread in proc p has the next id and stands last in the line
abbrev pub with_thread : ℕ → ℕ → ℕ → ℕ → State → State
with_thread p program arg group s =
    record s { threads = s.threads ++ fresh p program arg group ∷ []; line = s.line ++ (length s.threads + 1) ∷ [] }

-- as many threads were made as there can be
abbrev pub is_full : State → Bool
is_full s = not (nat_lt (length s.threads) MOST_THREADS)

-- the setup has no such program
abbrev pub is_no_program : Setup → ℕ → Bool
is_no_program setup program = program == 0 || nat_lt setup.programs program

-- threadcreate: the new thread is in the caller's proc and group
abbrev pub create_thread : Setup → ℕ → ℕ → State → Thread → Outcome
create_thread setup program arg s caller =
    if is_no_program setup program then bad s
    else if is_full s then now Minus s
    else now (Number (length s.threads + 1)) (with_thread caller.proc_no program arg caller.group s)

-- proccreate: the new thread is the first of the next proc place, in the caller's group; it stands before the caller
abbrev pub create_proc : Setup → ℕ → ℕ → ℕ → State → Thread → Outcome
create_proc setup t program arg s caller =
    if is_no_program setup program then bad s
    else if is_full s || not (nat_lt s.opened setup.places) then now Minus s
    else done t (Number (length s.threads + 1)) (with_thread (s.opened + 1) program arg caller.group (record s { opened = s.opened + 1 }))
