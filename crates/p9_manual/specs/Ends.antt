-- How threads end: one, those of a proc, or all of them. thread(2), notify(2).
use Rattle.std.specs.Prelude.{ℕ, ◌==◌, ◌&&◌, not, Bool, true, [], List, Option, Some, None, map, if◌then◌else◌}
use Rattle.std.specs.List.{filter, list_any}
use Rattle.p9_manual.specs.declared.state.Place.TheVariants.{Ended}
use Rattle.p9_manual.specs.declared.state.Thread.{Thread}
use Rattle.p9_manual.specs.declared.state.Ioproc.{Ioproc}
use Rattle.p9_manual.specs.declared.state.Ioproc.TheVariants.{Unmade, Idle, Posted, Begun, Closed}
use Rattle.p9_manual.specs.Places.{is_of, lives_in}
use Rattle.p9_manual.specs.State.{State, Proc, by_id, each_from}

-- the threads that end, as a test on their ids
abbrev pub Gone : Type 0
Gone = ℕ → Bool

-- the thread, ended
abbrev pub at_end : Thread → Thread
at_end thread = record thread { place = Ended }

-- thread t, ended if it is one of those that end
abbrev pub ended_if : Gone → ℕ → Thread → Thread
ended_if ends t thread = if ends t then at_end thread else thread

-- whom a begun call is for, once they have ended
abbrev pub kept_caller : Gone → Option ℕ → Option ℕ
kept_caller ends None = None
kept_caller ends (Some t) = if ends t then None else Some t

-- an ioproc without them: a call that one of them posted is removed, and a begun one goes on for nobody. ioproc(2)
abbrev pub let_go : Gone → Ioproc → Ioproc
let_go ends (Posted t call) = if ends t then Idle else Posted t call
let_go ends (Begun t call) = Begun (kept_caller ends t) call
let_go ends Unmade = Unmade
let_go ends Idle = Idle
let_go ends Closed = Closed

-- a thread of proc p lived before, and none lives after
abbrev pub dies_out : List Thread → List Thread → ℕ → Bool
dies_out before after p = list_any (lives_in p) before && not (list_any (lives_in p) after)

-- the proc, with no note pending
abbrev pub with_no_note : Proc → Proc
with_no_note proc = record proc { pending = [] }

-- proc p: its pending notes are removed with its last thread
abbrev pub quieted : List Thread → List Thread → ℕ → Proc → Proc
quieted before after p proc = if dies_out before after p then with_no_note proc else proc

-- a state in which other threads lived before
abbrev pub quiet_after : List Thread → State → State
quiet_after before s = record s { procs = each_from (quieted before s.threads) 1 s.procs }

-- these threads wait no more, and all else is as before
abbrev pub off_waits : Gone → State → State
off_waits ends s = record s { waits = filter (λ w. not (ends w.tid)) s.waits }

-- these threads have ended: they stand neither in the line nor in the waits, and no ioproc keeps them. What they hold stays held
abbrev pub ended_where : Gone → State → State
ended_where ends s =
    quiet_after s.threads (record s {
      threads = each_from (ended_if ends) 1 s.threads;
      line = filter (λ t. not (ends t)) s.line;
      waits = filter (λ w. not (ends w.tid)) s.waits;
      ioprocs = map (let_go ends) s.ioprocs;
    })

-- thread t has ended
abbrev pub ended : ℕ → State → State
ended t s = ended_where (λ u. u == t) s

-- all threads of proc p have ended, as a note does that no handler catches. notify(2)
abbrev pub proc_ended : ℕ → State → State
proc_ended p s = ended_where (λ t. is_of p (by_id s.threads t)) s

-- all threads have ended, and the run is at its end. threadexitsall in thread(2)
abbrev pub all_ended : State → State
all_ended s = record (ended_where (λ t. true) s) { over = true }
