-- The requests on notes, and how a proc's oldest note is delivered at its turn. notify(2); postnote is this project's own.
use Rattle.std.specs.Prelude.{ℕ, ◌-◌, ◌&&◌, ◌||◌, not, Bool, List, Option, Some, None, is_some, if◌then◌else◌, nat_le}
use Rattle.std.specs.List.{find, list_any}
use Rattle.p9_word.specs.declared.answer.Answer.TheVariants.{Done, Number}
use Rattle.p9_word.specs.declared.trail.Reply.TheVariants.{Caught, Died}
use Rattle.p9_manual.specs.declared.state.Thread.{Thread}
use Rattle.p9_manual.specs.declared.state.Waiter.{Waiter}
use Rattle.p9_manual.specs.Ends.{proc_ended}
use Rattle.p9_manual.specs.Interrupt.{interrupt, is_meeting}
use Rattle.p9_manual.specs.LockWaits.{lock_wait_of}
use Rattle.p9_manual.specs.Notes.{Delivery, delivery, is_no_note, notified, posted}
use Rattle.p9_manual.specs.Places.{is_of, lives_in}
use Rattle.p9_manual.specs.State.{State, Outcome, Proc, by_id, changed, bad, now, replied}

-- what notes find of a proc: its handlers and the pending ones
abbrev pub noted : Proc → List (ℕ × List ℕ) × List (List ℕ)
noted proc = (proc.handlers, proc.pending)

-- the state with f of proc p
abbrev pub with_proc : (Proc → Proc) → ℕ → State → State
with_proc f p s = record s { procs = changed f s.procs (p - 1) }

-- the proc, with these handlers
abbrev pub with_handlers : List (ℕ × List ℕ) → Proc → Proc
with_handlers handlers proc = record proc { handlers = handlers }

-- the proc, with these pending notes
abbrev pub with_pending : List (List ℕ) → Proc → Proc
with_pending pending proc = record proc { pending = pending }

-- the proc, with one more pending note
abbrev pub with_note : List ℕ → Proc → Proc
with_note note proc = with_pending (posted note proc.pending) proc

-- proc p has these handlers from now on; None says that nothing was done
abbrev pub handlers_set : ℕ → Option (List (ℕ × List ℕ)) → State → Outcome
handlers_set p None s = now (Number 0) s
handlers_set p (Some handlers) s = now (Number 1) (with_proc (with_handlers handlers) p s)

-- threadnotify in proc p, which is there
abbrev pub notify_in : ℕ → Bool → ℕ → List ℕ → State → Option Proc → Outcome
notify_in p on id prefix s None = bad s
notify_in p on id prefix s (Some proc) = handlers_set p (notified on id prefix proc.handlers) s

-- threadnotify in the proc of its caller
abbrev pub notify : Bool → ℕ → List ℕ → State → Option Thread → Outcome
notify on id prefix s None = bad s
notify on id prefix s (Some caller) =
    if is_no_note prefix then bad s else notify_in caller.proc_no on id prefix s (by_id s.procs caller.proc_no)

-- proc p is open, and a thread of it lives
abbrev pub is_alive : ℕ → State → Bool
is_alive p s = nat_le p s.opened && list_any (lives_in p) s.threads

-- the thread is one of proc p, and waits in a rendezvous
abbrev pub meets_in : ℕ → List Thread → Waiter → Bool
meets_in p threads w = is_meeting (lock_wait_of w.request) && is_of p (by_id threads w.tid)

-- the thread is interrupted, if there is one
abbrev pub interrupted : Option Waiter → State → State
interrupted None s = s
interrupted (Some w) s = (interrupt w.tid s).state

-- a note is put last among the pending ones of proc p, and the thread of it that waits in a rendezvous is interrupted
abbrev pub with_posted : ℕ → List ℕ → State → State
with_posted p note s = interrupted (find (meets_in p s.threads) s.waits) (with_proc (with_note note) p s)

-- postnote to proc p
abbrev pub post : ℕ → List ℕ → State → Outcome
post p note s = if is_no_note note || not (is_alive p s) then bad s else now Done (with_posted p note s)

-- what the delivery of a proc's oldest note comes to; None where no note is pending
abbrev pub note_in : Option Proc → Option Delivery
note_in None = None
note_in (Some proc) = delivery proc.handlers proc.pending

-- whether a note is pending there
abbrev pub has_note : Proc → Bool
has_note proc = is_some (delivery proc.handlers proc.pending)

-- what the oldest note of proc p comes to
abbrev pub next_note : ℕ → State → Option Delivery
next_note p s = note_in (by_id s.procs p)

-- a handler catches the note, or all threads of the proc end
abbrev pub met_by : ℕ → List ℕ → Option ℕ → State → Outcome
met_by p note (Some id) s = replied (Caught id) s
met_by p note None s = replied (Died note) (proc_ended p s)

-- the oldest note of proc p is delivered: it is pending no more
abbrev pub deliver : ℕ → Delivery → State → Outcome
deliver p d s = met_by p d.note d.caught_by (with_proc (with_pending d.pending) p s)
