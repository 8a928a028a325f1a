-- What callers see of one proc, and what its fields keep.
use Rattle.std.specs.Prelude.{ℕ, ◌+◌, ◌≤◌, Bool, cond, vec_len, vec_capacity}
use Rattle.std.specs.VecDeque.{deque_capacity, deque_len}
use Rattle.p9_note.specs.declared.inbox.Inbox.TheInside.{Inside}
use Rattle.p9_note.specs.ProcNotes.{ProcNotes}

-- one, if its memory is there
abbrev pub one_if : Bool → ℕ
one_if b = cond b 1 0

-- what callers see
abbrev pub shown : Inside → ProcNotes
shown s = record { handlers = s.handlers.items; pending = s.pending.items; room = s.room }

-- there is memory for one more handler and one more note, if that was taken
pub record IsKept (s : Inside) : Type 0 where
  pub handlers : vec_len s.handlers + one_if s.room ≤ vec_capacity s.handlers
  pub pending : deque_len s.pending + one_if s.room ≤ deque_capacity s.pending
