-- What the fields of a machine keep.
use Rattle.std.specs.Prelude.{◌≡◌, ◌≤◌, ◌+◌, length, Option, Some, None}
use Rattle.p9_word.specs.Filled.{Filled}
use Rattle.p9_word.specs.Setup.{IsValid}
use Rattle.p9_word.specs.declared.trail.Entry.{Entry}
use Rattle.p9_word.specs.declared.trail.Seat.{Seat}
use Rattle.p9_word.specs.declared.trail.Event.{Event}
use Rattle.p9_manual.specs.History.{state_after, IsLegal}
use Rattle.p9_machine.specs.declared.board.Board.{Board}
use Rattle.p9_machine.specs.declared.reserve.Reserved.{Reserved}
use Rattle.p9_machine.specs.declared.machine.Machine.TheInside.{Inside}
use Rattle.p9_machine.specs.Board.{Stands, calls_of}
use Rattle.p9_machine.specs.Reserved.{IsReserved, seat_of, event_of}
use Rattle.p9_machine.specs.Shown.{Shown}

abbrev pub reserved_of : Option Reserved → Option (Seat × Event)
reserved_of None = None
reserved_of (Some r) = Some (seat_of r.needs, event_of r.needs)

-- what callers see
abbrev pub shown : Inside → Shown
shown m =
    record {
      setup = m.board.setup;
      entries = m.trail.entries.items;
      halted = m.halted;
      reserved = reserved_of m.reserved;
      rooms = m.board.io.rooms;
    }

-- there is memory for what was reserved, if anything was: its own, that of its entry, and that of the entry for what comes
-- of each call that is begun after it
abbrev pub IsReservedIfAny : Board → Filled Entry → Option Reserved → Type 0
IsReservedIfAny board entries None = Unit {0}
IsReservedIfAny board entries (Some r) = IsReserved board r × (calls_of board + 2 ≤ entries.spare)

-- the board is where the history leads, and there is memory for what comes
pub record IsKept (m : Inside) : Type 0 where
  pub valid : IsValid m.board.setup
  pub board : Stands m.board (state_after m.board.setup m.trail.entries.items)
  pub legal : IsLegal m.board.setup m.trail.entries.items
  pub counted : m.board.position ≡ length m.trail.entries.items
  pub procs : m.trail.procs ≡ m.board.setup.procs
  pub start : m.trail.start ≡ m.board.setup.start
  pub spare : calls_of m.board ≤ m.trail.entries.spare
  pub memory : IsReservedIfAny m.board m.trail.entries m.reserved
