-- What the desks stand for, and what the board keeps.
use Rattle.std.specs.Prelude.{◌≡◌, Bool, List, map}
use Rattle.p9_manual.specs.declared.state.Ioproc.{Ioproc}
use Rattle.p9_io.specs.declared.desk.Desk.{Desk}
use Rattle.p9_io.specs.declared.board.IoBoard.TheInside.{Inside}
use Rattle.p9_io.specs.Calls.{begun_count}
use Rattle.p9_io.specs.Desks.{Desks}

abbrev pub ioprocs_of : List Desk → List Ioproc
ioprocs_of desks = map (λ d. d.ioproc) desks

abbrev pub rooms_of : List Desk → List Bool
rooms_of desks = map (λ d. d.is_here) desks

abbrev pub prepared_of : List Desk → List Bool
prepared_of desks = map (λ d. d.is_prepared) desks

-- what the desks show
abbrev pub shown_of : List Desk → Desks
shown_of desks = record { ioprocs = ioprocs_of desks; rooms = rooms_of desks; prepared = prepared_of desks }

-- what callers see
abbrev pub shown : Inside → Desks
shown m = shown_of m.desks.items

-- the number kept is that of the begun calls
abbrev pub IsKept : Inside → Type 0
IsKept m = m.begun ≡ begun_count (ioprocs_of m.desks.items)
